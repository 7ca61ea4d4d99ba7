use Rattle.std.proofs.Common.{◌+◌, ◌++◌, length, refl, sym, ◌∙◌, subst, arith}
use Rattle.report_cut.specs.Cutter.{ComeNext, Follows, IsFaultOf}
use Rattle.feed_reader.specs.declared.coming.Coming.{Coming}
use Rattle.feed_reader.proofs.Given.{none_of}
use Rattle.feed_reader.proofs.Taken.{Took, stands_at, counted_then, steps_then, stands_then, long_then, stands_long}
use Rattle.feed_reader.proofs.coming.Coming.take_in.Goals as goal

pub overflow_add-self : goal.overflow_add-self
overflow_add-self c =
    let k = c.requires.counted in let s = c.args.self.now.cutter in
    let none_long = none_of s.long (λ at is. absurd (cc (c.in-Ok.ensures.again at is))) in
    omega (arith, k.read c.requires.going none_long, k.bounded, stands_at c.args.self.now k c.requires.going c.requires.none, c.requires.near, c.requires.few)

-- the pieces were cut off
abbrev now : goal.After-self-1 → Coming
now c = record { cutter = c.feed.new.self; pieces = c.from_vec.result; at = c.args.self.now.at; read = c.args.self.now.read + length c.args.bytes.now; ended = c.args.self.now.ended }

took : (c : goal.After-self-1) → Took c.args.self.now (now c) c.args.bytes.now
took c =
    let s = c.args.self.now.cutter in let bytes = c.args.bytes.now in
    let cuts = c.from_vec.ensures.items ∙ c.into_vec.ensures in
    record {
      going = c.requires.going;
      still = c.requires.going;
      none = c.requires.none;
      none_long = none_of s.long (λ at is. absurd (cc (c.in-Ok.ensures.again at is)));
      at = refl;
      read = refl;
      next = subst (ComeNext s (s.held ++ bytes)) (sym cuts) c.in-Ok.ensures.next;
      follows = subst (λ l. Follows s (s.held ++ bytes) l c.feed.new.self) (sym cuts) c.in-Ok.ensures.follows;
    }

pub returns-in-Ok-clause-counted : goal.returns-in-Ok-clause-counted
returns-in-Ok-clause-counted c = counted_then c.args.self.now _ c.args.bytes.now c.requires.counted (took c) c.in-Ok.ensures.bounded c.in-Ok.ensures.going

pub returns-in-Ok-clause-steps : goal.returns-in-Ok-clause-steps
returns-in-Ok-clause-steps c = λ _. steps_then c.args.self.now _ c.args.bytes.now c.requires.counted (took c) c.requires.some c.in-Ok.ensures.bounded

pub returns-in-Ok-clause-stands : goal.returns-in-Ok-clause-stands
returns-in-Ok-clause-stands c = λ feed stands goes_on. stands_then c.args.self.now _ c.args.bytes.now feed c.requires.counted (took c) stands goes_on

pub returns-in-Err-LongLine-clause-long : goal.returns-in-Err-LongLine-clause-long
returns-in-Err-LongLine-clause-long c = λ feed stands goes_on.
    let old = c.args.self.now.cutter in
    let fault = subst (IsFaultOf old (old.held ++ c.args.bytes.now) c.feed.new.self) c.in-Err-LongLine.field-0-is c.in-Err-LongLine.ensures.fault in
    long_then c.args.self.now c.args.bytes.now feed c.in-Err-LongLine.at c.requires.counted c.requires.going c.requires.none fault.0 stands goes_on

pub returns-in-Err-LongLine-clause-stands : goal.returns-in-Err-LongLine-clause-stands
returns-in-Err-LongLine-clause-stands c = λ feed stands goes_on.
    let old = c.args.self.now.cutter in
    let fault = subst (IsFaultOf old (old.held ++ c.args.bytes.now) c.feed.new.self) c.in-Err-LongLine.field-0-is c.in-Err-LongLine.ensures.fault in
    stands_long c.args.self.now _ feed c.in-Err-LongLine.at c.requires.counted c.requires.going c.requires.none fault.1 c.requires.none refl refl stands
    (long_then c.args.self.now c.args.bytes.now feed c.in-Err-LongLine.at c.requires.counted c.requires.going c.requires.none fault.0 stands goes_on)
