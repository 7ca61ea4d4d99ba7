use Rattle.std.proofs.Common.{true, Err, refl, sym, ◌∙◌, ap, subst}
use Rattle.report_cut.specs.Pieces.{next}
use Rattle.report_cut.specs.Cutter.{CutsAll}
use Rattle.feed_reader.specs.declared.coming.Coming.{Coming}
use Rattle.feed_reader.proofs.Given.{none_of}
use Rattle.feed_reader.proofs.Taken.{stands_at}
use Rattle.feed_reader.proofs.Ended.{Ended, counted_ended, stands_ended}
use Rattle.feed_reader.proofs.coming.Coming.end.Goals as goal

-- the rest was cut off
abbrev now : goal.After-self-1 → Coming
now c = record { cutter = c.end.new.self; pieces = c.from_vec.result; at = c.args.self.now.at; read = c.args.self.now.read; ended = true }

over : (c : goal.After-self-1) → Ended c.args.self.now (now c)
over c = record {
  going = c.requires.going;
  over = refl;
  none = c.requires.none;
  none_long = none_of c.args.self.now.cutter.long (λ at is. absurd (cc ((c.in-Ok.ensures.long at).1 is)));
  at = refl;
  cutter = c.in-Ok.ensures.ended;
  all = subst (CutsAll c.args.self.now.cutter) (sym (c.from_vec.ensures.items ∙ c.into_vec.ensures)) c.in-Ok.ensures.all;
}

pub returns-in-Ok-clause-counted : goal.returns-in-Ok-clause-counted
returns-in-Ok-clause-counted c = counted_ended c.args.self.now _ c.requires.counted (over c)

pub returns-in-Ok-clause-stands : goal.returns-in-Ok-clause-stands
returns-in-Ok-clause-stands c = λ feed stands past. stands_ended c.args.self.now _ feed c.requires.counted (over c) stands past

pub returns-in-Err-LongLine-clause-long : goal.returns-in-Err-LongLine-clause-long
returns-in-Err-LongLine-clause-long c = λ feed stands.
    let at = c.in-Err-LongLine.at in
    ap (next c.args.self.now.cutter.rule feed) (stands_at c.args.self.now c.requires.counted c.requires.going c.requires.none)
    ∙ (stands.reached c.requires.going).stays at ((c.in-Err-LongLine.ensures.long at).0 (ap (λ f. Err f) c.in-Err-LongLine.field-0-is))
