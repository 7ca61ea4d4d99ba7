use Rattle.std.proofs.Common.{◌≡◌, false, take, sym, ap, ◌∙◌, subst, arith}
use Rattle.report_cut.specs.Pieces.{start_of}
use Rattle.report_cut.specs.Cutter.{StaysLong}
use Rattle.report_cut.specs.Pending.{cutting_of, held_of}
use Rattle.report_cut.proofs.Handing.{cut_off_left, long_at_start, sound_waits, follows_waits}
use Rattle.report_cut.proofs.pending.Pending.cut_off.Goals as goal

pub returns-then-parts-gt0 : goal.returns-then-parts-gt0
returns-then-parts-gt0 c = cut_off_left c.args.self.now c.args.head c.args.parts c.in_ok-left.left c.requires c.in_ok-left.ensures c.if-parts-gt0.true

pub returns-then-parts : goal.returns-then-parts
returns-then-parts c =
    let p = c.args.self.now in
    let start : c.lines_start-at.result ≡ start_of p.rule (take c.args.head p.bytes.items) p.at = c.lines_start-at.ensures ∙ ap (λ xs. start_of p.rule (take c.args.head xs) p.at) c.deref.ensures.value in
    subst (λ n. StaysLong (cutting_of p false) (held_of p) p.at n) (sym start) (long_at_start p c.args.head c.args.parts c.requires c.if-parts.true (omega arith))

pub returns : goal.returns
returns c =
    (sound_waits c.args.self.now c.args.head c.args.parts c.requires c.if-parts.false (omega arith), follows_waits c.args.self.now c.args.head c.args.parts c.requires c.if-parts.false (omega arith))
