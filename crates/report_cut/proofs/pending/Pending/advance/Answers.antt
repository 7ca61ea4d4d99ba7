use Rattle.std.proofs.Common.{arith, ⊎_elim}
use Rattle.report_cut.proofs.Handing.{header_long}
use Rattle.report_cut.proofs.pending.Pending.advance.Goals as goal

pub returns-then-head-gt-LONGEST_LINE : goal.returns-then-head-gt-LONGEST_LINE
returns-then-head-gt-LONGEST_LINE c =
    header_long c.args.self.now c.in-Some.head c.in-Some.ensures.header (⊎_elim (λ short. absurd (omega arith)) (λ is. is) c.in-Some.ensures.short) c.if-head-gt-LONGEST_LINE.true
