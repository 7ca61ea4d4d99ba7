use Rattle.std.proofs.Common.{drop, subst}
use Rattle.report_cut.specs.Scan.{IsOneLine}
use Rattle.report_cut.proofs.Reading.{EndsAt, ends_behind, ends_nowhere_behind}
use Rattle.report_cut.proofs.Header.{header_found, header_none}
use Rattle.report_cut.proofs.pending.Pending.header_end.Goals as goal

pub returns-in_err-i : goal.returns-in_err-i
returns-in_err-i c =
    rw c.from_residual.ensures (c.if-not-self.false, header_none c.args.self.now c.args.before c.requires c.if-not-self.false (subst (λ xs. IsOneLine (drop c.args.before xs)) c.deref.ensures.value (ends_nowhere_behind c.deref.result.now c.args.before c.in_err-i.ensures)))

pub returns : goal.returns
returns c =
    header_found c.args.self.now c.args.before c.in_ok-i.i c.requires c.if-not-self.false (subst (λ xs. EndsAt (drop c.args.before xs) c.in_ok-i.i) c.deref.ensures.value (ends_behind c.deref.result.now c.args.before c.in_ok-i.i c.in_ok-i.ensures))
