use Rattle.report_cut.proofs.SingleLine.{ended_text, open_text}
use Rattle.report_cut.proofs.line.without_newline.Goals as goal

pub returns-in-Some : goal.returns-in-Some
returns-in-Some c = ended_text c.args.line.now c.in-Some.end c.in-Some.ensures c.if-line-end-eq-NEWLINE.true

pub returns-in_default : goal.returns-in_default
returns-in_default c = open_text c.args.line.now c.in-Some.end c.in-Some.ensures c.if-line-end-eq-NEWLINE.false
