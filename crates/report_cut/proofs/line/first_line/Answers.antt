use Rattle.std.proofs.Common.{◌+◌, ◌∷◌, drop, sym, ◌∙◌, ap}
use Rattle.base_types.specs.Lines.{lines_of}
use Rattle.report_cut.proofs.Reading.{ends_nowhere}
use Rattle.report_cut.proofs.SingleLine.{first_ended, only_line, some_bytes}
use Rattle.report_cut.proofs.line.first_line.Goals as goal

pub returns-in-Some-clause-lines : goal.returns-in-Some-clause-lines
returns-in-Some-clause-lines c =
    let parts = c.split_at.ensures in
    first_ended c.args.bytes.now c.in-Some.at c.in-Some.ensures
    ∙ ap (λ xs. xs ∷ lines_of (drop (c.in-Some.at + 1) c.args.bytes.now)) (sym parts.front) ∙ ap (λ xs. c.split_at.result.0.now ∷ lines_of xs) (sym parts.back)

pub returns-in-None-2-clause-lines : goal.returns-in-None-2-clause-lines
returns-in-None-2-clause-lines c =
    only_line c.args.bytes.now (some_bytes c.args.bytes.now c.if-is_empty.ensures) (ends_nowhere c.args.bytes.now c.in-None.ensures)
