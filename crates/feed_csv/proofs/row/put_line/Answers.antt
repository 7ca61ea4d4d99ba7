use Rattle.std.proofs.Common.{◌≡◌, ℕ, List, Ok, MatchResult, ap, subst}
use Rattle.csv_line.proofs.NoTexts.{not_utf8}
use Rattle.feed_rows.specs.Notes.{row_note}
use Rattle.feed_rows.specs.Rows.{IsFaultOf}
use Rattle.feed_rows.specs.declared.notes.RowFault.TheVariants.{Utf8}
use Rattle.feed_rows.proofs.Rowwise.{noted_fault}
use Rattle.feed_csv.specs.Cells.{cells_in}
use Rattle.feed_csv.specs.Rows.{of_cells}
use Rattle.feed_csv.proofs.Lines.{not_text}
use Rattle.feed_csv.proofs.row.put_line.Goals as goal

pub returns-in-Ok : goal.returns-in-Ok
returns-in-Ok c =
    let rule = c.args.rule.now in
    subst (λ (line : List ℕ). MatchResult c.put_text_line.result (λ x. of_cells rule c.args.event.now (cells_in rule.delimiter line) ≡ Ok c.put_text_line.new.event) (IsFaultOf (of_cells rule c.args.event.now (cells_in rule.delimiter line))))
    c.in-Ok.ensures.cases.0 c.put_text_line.ensures

pub returns-in-Err : goal.returns-in-Err
returns-in-Err c =
    noted_fault (row_note Utf8) c.refused.result _
    (ap (of_cells c.args.rule.now c.args.event.now) (not_text c.args.rule.now.delimiter c.args.line.now (not_utf8 c.args.line.now c.in-Err.ensures.cases.0))) c.refused.ensures
