use Rattle.std.proofs.Common.{◌≡◌, ℕ, List, Ok, Err, MatchResult, true, false, sym, ap, subst, ◌∙◌}
use Rattle.std.specs.List.{list_any}
use Rattle.csv_line.proofs.NoTexts.{not_utf8}
use Rattle.feed_rows.specs.Rows.{IsFaultOf}
use Rattle.feed_csv.specs.Columns.{is_ignored, put_cell}
use Rattle.feed_csv.proofs.Cellwise.{put_other}
use Rattle.feed_csv.proofs.column.put_cell.Goals as goal

pub returns-in-Ok : goal.returns-in-Ok
returns-in-Ok c =
    subst (λ (cell : List ℕ). MatchResult c.put_text.result (λ x. put_cell c.args.number c.args.column.now cell c.args.event.now ≡ Ok c.put_text.new.event) (IsFaultOf (put_cell c.args.number c.args.column.now cell c.args.event.now)))
    c.in-Ok.ensures.cases.0 c.put_text.ensures

pub returns-in-Err : goal.returns-in-Err
returns-in-Err c =
    put_other c.args.number c.args.column.now c.args.cell.now c.args.event.now true (not_utf8 c.args.cell.now c.in-Err.ensures.cases.0)
    (ap (list_any is_ignored) (sym c.as_slice.ensures) ∙ sym c.has_ignored.ensures ∙ c.if-has_ignored.true)

pub returns-in_ok-column_note-in-Err-2 : goal.returns-in_ok-column_note-in-Err-2
returns-in_ok-column_note-in-Err-2 c =
    put_other c.args.number c.args.column.now c.args.cell.now c.args.event.now false (not_utf8 c.args.cell.now c.in-Err.ensures.cases.0)
    (ap (list_any is_ignored) (sym c.as_slice.ensures) ∙ sym c.has_ignored.ensures ∙ c.if-has_ignored.false) ∙ ap Err (sym c.in_ok-column_note-in-Err-2.ensures)
