use Rattle.std.proofs.Common.{◌≡◌, ◌==◌, ℕ, List, Result, Ok, MatchResult, sym, ap, subst}
use Rattle.std.specs.List.{slice_split}
use Rattle.base_types.specs.declared.message.FaultNote.{FaultNote}
use Rattle.feed_rows.specs.Rows.{IsFaultOf}
use Rattle.feed_csv.specs.Cells.{of_record}
use Rattle.feed_csv.specs.Columns.{put_cells}
use Rattle.feed_csv.specs.Rows.{of_cells}
use Rattle.feed_csv.specs.declared.column.Column.{Column}
use Rattle.feed_csv.proofs.row.put_plain.Goals as goal

pub returns : goal.returns
returns c =
    let rule = c.args.rule.now in
    let event = c.args.event.now in
    let parts = slice_split (λ b. b == rule.delimiter) c.args.line.now in
    subst (λ (r : Result (List (List ℕ)) FaultNote). MatchResult c.put_parts.result (λ x. of_cells rule event r ≡ Ok c.put_parts.new.event) (IsFaultOf (of_cells rule event r)))
    (sym (ap of_record (c.plain_lines_are_split.ensures rule.delimiter c.args.line.now c.requires.plain)))
    (subst (λ (columns : List Column). MatchResult c.put_parts.result (λ x. put_cells 0 columns parts event ≡ Ok c.put_parts.new.event) (IsFaultOf (put_cells 0 columns parts event)))
    c.as_slice.ensures c.put_parts.ensures)
