use Rattle.std.proofs.Common.{◌≡◌, ℕ, List, Result, Ok, MatchResult, sym, ap, subst, ◌∙◌}
use Rattle.std.proofs.lemmas.Str.{is_utf8-from_IsUtf8}
use Rattle.base_types.specs.declared.message.FaultNote.{FaultNote}
use Rattle.csv_line.specs.Cells.{has_odd_quotes}
use Rattle.csv_line.specs.Line.{one_record}
use Rattle.csv_line.specs.Plain.{is_plain}
use Rattle.feed_rows.specs.Notes.{row_note}
use Rattle.feed_rows.specs.Rows.{IsFaultOf}
use Rattle.feed_rows.specs.declared.notes.RowFault.TheVariants.{Quotes}
use Rattle.feed_rows.proofs.Rowwise.{noted_fault}
use Rattle.feed_csv.specs.Cells.{of_record}
use Rattle.feed_csv.specs.Rows.{of_cells}
use Rattle.feed_csv.proofs.Lines.{even_quotes, odd_quotes, plain_cells}
use Rattle.feed_csv.proofs.row.put_text_line.Goals as goal

pub put_plain-requires-clause-plain : goal.put_plain-requires-clause-plain
put_plain-requires-clause-plain c = ap is_plain (sym c.as_bytes-bytes.ensures.value) ∙ (c.is_split.ensures c.if-is_split.true).1

pub returns-then-is_split : goal.returns-then-is_split
returns-then-is_split c =
    let rule = c.args.rule.now in
    let line = c.args.line.now in
    let plain = ap is_plain (sym c.as_bytes-bytes.ensures.value) ∙ (c.is_split.ensures c.if-is_split.true).1 in
    subst (λ (r : Result (List (List ℕ)) FaultNote). MatchResult c.put_plain.result (λ x. of_cells rule c.args.event.now r ≡ Ok c.put_plain.new.event) (IsFaultOf (of_cells rule c.args.event.now r)))
    (sym (plain_cells rule.delimiter line (is_utf8-from_IsUtf8 line c.utf8.line) plain)) c.put_plain.ensures

pub returns-then-has_odd_quotes : goal.returns-then-has_odd_quotes
returns-then-has_odd_quotes c =
    let rule = c.args.rule.now in
    let line = c.args.line.now in
    let odd = ap has_odd_quotes (sym c.as_bytes-bytes.ensures.value) ∙ sym c.has_odd_quotes.ensures ∙ c.if-has_odd_quotes.true in
    noted_fault (row_note Quotes) c.refused.result _ (ap (of_cells rule c.args.event.now) (odd_quotes rule.delimiter line (is_utf8-from_IsUtf8 line c.utf8.line) odd)) c.refused.ensures

pub returns : goal.returns
returns c =
    let rule = c.args.rule.now in
    let line = c.args.line.now in
    let bytes = c.as_bytes-bytes.ensures.value in
    let even = ap has_odd_quotes (sym bytes) ∙ sym c.has_odd_quotes.ensures ∙ c.if-has_odd_quotes.false in
    subst (λ (r : Result (List (List ℕ)) FaultNote). MatchResult c.put_record.result (λ x. of_cells rule c.args.event.now r ≡ Ok c.put_record.new.event) (IsFaultOf (of_cells rule c.args.event.now r)))
    (ap (λ (l : List ℕ). of_record (one_record rule.delimiter l)) bytes ∙ sym (even_quotes rule.delimiter line (is_utf8-from_IsUtf8 line c.utf8.line) even)) c.put_record.ensures
