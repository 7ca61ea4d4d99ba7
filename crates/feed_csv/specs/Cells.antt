-- The cells of a line.
use Rattle.std.specs.Prelude.{ℕ, not, List, Option, Some, None, Result, Ok, Err, if◌then◌else◌}
use Rattle.std.specs.Str.{is_utf8}
use Rattle.csv_line.specs.Cells.{has_odd_quotes}
use Rattle.csv_line.specs.Line.{one_record}
use Rattle.base_types.specs.declared.message.FaultNote.{FaultNote}
use Rattle.feed_rows.specs.Notes.{row_note}
use Rattle.feed_rows.specs.declared.notes.RowFault.TheVariants.{Utf8, Quotes, Records}

abbrev pub of_record : Option (List (List ℕ)) → Result (List (List ℕ)) FaultNote
of_record (Some cells) = Ok cells
of_record None = Err (row_note Records)

-- the cells of a line, those of its one record (RFC 4180) with this byte between them; or the first fault of these
-- three: it isn't UTF-8, its quotes are odd, it is other than one record
unfoldable pub cells_in : ℕ → List ℕ → Result (List (List ℕ)) FaultNote
cells_in delimiter line =
    if not (is_utf8 line) then Err (row_note Utf8)
    else (if has_odd_quotes line then Err (row_note Quotes)
    else of_record (one_record delimiter line))
