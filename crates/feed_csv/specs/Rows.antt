-- The rows of a report in CSV.
use Rattle.std.specs.Prelude.{ℕ, ◌==◌, List, [], ◌++◌, length, map, drop, Option, Some, None, Result, Ok, Err, if◌then◌else◌}
use Rattle.base_types.specs.Lines.{lines_of, first_of}
use Rattle.base_types.specs.declared.message.FaultNote.{FaultNote}
use Rattle.event_model.specs.Fields.{FieldMap}
use Rattle.feed_rows.specs.Notes.{raw_note}
use Rattle.feed_rows.specs.Reports.{content_in, others, with_raw}
use Rattle.feed_rows.specs.Rows.{parsed, event_row, spoiled_row}
use Rattle.feed_rows.specs.declared.parsed.Parsed.{Parsed}
use Rattle.feed_rows.specs.declared.parsed.Row.{Row}
use Rattle.feed_rows.specs.declared.parsed.Row.TheVariants.{Skipped}
use Rattle.csv_line.specs.Cells.{bare}
use Rattle.feed_csv.specs.Cells.{cells_in}
use Rattle.feed_csv.specs.Columns.{put_cells}
use Rattle.feed_csv.specs.declared.rule.CsvRule.{CsvRule}

-- ---- a line

abbrev pub of_cells : CsvRule → FieldMap → Result (List (List ℕ)) FaultNote → Result FieldMap FaultNote
of_cells rule event (Ok cells) = put_cells 0 rule.columns cells event
of_cells rule event (Err note) = Err note

-- the event of a bare line: the report's other fields, the line as `raw`, and over these what its cells set
unfoldable pub event_of : CsvRule → FieldMap → List ℕ → Result FieldMap FaultNote
event_of rule others text = of_cells rule (with_raw others text) (cells_in rule.delimiter text)

abbrev pub row_or_bad : CsvRule → FieldMap → List ℕ → Result FieldMap FaultNote → Row
row_or_bad rule others part (Ok event) = event_row rule.defaults event
row_or_bad rule others part (Err note) = spoiled_row others part note

-- a line is an event, or bad, and then stands in a report of its own behind the header; it is skipped where nothing
-- is left of it without its end
unfoldable pub csv_row : CsvRule → FieldMap → List ℕ → List ℕ → Row
csv_row rule others header line =
    if length (bare line) == 0 then Skipped else row_or_bad rule others (header ++ line) (event_of rule others (bare line))

-- ---- a report

-- the header of a report, with its newline: its first line, where that isn't a row
abbrev pub header_of : CsvRule → List ℕ → List ℕ
header_of rule content = if rule.skip_header then first_of (lines_of content) else []

-- the lines that are rows, each with its newline
abbrev pub body_of : CsvRule → List ℕ → List (List ℕ)
body_of rule content = if rule.skip_header then drop 1 (lines_of content) else lines_of content

-- a row for each of these lines
abbrev pub csv_rows : CsvRule → FieldMap → List ℕ → List (List ℕ) → List Row
csv_rows rule others header lines = map (csv_row rule others header) lines

abbrev pub of_content : CsvRule → FieldMap → Option (List ℕ) → Result Parsed FaultNote
of_content rule report (Some content) = Ok (parsed (csv_rows rule (others report) (header_of rule content) (body_of rule content)))
of_content rule report None = Err raw_note

-- the events and the bad parts of a report; the only fault of the whole is that it has no content
unfoldable pub csv_parsed : CsvRule → FieldMap → Result Parsed FaultNote
csv_parsed rule report = of_content rule report (content_in report)
