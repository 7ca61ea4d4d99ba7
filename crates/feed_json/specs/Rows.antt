-- The rows of a report in JSON.
use Rattle.std.specs.Prelude.{ℕ, ◌==◌, List, [], ◌∷◌, ◌++◌, length, map, Option, Some, None, option_map, option_and_then, Result, Ok, Err, if◌then◌else◌}
use Rattle.serde_json.specs.Data.{Data, Items, no_items, item}
use Rattle.serde_json.specs.Find.{as_array}
use Rattle.base_types.specs.Lines.{lines_of}
use Rattle.base_types.specs.declared.message.FaultNote.{FaultNote}
use Rattle.report_cut.specs.Line.{without_newline}
use Rattle.event_model.specs.Fields.{FieldMap}
use Rattle.event_model.specs.Trees.{both, compact, tree_in}
use Rattle.feed_rows.specs.Notes.{json_note, raw_note}
use Rattle.feed_rows.specs.Reports.{content_in, others}
use Rattle.feed_rows.specs.Rows.{parsed, event_row, spoiled_row}
use Rattle.feed_rows.specs.declared.parsed.Parsed.{Parsed}
use Rattle.feed_rows.specs.declared.parsed.Row.{Row}
use Rattle.feed_rows.specs.declared.parsed.Row.TheVariants.{Skipped}
use Rattle.feed_json.specs.Objects.{event_in, event_of}
use Rattle.feed_json.specs.declared.rule.JsonRule.{JsonRule}
use Rattle.feed_json.specs.declared.rule.Style.{Style}
use Rattle.feed_json.specs.declared.rule.Style.TheVariants as style

-- the row of an event with the rule's defaults, or of a part of the report that is none
abbrev pub row_of : FieldMap → FieldMap → List ℕ → Result FieldMap FaultNote → Row
row_of defaults others part (Ok event) = event_row defaults event
row_of defaults others part (Err note) = spoiled_row others part note

-- ---- a line an object

-- a line is an event, or bad and then the content of a report of its own; an empty one is skipped
unfoldable pub line_row : FieldMap → FieldMap → List ℕ → Row
line_row defaults others line =
    if length (without_newline line) == 0 then Skipped else row_of defaults others line (event_in others (without_newline line))

abbrev pub line_rows : FieldMap → FieldMap → List (List ℕ) → List Row
line_rows defaults others lines = map (line_row defaults others) lines

-- ---- an array of objects

-- the text of an item as an array by itself
abbrev pub alone : List ℕ → List ℕ
alone text = 91 ∷ text ++ 93 ∷ []

-- an item with this compact text is an event, or bad and then an array of its own
unfoldable pub item_row : FieldMap → FieldMap → List ℕ → Data → Row
item_row defaults others text tree = row_of defaults others (alone text) (event_of others text tree)

-- a row for each item; none where an item has no compact text, which is so only of floating-point numbers, and no
-- content gives one
abbrev pub item_rows : FieldMap → FieldMap → Items → Option (List Row)
item_rows defaults others no_items = Some []
item_rows defaults others (item tree trees) = both (option_map (λ text. item_row defaults others text tree) (compact tree)) (item_rows defaults others trees)

abbrev pub of_rows : Option (List Row) → Result Parsed FaultNote
of_rows (Some rows) = Ok (parsed rows)
of_rows None = Err json_note

abbrev pub of_items : FieldMap → FieldMap → Option Items → Result Parsed FaultNote
of_items defaults others (Some items) = of_rows (item_rows defaults others items)
of_items defaults others None = Err json_note

-- ---- one object

abbrev pub of_event : FieldMap → Result FieldMap FaultNote → Result Parsed FaultNote
of_event defaults (Ok event) = Ok (parsed (event_row defaults event ∷ []))
of_event defaults (Err note) = Err note

-- ---- a report

-- the items of the array that a content is
abbrev pub items_in : List ℕ → Option Items
items_in content = option_and_then as_array (tree_in content)

-- what a content is in each style
unfoldable pub styled : Style → FieldMap → FieldMap → List ℕ → Result Parsed FaultNote
styled style.Object defaults others content = of_event defaults (event_in others content)
styled style.Array defaults others content = of_items defaults others (items_in content)
styled style.Lines defaults others content = Ok (parsed (line_rows defaults others (lines_of content)))

abbrev pub of_content : JsonRule → FieldMap → Option (List ℕ) → Result Parsed FaultNote
of_content rule report (Some content) = styled rule.style rule.defaults (others report) content
of_content rule report None = Err raw_note

-- the events and the bad parts of a report, or the fault of the whole
unfoldable pub json_parsed : JsonRule → FieldMap → Result Parsed FaultNote
json_parsed rule report = of_content rule report (content_in report)
