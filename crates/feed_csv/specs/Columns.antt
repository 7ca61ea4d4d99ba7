-- What the cells of a line set.
use Rattle.std.specs.Prelude.{ℕ, ◌+◌, ◌&&◌, ◌||◌, ◌==◌, nat_le, Bool, List, [], ◌∷◌, length, codes, Option, Some, None, option_map, option_and_then, Result, Ok, Err, if◌then◌else◌}
use Rattle.std.specs.Option.{option_or}
use Rattle.std.specs.FinMap.{insert}
use Rattle.std.specs.Str.{bytes_eq, is_utf8}
use Rattle.base_types.specs.Digits.{digits_in}
use Rattle.base_types.specs.declared.message.FaultNote.{FaultNote}
use Rattle.scalar_text.specs.Time.{time_text}
use Rattle.field_types.specs.Cleaning.{clean, of_text}
use Rattle.field_types.specs.Field.{type_of}
use Rattle.scalar_text.specs.Strip.{strip}
use Rattle.field_types.specs.declared.kind.FieldType.{FieldType}
use Rattle.field_types.specs.declared.kind.FieldType.TheVariants as kind
use Rattle.field_types.specs.declared.value.Value.{Value}
use Rattle.field_types.specs.declared.value.Value.TheVariants.{Text}
use Rattle.event_model.specs.Fields.{FieldMap}
use Rattle.event_model.specs.Lenient.{is_dropped_text}
use Rattle.feed_rows.specs.Notes.{column_note}
use Rattle.feed_csv.specs.declared.column.Column.{Column}
use Rattle.feed_csv.specs.declared.column.Taken.{Taken}
use Rattle.feed_csv.specs.declared.column.Taken.TheVariants.{Ends, Sets, Untaken}

-- ---- a cell as a value

-- from 0001-01-01T00:00:00 UTC to 1970-01-01T00:00:00 UTC, in seconds
abbrev pub seconds_to_1970 : ℕ
seconds_to_1970 = 62135596800

-- 9999-12-31T23:59:59 UTC, in seconds since 1970
abbrev pub last_moment : ℕ
last_moment = 253402300799

-- the text of the time so many seconds after 1970-01-01T00:00:00 UTC, up to the last moment
abbrev pub moment_text : ℕ → Option (List ℕ)
moment_text seconds = if nat_le seconds last_moment then Some (time_text (seconds_to_1970 + seconds)) else None

-- the text of the time that 1 to 12 digits write as seconds since 1970
abbrev pub moment_in : List ℕ → Option (List ℕ)
moment_in text = option_and_then moment_text (digits_in 12 text)

-- that time, for a field that is a time
abbrev pub stamp_in : FieldType → List ℕ → Option Value
stamp_in kind.DateTime text = option_map Text (moment_in text)
stamp_in kind text = None

-- the canonical value of a kind for a cell, which may be a stamp; one that isn't UTF-8 has none
unfoldable pub value_under : Bool → List ℕ → FieldType → Option Value
value_under stamp cell kind =
    if is_utf8 cell then option_or (clean kind (Text cell)) (if stamp then stamp_in kind (strip cell) else None) else None

-- the value of the field of this name for a cell, if there is such a field and it takes the cell
abbrev pub value_for : Bool → List ℕ → List ℕ → Option Value
value_for stamp cell name = option_and_then (value_under stamp cell) (type_of name)

-- ---- a column

-- a name that ends the trying and sets nothing
abbrev pub is_ignored : List ℕ → Bool
is_ignored name = (length name == 0) || bytes_eq name (codes "__IGNORE__")

abbrev pub set_or : List ℕ → Option Value → Taken → Taken
set_or name (Some v) later = Sets name v
set_or name None later = later

-- what the first of these names does that is ignored or takes the cell
abbrev pub attempt : Bool → List ℕ → List (List ℕ) → Taken
attempt stamp cell [] = Untaken
attempt stamp cell (name ∷ names) = if is_ignored name then Ends else set_or name (value_for stamp cell name) (attempt stamp cell names)

-- a cell that sets nothing: empty, `-` or `N/A`, but for blanks at its ends
abbrev pub is_dropped : List ℕ → Bool
is_dropped cell = is_utf8 cell && is_dropped_text (strip cell)

abbrev pub after_taken : ℕ → List (List ℕ) → FieldMap → Taken → Result FieldMap FaultNote
after_taken number names event Ends = Ok event
after_taken number names event (Sets name v) = Ok (insert event name v)
after_taken number names event Untaken = Err (column_note number names)

-- the event with what a cell sets by the column with this number, from 1; a cell that no name takes is a fault
unfoldable pub put_cell : ℕ → Column → List ℕ → FieldMap → Result FieldMap FaultNote
put_cell number column cell event =
    if is_dropped cell then Ok event else after_taken number column.names event (attempt column.stamp cell column.names)

-- ---- a line

abbrev pub go_on : (FieldMap → Result FieldMap FaultNote) → Result FieldMap FaultNote → Result FieldMap FaultNote
go_on next (Ok event) = next event
go_on next (Err note) = Err note

-- the event with what these cells set, each by the column at its place, from the left; so many columns stand before
-- them. Cells without a column set nothing, nor do columns without a cell
abbrev pub put_cells : ℕ → List Column → List (List ℕ) → FieldMap → Result FieldMap FaultNote
put_cells before [] cells event = Ok event
put_cells before (column ∷ columns) [] event = Ok event
put_cells before (column ∷ columns) (cell ∷ cells) event = go_on (put_cells (before + 1) columns cells) (put_cell (before + 1) column cell event)

-- ---- how private calls answer: what becomes of a cell that is UTF-8, by its text without the blanks at its ends

-- the canonical value of a kind for such a text, which may be a stamp
abbrev pub text_under : Bool → List ℕ → FieldType → Option Value
text_under stamp text kind = option_or (of_text kind text) (if stamp then stamp_in kind text else None)

-- the value of the field of this name for it, if there is such a field and it takes the text
abbrev pub text_for : Bool → List ℕ → List ℕ → Option Value
text_for stamp text name = option_and_then (text_under stamp text) (type_of name)

-- what the first of these names does that is ignored or takes the text
abbrev pub attempt_text : Bool → List ℕ → List (List ℕ) → Taken
attempt_text stamp text [] = Untaken
attempt_text stamp text (name ∷ names) = if is_ignored name then Ends else set_or name (text_for stamp text name) (attempt_text stamp text names)

-- the event with what it sets by the column with this number
unfoldable pub put_stripped : ℕ → Column → List ℕ → FieldMap → Result FieldMap FaultNote
put_stripped number column text event =
    if is_dropped_text text then Ok event else after_taken number column.names event (attempt_text column.stamp text column.names)
