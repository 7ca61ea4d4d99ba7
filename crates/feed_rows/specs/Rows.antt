-- What a parser makes of a report.
use Rattle.std.specs.Prelude.{◌≡◌, ℕ, List, [], ◌∷◌, ◌++◌, Result, Err}
use Rattle.std.specs.List.{flat_map}
use Rattle.base_types.specs.declared.message.FaultNote.{FaultNote}
use Rattle.event_model.specs.Fields.{FieldMap}
use Rattle.feed_rows.specs.Reports.{with_raw, filled}
use Rattle.feed_rows.specs.declared.parsed.Bad.{Bad}
use Rattle.feed_rows.specs.declared.parsed.Parsed.{Parsed}
use Rattle.feed_rows.specs.declared.parsed.ParseFault.{ParseFault}
use Rattle.feed_rows.specs.declared.parsed.ParseFault.TheVariants as fault
use Rattle.feed_rows.specs.declared.parsed.Row.{Row}
use Rattle.feed_rows.specs.declared.parsed.Row.TheVariants.{Skipped, Event, Spoiled}

-- the event that a row is, if it is one
abbrev pub event_in : Row → List FieldMap
event_in Skipped = []
event_in (Event event) = event ∷ []
event_in (Spoiled bad) = []

-- the bad report that a row is, if it is one
abbrev pub bad_in : Row → List Bad
bad_in Skipped = []
bad_in (Event event) = []
bad_in (Spoiled bad) = bad ∷ []

-- the events and the bad reports among rows, each in the order of the rows
abbrev pub parsed : List Row → Parsed
parsed rows = record { events = flat_map event_in rows; bad = flat_map bad_in rows }

-- what was parsed, and what these rows are behind it
abbrev pub and_rows : Parsed → List Row → Parsed
and_rows first rows = record { events = first.events ++ flat_map event_in rows; bad = first.bad ++ flat_map bad_in rows }

-- the row of an event, which gets the defaults that it lacks
abbrev pub event_row : FieldMap → FieldMap → Row
event_row defaults event = Event (filled defaults event)

-- the row of a part of a report that is no event: the report with that part as its content, and the note
abbrev pub spoiled_row : FieldMap → List ℕ → FaultNote → Row
spoiled_row others part note = Spoiled (record { report = with_raw others part; note = note })

-- why there is nothing; want of memory comes at any
abbrev pub IsFaultOf : {A : Type 0} → Result A FaultNote → ParseFault → Type 0
IsFaultOf reading (fault.Fault note) = reading ≡ Err note
IsFaultOf reading fault.OutOfMemory = Unit {0}

-- the note; want of memory comes in place of any
abbrev pub IsNoted : FaultNote → ParseFault → Type 0
IsNoted note (fault.Fault made) = made ≡ note
IsNoted note fault.OutOfMemory = Unit {0}
