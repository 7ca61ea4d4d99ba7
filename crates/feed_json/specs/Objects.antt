-- An object of JSON as an event.
use Rattle.std.specs.Prelude.{◌≡◌, ℕ, List, Option, Some, None, Result, Ok, Err}
use Rattle.serde_json.specs.Data.{Data}
use Rattle.base_types.specs.declared.message.FaultNote.{FaultNote}
use Rattle.event_model.specs.Fields.{FieldMap}
use Rattle.event_model.specs.Lenient.{lenient_tree}
use Rattle.event_model.specs.Trees.{tree_in}
use Rattle.event_model.specs.declared.fault.ReadFault.{ReadFault}
use Rattle.event_model.specs.declared.fault.ReadFault.TheVariants as fault
use Rattle.event_model.specs.declared.message.Kind.{Kind}
use Rattle.event_model.specs.declared.message.Kind.TheVariants as kind
use Rattle.event_model.specs.declared.message.Message.{Message}
use Rattle.feed_rows.specs.Notes.{json_note, key_note}
use Rattle.feed_rows.specs.Reports.{filled, with_raw}
use Rattle.feed_rows.specs.Rows.{IsNoted}
use Rattle.feed_rows.specs.declared.parsed.ParseFault.{ParseFault}
use Rattle.feed_rows.specs.declared.parsed.ParseFault.TheVariants.{Fault as Noted, OutOfMemory as NoMemory}

-- the note of an object that is no message: a bad field has its own
abbrev pub note_of : ReadFault → FaultNote
note_of (fault.Field key) = key_note key
note_of e = json_note

abbrev pub of_kind : FieldMap → Kind → FieldMap → Result FieldMap FaultNote
of_kind base kind.Event fields = Ok (filled base fields)
of_kind base kind.Report fields = Err json_note

abbrev pub of_reading : FieldMap → Result Message ReadFault → Result FieldMap FaultNote
of_reading base (Ok message) = of_kind base message.kind message.fields
of_reading base (Err e) = Err (note_of e)

-- the event of a tree with this text: its fields, over the report's other fields and the text as `raw`. It is read
-- leniently, and then it must not be a report
unfoldable pub event_of : FieldMap → List ℕ → Data → Result FieldMap FaultNote
event_of others text tree = of_reading (with_raw others text) (lenient_tree tree)

abbrev pub of_tree : FieldMap → List ℕ → Option Data → Result FieldMap FaultNote
of_tree others text (Some tree) = event_of others text tree
of_tree others text None = Err json_note

-- the event of a text
unfoldable pub event_in : FieldMap → List ℕ → Result FieldMap FaultNote
event_in others text = of_tree others text (tree_in text)

-- ---- how private calls answer

-- the note of a fault of reading; want of memory in place of any, and only that where there was none to read
abbrev pub IsRefusal : ReadFault → ParseFault → Type 0
IsRefusal fault.OutOfMemory e = e ≡ NoMemory
IsRefusal f e = IsNoted (note_of f) e

-- there is no text, and the note is that of what is no JSON; want of memory comes at any
abbrev pub IsNoText : Option (List ℕ) → ParseFault → Type 0
IsNoText text (Noted note) = (text ≡ None) × (note ≡ json_note)
IsNoText text NoMemory = Unit {0}
