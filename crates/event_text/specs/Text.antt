-- The canonical text of a message (RFC 8259).
use Rattle.std.specs.Prelude.{ℕ, List, [], ◌∷◌, ◌++◌, map, codes}
use Rattle.std.specs.List.{join_with_byte}
use Rattle.std.specs.FinMap.{insert, entries}
use Rattle.base_types.specs.JsonText.{quoted}
use Rattle.field_types.specs.Writing.{value_text}
use Rattle.field_types.specs.declared.value.Value.{Value}
use Rattle.field_types.specs.declared.value.Value.TheVariants as as_value
use Rattle.event_model.specs.Fields.{FieldMap}
use Rattle.event_model.specs.Lenient.{type_key}
use Rattle.event_model.specs.declared.message.Kind.{Kind}
use Rattle.event_model.specs.declared.message.Kind.TheVariants.{Report, Event}
use Rattle.event_model.specs.declared.message.Message.{Message}

-- a name as a string, and the text of its value
abbrev pub pair_text : List ℕ × Value → List ℕ
pair_text pair = quoted pair.0 ++ 58 ∷ value_text pair.1

abbrev pub kind_word : Kind → List ℕ
kind_word Report = codes "Report"
kind_word Event = codes "Event"

-- the fields, and the kind under `__type`
abbrev pub with_kind : Kind → FieldMap → FieldMap
with_kind kind fields = insert fields type_key (as_value.Text (kind_word kind))

-- an object of these pairs in byte order of the names, with no blanks
unfoldable pub message_text : Message → List ℕ
message_text message = 123 ∷ join_with_byte 44 (map pair_text (entries (with_kind message.kind message.fields))) ++ 125 ∷ []
