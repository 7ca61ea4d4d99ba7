-- The strict reading: the message whose canonical text the bytes are.
use Rattle.std.specs.Prelude.{◌≡◌, ◌&&◌, ℕ, List, Bool, true, Err, is_ok}
use Rattle.std.specs.List.{list_all}
use Rattle.std.specs.Str.{is_utf8}
use Rattle.std.specs.FinMap.{entries}
use Rattle.field_types.specs.Writing.{is_utf8_value}
use Rattle.field_types.specs.declared.value.Value.{Value}
use Rattle.event_model.specs.Fields.{AreFields}
use Rattle.event_model.specs.declared.message.Message.{Message}
use Rattle.event_model.specs.declared.fault.ReadFault.{ReadFault}
use Rattle.event_model.specs.declared.fault.ReadFault.TheVariants as fault
use Rattle.event_text.specs.Lenient.{lenient}
use Rattle.event_text.specs.Text.{message_text}

-- the name and each text of the value are UTF-8
abbrev pub is_utf8_pair : List ℕ × Value → Bool
is_utf8_pair pair = is_utf8 pair.0 && is_utf8_value pair.1

-- each value is canonical for its field, and all texts are UTF-8
pub record AreTyped (pairs : List (List ℕ × Value)) : Type 0 where
  pub fields : AreFields pairs
  pub texts : list_all is_utf8_pair pairs ≡ true

-- a message as there are
abbrev pub IsTyped : Message → Type 0
IsTyped message = AreTyped (entries message.fields)

-- the bytes are the canonical text of the message
pub record IsTextOf (bytes : List ℕ) (message : Message) : Type 0 where
  pub typed : IsTyped message
  pub text : message_text message ≡ bytes

-- the bytes are the canonical text of no message
abbrev pub IsNoText : List ℕ → Type 0
IsNoText bytes = (message : Message) → IsTextOf bytes message → ⊥

-- Why the bytes are refused: they are no canonical text, and the lenient reading has this fault, or none at all. Want
-- of memory comes at any bytes.
abbrev pub IsStrictFault : List ℕ → ReadFault → Type 0
IsStrictFault bytes fault.OutOfMemory = Unit {0}
IsStrictFault bytes fault.Spelling = IsNoText bytes × (is_ok (lenient bytes) ≡ true)
IsStrictFault bytes e = IsNoText bytes × (lenient bytes ≡ Err e)
