-- The JSON value that bytes are.
use Rattle.std.proofs.Common.{◌≡◌, ℕ, List, Bool, true, false, Some, None, IsUtf8, if◌then◌else◌, refl}
use Rattle.std.specs.Str.{is_utf8}
use Rattle.std.proofs.lemmas.Str.{IsUtf8-from_is_utf8, is_utf8-from_IsUtf8}
use Rattle.serde_json.specs.Data.{Data}
use Rattle.serde_json.specs.Read.{read}
use Rattle.serde_json.specs.Errors.{IsMemory}
use Rattle.serde_json.specs.declared.error.Error.{Error}
use Rattle.event_model.specs.Lenient.{IsFaultOfError, IsJsonFault}
use Rattle.event_model.specs.Trees.{json_of}
use Rattle.event_model.specs.declared.fault.ReadFault.{ReadFault}
use Rattle.event_model.specs.declared.fault.ReadFault.TheVariants as fault

pub json_of-read : (bytes : List ℕ) (d : Data) → IsUtf8 bytes → read bytes ≡ Some d → json_of bytes ≡ Some d
unfolding json_of
json_of-read bytes d text is =
    let good : is_utf8 bytes ≡ true = is_utf8-from_IsUtf8 bytes text in
    rw good is

none_of : (bytes : List ℕ) (t : Bool) → (t ≡ true → read bytes ≡ None) → (if t then read bytes else None) ≡ None
none_of bytes true is = is refl
none_of bytes false is = refl

json_of-none : (bytes : List ℕ) → (IsUtf8 bytes → read bytes ≡ None) → json_of bytes ≡ None
unfolding json_of
json_of-none bytes is = none_of bytes (is_utf8 bytes) (λ good. is (IsUtf8-from_is_utf8 bytes good))

pub no_json : (bytes : List ℕ) (e : Error) (f : ReadFault) → IsFaultOfError e f → ((IsMemory e → ⊥) → IsUtf8 bytes → read bytes ≡ None) → IsJsonFault (json_of bytes) f
no_json bytes e fault.OutOfMemory of none = tt
no_json bytes e fault.Json of none = json_of-none bytes (none of)
no_json bytes e fault.NotObject of none = absurd of
no_json bytes e fault.Kind of none = absurd of
no_json bytes e (fault.Field key) of none = absurd of
no_json bytes e fault.Spelling of none = absurd of
