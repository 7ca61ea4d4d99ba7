-- What the calls that change fields leave.
use Rattle.std.specs.Prelude.{◌≡◌, ℕ, List, [], ◌∷◌, ◌++◌, Bool, true, false, not, Option, Some, None, Result, Ok, Err, is_some, if◌then◌else◌}
use Rattle.std.specs.List.{list_any}
use Rattle.std.specs.Str.{bytes_eq}
use Rattle.std.specs.FinMap.{get, insert, retain_keys, entries}
use Rattle.base_types.specs.Place.{is_above_all}
use Rattle.field_types.specs.Field.{type_of}
use Rattle.field_types.specs.Cleaning.{clean}
use Rattle.field_types.specs.declared.kind.FieldType.{FieldType}
use Rattle.field_types.specs.declared.value.Value.{Value}
use Rattle.event_model.specs.Fields.{FieldMap}
use Rattle.event_model.specs.declared.fault.EventFault.{EventFault}
use Rattle.event_model.specs.declared.fault.EventFault.TheVariants as fault

-- ---- the value that a field gets

abbrev pub of_clean : Option Value → Result Value EventFault
of_clean (Some v) = Ok v
of_clean None = Err fault.BadValue

abbrev pub of_kind : Option FieldType → Value → Result Value EventFault
of_kind (Some kind) v = of_clean (clean kind v)
of_kind None v = Err fault.NoField

-- the canonical value of a field for a value, or why there is none
unfoldable pub wanted : List ℕ → Value → Result Value EventFault
wanted key v = of_kind (type_of key) v

-- ---- the whole map afterwards

abbrev pub set_wanted : List ℕ → Result Value EventFault → FieldMap → Result FieldMap EventFault
set_wanted key (Ok v) fields = Ok (insert fields key v)
set_wanted key (Err e) fields = Err e

-- the field has the value
abbrev pub set_to : List ℕ → Value → FieldMap → Result FieldMap EventFault
set_to key v fields = set_wanted key (wanted key v) fields

abbrev pub add_wanted : List ℕ → Result Value EventFault → FieldMap → Result FieldMap EventFault
add_wanted key (Ok v) fields = if is_some (get fields key) then Err fault.Present else Ok (insert fields key v)
add_wanted key (Err e) fields = Err e

-- the field has the value, where it was absent
abbrev pub added : List ℕ → Value → FieldMap → Result FieldMap EventFault
added key v fields = add_wanted key (wanted key v) fields

-- the field has the value, where it was there; else nothing changes
abbrev pub updated : List ℕ → Value → FieldMap → Result FieldMap EventFault
updated key v fields = if is_some (get fields key) then set_to key v fields else Ok fields

-- the name is one of these, or is none of them
abbrev pub is_kept : List (List ℕ) → Bool → List ℕ → Bool
is_kept keys true key = list_any (bytes_eq key) keys
is_kept keys false key = not (list_any (bytes_eq key) keys)

-- these fields alone are left, or all others
abbrev pub restricted : List (List ℕ) → Bool → FieldMap → FieldMap
restricted keys keep fields = retain_keys fields (is_kept keys keep)

-- ---- how the calls answer

-- the field stands behind all others; or its name isn't above all of theirs, and nothing changes
abbrev pub IsPush : Bool → List ℕ → Value → FieldMap → FieldMap → Type 0
IsPush true key v old new = entries new ≡ entries old ++ (key, v) ∷ []
IsPush false key v old new = (is_above_all key (entries old) ≡ false) × (new ≡ old)

-- the map is that one; or this is the fault, and the map stays; memory may run out in any case
abbrev pub IsEdit : {A : Type 0} → Result FieldMap EventFault → Result A EventFault → FieldMap → FieldMap → Type 0
IsEdit map (Ok _) old new = map ≡ Ok new
IsEdit map (Err fault.OutOfMemory) old new = new ≡ old
IsEdit map (Err e) old new = (map ≡ Err e) × (new ≡ old)

-- the value is that one, or this is the fault; memory may run out in any case
abbrev pub IsWanted : Result Value EventFault → Result Value EventFault → Type 0
IsWanted value (Ok v) = value ≡ Ok v
IsWanted value (Err fault.OutOfMemory) = Unit {0}
IsWanted value (Err e) = value ≡ Err e
