-- The fields of a message: a finite map from names of fields to canonical values of their kinds.
use Rattle.std.specs.Prelude.{◌≡◌, ℕ, List, true, Option, Some, option_and_then}
use Rattle.std.specs.Ordering.{nat_cmp}
use Rattle.std.specs.Cmp.Lexicographic.{slice_cmp}
use Rattle.std.specs.FinMap.{FinMap, is_sorted}
use Rattle.std.specs.List.{AllByRecursion}
use Rattle.field_types.specs.Field.{type_of}
use Rattle.field_types.specs.Cleaning.{clean}
use Rattle.field_types.specs.declared.value.Value.{Value}

-- from names to values, in byte order of the names
abbrev pub FieldMap : Type 0
FieldMap = FinMap (slice_cmp nat_cmp) Value

-- the canonical value of a field for a value, if there is such a field and its kind has one
unfoldable pub value_for : List ℕ → Value → Option Value
value_for key v = option_and_then (λ kind. clean kind v) (type_of key)

-- the name is that of a field, and the value is canonical for its kind
abbrev pub IsField : List ℕ → Value → Type 0
IsField key v = value_for key v ≡ Some v

-- each pair is a field and its value
abbrev pub AreFields : List (List ℕ × Value) → Type 0
AreFields pairs = AllByRecursion (λ pair. IsField pair.0 pair.1) pairs

-- pairs of fields and values, each name above the one before
pub record AreFieldsInOrder (pairs : List (List ℕ × Value)) : Type 0 where
  pub fields : AreFields pairs
  pub order : is_sorted (slice_cmp nat_cmp) pairs ≡ true
