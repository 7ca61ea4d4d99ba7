-- Fields that are set one after the other, and the map of them.
use Rattle.std.specs.Prelude.{◌≡◌, ℕ, List, Bool, true}
use Rattle.std.specs.FinMap.{is_sorted, from_entries}
use Rattle.std.specs.Ordering.{nat_cmp, is_lt, is_eq}
use Rattle.std.specs.Cmp.Lexicographic.{slice_cmp}
use Rattle.field_types.specs.declared.value.Value.{Value}
use Rattle.event_model.specs.Fields.{AreFields}
use Rattle.event_model.specs.Lenient.{set_all}

-- the name of the first is below that of the second
abbrev pub is_below : List ℕ × Value → List ℕ × Value → Bool
is_below a b = is_lt (slice_cmp nat_cmp a.0 b.0)

-- both have one name
abbrev pub has_same_name : List ℕ × Value → List ℕ × Value → Bool
has_same_name a b = is_eq (slice_cmp nat_cmp a.0 b.0)

-- pairs of fields and values; where they are said to rise, each name is above the one before
pub record AreBuilt (pairs : List (List ℕ × Value)) (rises : Bool) : Type 0 where
  pub fields : AreFields pairs
  pub order : rises ≡ true → is_sorted (slice_cmp nat_cmp) pairs ≡ true

-- the pairs that are left are in byte order of their names, and are the map that the others set
pub record AreSettled (set left : List (List ℕ × Value)) : Type 0 where
  pub fields : AreFields set → AreFields left
  pub order : is_sorted (slice_cmp nat_cmp) left ≡ true
  pub map_is : from_entries left ≡ set_all set
