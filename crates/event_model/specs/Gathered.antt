-- What leaves, one after the other, add to fields and to the least bad name.
use Rattle.std.specs.Prelude.{◌≡◌, ◌≢◌, ℕ, List, [], ◌∷◌, ◌++◌, Option, Some, None}
use Rattle.std.specs.List.{AllByRecursion}
use Rattle.std.specs.Ordering.{nat_cmp}
use Rattle.std.specs.Cmp.Lexicographic.{slice_cmp}
use Rattle.std.specs.FinMap.{empty, insert}
use Rattle.std.specs.declared.cmp.Ordering.TheVariants.{Greater}
use Rattle.serde_json.specs.Data.{Data}
use Rattle.base_types.specs.Lists.{IsIn}
use Rattle.field_types.specs.declared.value.Value.{Value}
use Rattle.event_model.specs.Fields.{FieldMap, IsField}
use Rattle.event_model.specs.Lenient.{pairs_of, bad_names}
use Rattle.event_model.specs.declared.leaves.Found.{Found}
use Rattle.event_model.specs.declared.part.Part.{Part}
use Rattle.event_model.specs.declared.part.Part.TheVariants.{Nothing, Set, Bad}

-- fields that are set one after the other
abbrev pub put_pairs : List (List ℕ × Value) → FieldMap → FieldMap
put_pairs [] fields = fields
put_pairs (pair ∷ pairs) fields = put_pairs pairs (insert fields pair.0 pair.1)

-- the name is one of these, and none of them is below it
pub record IsLeast (key : List ℕ) (names : List (List ℕ)) : Type 0 where
  pub there : IsIn key names
  pub below : AllByRecursion (λ name. slice_cmp nat_cmp key name ≢ Greater) names

-- the least of these names so far, if there is one
abbrev pub IsBest : Option (List ℕ) → List (List ℕ) → Type 0
IsBest None names = names ≡ []
IsBest (Some key) names = IsLeast key names

-- the leaves were added
pub record Gathers (leaves : List (List ℕ × Data)) (old new : Found) : Type 0 where
  pub fields : new.fields ≡ put_pairs (pairs_of leaves) old.fields
  pub bad : (names : List (List ℕ)) → IsBest old.names.1 names → IsBest new.names.1 (names ++ bad_names leaves)

-- what is set is canonical for the field
abbrev pub IsPart : List ℕ → Part → Type 0
IsPart key Nothing = Unit {0}
IsPart key (Set v) = IsField key v
IsPart key Bad = Unit {0}

-- no leaf was added yet
abbrev pub nothing_found : Found
nothing_found = record { fields = empty; names = ([], None) }
