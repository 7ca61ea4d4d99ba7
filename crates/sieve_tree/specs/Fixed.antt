-- The values that a sieve sets as they stand.
use Rattle.std.specs.Prelude.{◌≡◌, ℕ, List, [], ◌∷◌, ◌++◌, Some, map, option_and_then}
use Rattle.std.specs.List.{flat_map, AllByRecursion}
use Rattle.field_types.specs.Cleaning.{clean}
use Rattle.field_types.specs.Field.{type_of}
use Rattle.field_types.specs.declared.value.Value.{Value}
use Rattle.sieve_tree.specs.declared.tree.Cond.{Cond}
use Rattle.sieve_tree.specs.declared.tree.PutSource.{PutSource}
use Rattle.sieve_tree.specs.declared.tree.PutSource.TheVariants as source
use Rattle.sieve_tree.specs.declared.tree.SieveItem.{SieveItem, fold-SieveItem}
use Rattle.sieve_tree.specs.declared.tree.SieveItem.TheOpen.{SieveItem-F}

-- values with the fields that they are set for
abbrev pub Settings : Type 0
Settings = List (List ℕ × Value)

abbrev pub fixed_at : List ℕ → PutSource → Settings
fixed_at key (source.Fixed v) = (key, v) ∷ []
fixed_at key (source.Copy other) = []

abbrev pub joined : List Settings → Settings
joined rows = flat_map (λ row. row) rows

-- an item, with the fixed values of those inside in their places
abbrev pub fixed_with : SieveItem-F Settings → Settings
fixed_with (SieveItem-F.Choice cases otherwise) = flat_map (λ (case : Cond × List Settings). joined case.1) cases ++ joined otherwise
fixed_with SieveItem-F.Keep = []
fixed_with SieveItem-F.Drop = []
fixed_with (SieveItem-F.Path names) = []
fixed_with (SieveItem-F.Put key how from at) = fixed_at key from
fixed_with (SieveItem-F.Remove key) = []

-- the fixed values in an item
abbrev pub fixed_in : SieveItem → Settings
fixed_in = fold-SieveItem Settings fixed_with

-- the fixed values in items
abbrev pub all_fixed : List SieveItem → Settings
all_fixed items = joined (map fixed_in items)

-- there is a field of that name, and the value is canonical for its kind
abbrev pub IsCanonical : List ℕ × Value → Type 0
IsCanonical setting = option_and_then (λ kind. clean kind setting.1) (type_of setting.0) ≡ Some setting.1

abbrev pub AreCanonical : Settings → Type 0
AreCanonical settings = AllByRecursion IsCanonical settings
