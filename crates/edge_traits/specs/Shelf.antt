-- A shelf of named files, as contracts see it.
use Rattle.std.specs.Prelude.{List, ℕ, Bool, false, Option, Some, None, IsSome, is_none, unwrap_or, option_and_then}
use Rattle.edge_traits.specs.Named.{find_named}

-- the counts of faults by name, and the names with their contents, if it tells them
pub record ShelfView : Type 0 where
  pub counts : List (List ℕ × ℕ)
  pub told : Option (List (List ℕ × List ℕ))

-- the count on a name; one that isn't listed has 0
abbrev pub count_on : ShelfView → List ℕ → ℕ
count_on shelf name = unwrap_or (find_named name shelf.counts) 0

-- the name has a count in the list
abbrev pub IsListed : ShelfView → List ℕ → Type 0
IsListed shelf name = IsSome (find_named name shelf.counts)

-- what it tells to have under the name
abbrev pub content_of : ShelfView → List ℕ → Option (List ℕ)
content_of shelf name = option_and_then (find_named name) shelf.told

abbrev pub lacks_in : Option (List (List ℕ × List ℕ)) → List ℕ → Bool
lacks_in None name = false
lacks_in (Some names) name = is_none (find_named name names)

-- it tells what it has, and has nothing under the name
abbrev pub lacks : ShelfView → List ℕ → Bool
lacks shelf name = lacks_in shelf.told name
