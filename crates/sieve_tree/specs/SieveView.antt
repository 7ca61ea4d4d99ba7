-- What contracts see of a sieve.
use Rattle.std.specs.Prelude.{ℕ, List}
use Rattle.sieve_tree.specs.declared.tree.SieveItem.{SieveItem}

-- the items, the texts of the patterns, and the names of the paths with their offsets
pub record SieveView : Type 0 where
  pub items : List SieveItem
  pub patterns : List (List ℕ)
  pub paths : List (List ℕ × ℕ)
