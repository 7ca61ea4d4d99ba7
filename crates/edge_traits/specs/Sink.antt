-- A sink for bytes, as contracts see it.
use Rattle.std.specs.Prelude.{◌≡◌, List, ℕ, ◌++◌, Option, Some}

-- what it has taken so far, if it tells it, and its count of faults
pub record SinkView : Type 0 where
  pub told : Option (List ℕ)
  pub faults : ℕ

-- it has taken these bytes, behind those that it had
pub record Took (old new : SinkView) (bytes : List ℕ) : Type 0 where
  pub taken : (before : List ℕ) → old.told ≡ Some before → new.told ≡ Some (before ++ bytes)
