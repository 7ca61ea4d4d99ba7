-- Things under names.
use Rattle.std.specs.Prelude.{List, ℕ, [], ◌∷◌, Option, Some, None, if◌then◌else◌}
use Rattle.std.specs.Str.{bytes_eq}

-- what stands first under the name
abbrev pub find_named : {A : Type 0} → List ℕ → List (List ℕ × A) → Option A
find_named name [] = None
find_named name (pair ∷ pairs) = if bytes_eq name pair.0 then Some pair.1 else find_named name pairs
