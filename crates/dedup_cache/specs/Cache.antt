-- What a bot's cache holds.
use Rattle.std.specs.Prelude.{◌≤◌, ℕ, List, map, Option}
use Rattle.std.specs.List.{All, IsDistinct}
use Rattle.std.specs.List.Sorted.{IsNonDecreasingBy}
use Rattle.std.specs.Str.{bytes_eq}
use Rattle.stored_types.specs.declared.mark.Mark.{Mark}

-- the marks, the oldest first, the key that room is kept for, and how many marks came so far
pub record CacheView : Type 0 where
  pub marks : List Mark
  pub ready : Option (List ℕ)
  pub pushed : ℕ

-- no mark is later than one behind it
abbrev pub DoNotFall : List Mark → Type 0
DoNotFall marks = IsNonDecreasingBy (λ mark. mark.moment.0) marks

-- no two marks have one key
abbrev pub HaveOwnKeys : List Mark → Type 0
HaveOwnKeys marks = IsDistinct bytes_eq (map (λ mark. mark.key) marks)

-- no mark is later than this moment
abbrev pub ArePast : ℕ → List Mark → Type 0
ArePast now marks = All (λ mark. mark.moment.0 ≤ now) marks
