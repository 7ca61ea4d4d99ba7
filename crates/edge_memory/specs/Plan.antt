-- The calls of a disk that are to fail.
use Rattle.std.specs.Prelude.{ℕ, ◌==◌, ◌||◌, Bool, false, List, Option, Some, None, nat_lt}
use Rattle.std.specs.List.{list_any}

-- their numbers, from 1, and the number of the call after which every call fails
pub record Plan : Type 0 where
  pub fail : List ℕ
  pub stop : Option ℕ

abbrev pub is_stopped : Option ℕ → ℕ → Bool
is_stopped None number = false
is_stopped (Some stop) number = nat_lt stop number

-- the call with this number is to fail
abbrev pub is_planned : Plan → ℕ → Bool
is_planned plan number = list_any (λ n. n == number) plan.fail || is_stopped plan.stop number
