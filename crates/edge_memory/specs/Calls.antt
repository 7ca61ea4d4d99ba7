-- The calls that were made of an object, and those that are to fail.
use Rattle.std.specs.Prelude.{ℕ, ◌+◌, ◌==◌, Bool, List, min, if◌then◌else◌}
use Rattle.std.specs.List.{list_any}
use Rattle.edge_traits.specs.Count.{last_count, count_sum}

-- how many were made, and the numbers, from 1, of those that are to fail
pub record Calls : Type 0 where
  pub made : ℕ
  pub fail : List ℕ

-- the number of the next call
abbrev pub next_number : Calls → ℕ
next_number calls = min (calls.made + 1) last_count

-- one call more was made
abbrev pub counted : Calls → Calls
counted calls = record calls { made = next_number calls }

-- the next call is to fail
abbrev pub is_to_fail : Calls → Bool
is_to_fail calls = list_any (λ n. n == next_number calls) calls.fail

-- a count of faults after a call: one more where that failed, and at its last value it stays
abbrev pub faults_after : Bool → ℕ → ℕ
faults_after failed faults = if failed then count_sum faults 1 else faults
