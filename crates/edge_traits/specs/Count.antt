-- Counts of faults.
use Rattle.std.specs.Prelude.{ℕ, ◌+◌, ◌<◌, ◌≤◌, ◌⊎◌, min}

-- the last value of a count, 2^64 - 1, at which it stands still
abbrev pub last_count : ℕ
last_count = 0xffff_ffff_ffff_ffff

-- the count rose, or it stood at its last value
abbrev pub Rose : ℕ → ℕ → Type 0
Rose old new = (old < new) ⊎ (last_count ≤ old)

-- two counts together
abbrev pub count_sum : ℕ → ℕ → ℕ
count_sum a b = min (a + b) last_count
