-- How a call of a disk goes on.
use Rattle.std.specs.Prelude.{◌≡◌, ◌<◌, ◌+◌, ℕ, Bool, true, false}
use Rattle.edge_traits.specs.Count.{last_count}
use Rattle.edge_memory.specs.declared.disk.Course.{Course}
use Rattle.edge_memory.specs.declared.disk.Course.TheVariants.{Goes, Fails, Over}

-- by whether it is to fail, and the numbers of calls before and after it was counted
abbrev pub IsCourse : Course → Bool → ℕ → ℕ → Type 0
IsCourse Goes fails before now = (fails ≡ false) × (now ≡ before + 1) × (before < last_count)
IsCourse Fails fails before now = (fails ≡ true) × (now ≡ before + 1) × (before < last_count)
IsCourse Over fails before now = (fails ≡ true) × (now ≡ before) × (last_count ≡ before)
