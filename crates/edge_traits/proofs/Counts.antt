-- Counts that never fall.
use Rattle.std.proofs.Common.{◌≤◌, ℕ, arith}
use Rattle.edge_traits.specs.Count.{Rose}

-- a count that rose later rose
pub rose_later : (old mid new : ℕ) → old ≤ mid → mid ≤ new → Rose mid new → Rose old new
rose_later old mid new before after rose = grind arith
