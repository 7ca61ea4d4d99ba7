-- A disk of which a crash may leave anything.
use Rattle.std.proofs.Common.{inl, ℕ, arith}
use Rattle.edge_traits.specs.Disk.{Elapses}
use Rattle.file_disk.specs.Untold.{untold}

-- at each moment it may leave anything
pub time_stands : (old new : ℕ) → Elapses (untold old) (untold new)
time_stands old new = record { later = omega arith; nothing_else = λ t image le left. inl left; keeps = λ t image le left. left }
