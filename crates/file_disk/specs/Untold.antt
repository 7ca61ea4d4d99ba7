-- A disk that tells nothing.
use Rattle.std.specs.Prelude.{ℕ, None}
use Rattle.edge_traits.specs.Disk.{DiskView}

-- it tells no content and no moment, and how often it has failed; a crash may leave anything
abbrev pub untold : ℕ → DiskView
untold faults = record { told = None; faults = faults; moment = 0; may_leave = λ file content. Unit {0}; left_since = λ moment image. Unit {0} }
