-- What a crash leaves within a step that is made durable.
use Rattle.std.specs.Prelude.{List, ℕ}
use Rattle.edge_traits.specs.Disk.{DiskView, Image, MayFollow, LeavesOthers}

-- the file might have been left before, up to a step, and each other file as it is
abbrev pub IsStepped : DiskView → ℕ → (List ℕ → List ℕ → Type 0) → Image → Type 0
IsStepped old file step image = MayFollow step (old.may_leave file) (image file) × LeavesOthers old file image
