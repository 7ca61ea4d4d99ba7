-- What a read of each file of a disk gives.
use Rattle.std.specs.Prelude.{ℕ, ◌==◌, List, [], ◌∷◌, if◌then◌else◌}
use Rattle.edge_memory.specs.declared.files.Files.{Files}
use Rattle.edge_memory.specs.declared.files.FileBytes.{FileBytes}

-- the bytes that are held under the number
abbrev pub bytes_in : ℕ → List FileBytes → List ℕ
bytes_in file [] = []
bytes_in file (here ∷ held) = if here.number == file then here.bytes.items else bytes_in file held

abbrev pub bytes_of : Files → ℕ → List ℕ
bytes_of files file = bytes_in file files.held.items
