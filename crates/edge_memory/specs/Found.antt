-- The files of a disk as a crash left it.
use Rattle.std.specs.Prelude.{◌≡◌, ℕ, List, [], ◌∷◌}
use Rattle.std.specs.Prelude.{Vec}
use Rattle.std.specs.declared.alloc.Global.{Global}
use Rattle.edge_memory.specs.declared.choice.Choice.{Choice}
use Rattle.edge_memory.specs.declared.change.Change.TheVariants as did
use Rattle.edge_memory.specs.declared.change.Entry.{Entry}
use Rattle.edge_memory.specs.Crashed.{image}

-- each entry is a file as the crash left it
abbrev pub AllFound : Choice → List Entry → List Entry → Type 0
AllFound choice past [] = Unit {0}
AllFound choice past (e ∷ found) = ((bytes : Vec ℕ Global) × (e.change ≡ did.Found bytes) × (bytes.items ≡ image choice e.file past)) × AllFound choice past found
