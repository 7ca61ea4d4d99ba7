-- One file of a bundle.
use Rattle.std.specs.Prelude.{◌≡◌, ◌≤◌, ℕ, List, length, take, IsUtf8, Option, Some, None, Result, Ok, Err}
use Rattle.edge_traits.specs.declared.shelf.ShelfFault.{ShelfFault}
use Rattle.edge_traits.specs.declared.shelf.ShelfFault.TheVariants as shelf
use Rattle.bundle_fetch.specs.Fetch.{kept_file}
use Rattle.bundle_fetch.specs.declared.fault.BundleFault.{BundleFault}
use Rattle.bundle_fetch.specs.declared.fault.BundleFault.TheVariants as fault

-- what comes of a fault of the shelf at this name; where the name is told, memory may run out
abbrev pub IsShelfFault : ShelfFault → List ℕ → BundleFault → Type 0
IsShelfFault shelf.Absent name (fault.Absent other) = other ≡ name
IsShelfFault shelf.Absent name (fault.Failed other) = ⊥
IsShelfFault shelf.Absent name fault.OutOfMemory = Unit {0}
IsShelfFault shelf.Failed name (fault.Absent other) = ⊥
IsShelfFault shelf.Failed name (fault.Failed other) = other ≡ name
IsShelfFault shelf.Failed name fault.OutOfMemory = Unit {0}
IsShelfFault shelf.OutOfMemory name (fault.Absent other) = ⊥
IsShelfFault shelf.OutOfMemory name (fault.Failed other) = ⊥
IsShelfFault shelf.OutOfMemory name fault.OutOfMemory = Unit {0}

-- so many bytes of the content, if there is one; or its name is absent
abbrev pub IsFrontOf : Option (List ℕ) → ℕ → List ℕ → Result (List ℕ) BundleFault → Type 0
IsFrontOf None most name (Ok front) = ⊥
IsFrontOf (Some content) most name (Ok front) = front ≡ take most content
IsFrontOf None most name (Err (fault.Absent other)) = other ≡ name
IsFrontOf (Some content) most name (Err (fault.Absent other)) = ⊥
IsFrontOf content most name (Err (fault.Failed other)) = Unit {0}
IsFrontOf content most name (Err fault.OutOfMemory) = Unit {0}

-- a file as it is kept: its name is a text, and it isn't too long
abbrev pub IsKeptFile : List ℕ × List ℕ → Type 0
IsKeptFile file = IsUtf8 file.0 × (length file.1 ≤ kept_file)
