-- Why a store could not be made or opened.
use Rattle.std.specs.Prelude.{◌≡◌, ◌<◌, ℕ, List, length, Option, Some}
use Rattle.edge_traits.specs.Disk.{Image}
use Rattle.step_code.specs.declared.rules.Facts.{Facts}
use Rattle.step_code.specs.History.{first}
use Rattle.step_code.specs.Rules.{Meaning}
use Rattle.step_code.specs.Sound.{IsSound}
use Rattle.store_image.specs.Files.{root_file}
use Rattle.journal_book.specs.declared.book_fault.BookFault.{BookFault}
use Rattle.journal_book.specs.declared.book_fault.BookFault.TheVariants as fault

-- the bundle gives no state that a store may begin with
abbrev pub HasNoFirst : Meaning → List ℕ → Type 0
HasNoFirst m bundle = (bots : List Facts) → m.facts bundle ≡ Some bots → IsSound m (first bots bundle) → ⊥

-- a store can't be made: there is one, or the bundle gives none; the other faults say nothing of both
abbrev pub IsCreateFault : Meaning → List ℕ → Option Image → BookFault → Type 0
IsCreateFault m bundle told fault.Disk = Unit {0}
IsCreateFault m bundle told (fault.Damaged file at) = ⊥
IsCreateFault m bundle told (fault.Store have) = (files : Image) → told ≡ Some files → (have ≡ length (files root_file)) × (0 < have)
IsCreateFault m bundle told fault.Refused = HasNoFirst m bundle
IsCreateFault m bundle told fault.OutOfMemory = Unit {0}

-- the disk tells what it holds
abbrev pub Tells : Option Image → Type 0
Tells told = (files : Image) × (told ≡ Some files)
