-- What opening a store finds, and what it leaves of the disk.
use Rattle.std.specs.Prelude.{◌≡◌, ◌≢◌, ◌≤◌, ◌<◌, ℕ, false, List, [], ◌∷◌, ◌++◌, length, map, take, Option, Some, None}
use Rattle.edge_traits.specs.Disk.{Adds, ChangesOnly, DiskView, Image, IsImage, Leaves, LeavesOthers}
use Rattle.disk_journal.specs.GateFile.{gate_file, HasBodies}
use Rattle.disk_journal.specs.declared.journal.JournalFault.{JournalFault}
use Rattle.disk_journal.specs.declared.journal.JournalFault.TheVariants as journal
use Rattle.stored_types.specs.Code.{number}
use Rattle.step_code.specs.declared.base.Base.{Base}
use Rattle.step_code.specs.declared.output.Output.{Output}
use Rattle.step_code.specs.declared.step.Step.{Step}
use Rattle.step_code.specs.History.{replay}
use Rattle.step_code.specs.Rules.{Meaning}
use Rattle.store_image.specs.Damage.{IsDamagedStore, IsShort}
use Rattle.store_image.specs.Files.{root_file, root_heading}
use Rattle.store_image.specs.Opens.{AreLong}
use Rattle.store_image.specs.Stands.{Origin, StandsFor}
use Rattle.journal_book.specs.Book.{BookView, IsKept}
use Rattle.journal_book.specs.declared.book_fault.BookFault.{BookFault}
use Rattle.journal_book.specs.declared.book_fault.BookFault.TheVariants as fault

-- ---- what public contracts cite

-- a store can't be opened: there is none, or it is damaged; the other faults say nothing of both
abbrev pub IsReopenFault : Meaning → Option Image → BookFault → Type 0
IsReopenFault m told fault.Disk = Unit {0}
IsReopenFault m told (fault.Damaged file at) = (files : Image) → told ≡ Some files → (0 < length (files root_file)) × IsDamagedStore m files file at
IsReopenFault m told (fault.Store have) = (have ≡ 0) × ((files : Image) → told ≡ Some files → files root_file ≡ [])
IsReopenFault m told fault.Refused = ⊥
IsReopenFault m told fault.OutOfMemory = Unit {0}

-- the disk tells what it holds, and whatever a crash leaves now stands for these steps and a front of those behind them
pub record StandsNow (m : Meaning) (origin : Origin) (steps more : List Step) (now : DiskView) : Type 0 where
  pub files : Image
  pub tells : now.told ≡ Some files
  pub each : (image : Image) → IsImage now.may_leave image → StandsFor m origin steps more image

-- the book of a store that was opened with this state, and with these steps behind it, all of them durable
abbrev pub opened : {D R : Type 0} → Meaning → R → ℕ → ℕ → ℕ → Base → List Step → ℕ → D → BookView D R
opened m rules format generation root base steps limit disk =
    record { disk = disk; rules = rules; format = format; generation = generation; root = root; base = base; steps = steps; kept = length steps; state = replay m base steps; limit = limit; broken = false }

-- the book goes on with these steps and a front of those behind them, all of which are durable
pub record IsReopened {D R : Type 0} (disk : D → DiskView) (m : Meaning) (origin : Origin) (steps more : List Step) (book : BookView D R) : Type 0 where
  pub past : List Step
  pub count : ℕ
  pub within : count ≤ length more
  pub splits : past ++ book.steps ≡ steps ++ take count more
  pub kept : IsKept disk m origin past book

-- the disk tells what it holds, and the files of these outputs are no shorter than what is sealed
abbrev pub TellsLong : Option Image → List Output → Type 0
TellsLong told outs = (files : Image) × (told ≡ Some files) × AreLong 0 outs files

-- the root names generations, this one last, and has this length up to the gate behind them, where it is cut
pub record IsRootLength (files : Image) (generation root : ℕ) : Type 0 where
  pub before : List ℕ
  pub bodies : HasBodies root_heading (map number (before ++ generation ∷ [])) (files root_file)
  pub is : root ≡ length (gate_file root_heading (map number (before ++ generation ∷ [])) 0)

-- ---- what private contracts cite

-- damage of a file is told where it is; the other faults say nothing of the file
abbrev pub IsFileFault : (ℕ → Type 0) → JournalFault → Type 0
IsFileFault bad (journal.Damaged at) = bad at
IsFileFault bad journal.Disk = Unit {0}
IsFileFault bad journal.OutOfMemory = Unit {0}

-- an output that is too short is told
abbrev pub IsShortFault : List Output → Option Image → BookFault → Type 0
IsShortFault outs told fault.Disk = Unit {0}
IsShortFault outs told (fault.Damaged file at) = (files : Image) → told ≡ Some files → IsShort 0 outs files file at
IsShortFault outs told (fault.Store have) = ⊥
IsShortFault outs told fault.Refused = ⊥
IsShortFault outs told fault.OutOfMemory = ⊥

-- what a journal's fault says of a store
abbrev pub in_file : ℕ → JournalFault → BookFault
in_file file journal.Disk = fault.Disk
in_file file (journal.Damaged at) = fault.Damaged file at
in_file file journal.OutOfMemory = fault.OutOfMemory

-- whatever stood for a history does so at each moment of a call, and behind it
pub record KeepsHistories (old new : DiskView) : Type 0 where
  pub now : (m : Meaning) (origin : Origin) (steps more : List Step) → StandsNow m origin steps more old → StandsNow m origin steps more new
  pub run : (m : Meaning) (origin : Origin) (steps more : List Step) → StandsNow m origin steps more old → Leaves old new (StandsFor m origin steps more)

-- what recovering one file of a store leaves
pub record Recovers (file : ℕ) (old new : DiskView) : Type 0 where
  pub elsewhere : (files : Image) → old.told ≡ Some files → ChangesOnly files new.told file
  pub untold : old.told ≡ None → new.told ≡ None
  pub crash_elsewhere : Adds old new (λ other. other ≢ file)
  pub others_any_moment : (files : Image) → old.told ≡ Some files → Leaves old new (LeavesOthers old file)
  pub histories : KeepsHistories old new
  pub count : old.faults ≤ new.faults
