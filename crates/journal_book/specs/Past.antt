-- What reading an earlier generation finds.
use Rattle.std.specs.Prelude.{◌≡◌, ℕ, List, Option, Some}
use Rattle.edge_traits.specs.Disk.{Image}
use Rattle.disk_journal.specs.declared.journal.JournalFault.{JournalFault}
use Rattle.disk_journal.specs.declared.journal.JournalFault.TheVariants as journal
use Rattle.step_code.specs.declared.base.Base.{Base}
use Rattle.step_code.specs.declared.step.Step.{Step}
use Rattle.step_code.specs.Rules.{Meaning}
use Rattle.step_code.specs.Sound.{IsSound}
use Rattle.store_image.specs.Damage.{AreNoHistory, IsDamagedFile}
use Rattle.store_image.specs.Files.{generation_file, heading_of}
use Rattle.store_image.specs.Opens.{AreReplayable}
use Rattle.store_image.specs.Stored.{HoldsSteps}
use Rattle.journal_book.specs.declared.past_fault.PastFault.{PastFault}
use Rattle.journal_book.specs.declared.past_fault.PastFault.TheVariants as fault
use Rattle.step_code.specs.Code.{first_format}

-- ---- what public contracts cite

-- a generation's file holds this state, which a store may hold, and these steps behind it, which can be replayed in it
pub record IsPast (m : Meaning) (generation : ℕ) (file : List ℕ) (base : Base) (steps : List Step) : Type 0 where
  pub holds : HoldsSteps generation file base steps
  pub sound : IsSound m base
  pub replays : AreReplayable m base steps

-- a generation can't be read: its file is damaged; the other faults say nothing of the file
abbrev pub IsPastFault : Meaning → ℕ → Option Image → PastFault → Type 0
IsPastFault m generation told fault.Disk = Unit {0}
IsPastFault m generation told (fault.Damaged file at) =
    (file ≡ generation_file generation) × ((files : Image) → told ≡ Some files → IsDamagedFile (heading_of first_format generation) (AreNoHistory m) (files (generation_file generation)) at)
IsPastFault m generation told fault.OutOfMemory = Unit {0}

-- ---- what private contracts cite

-- what a journal's fault says of a generation
abbrev pub past_fault : ℕ → JournalFault → PastFault
past_fault generation journal.Disk = fault.Disk
past_fault generation (journal.Damaged at) = fault.Damaged (generation_file generation) at
past_fault generation journal.OutOfMemory = fault.OutOfMemory
