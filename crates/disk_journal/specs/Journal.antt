-- A journal over its file, as contracts see it.
use Rattle.std.specs.Prelude.{◌≡◌, ◌≢◌, ℕ, Bool, false, List, length}
use Rattle.edge_traits.specs.Disk.{Image, Only}
use Rattle.disk_journal.specs.declared.header.Heading.{Heading}
use Rattle.disk_journal.specs.GateFile.{gate_file, HaveLengths, IsDamagedAt, IsHeadless}
use Rattle.disk_journal.specs.declared.journal.JournalFault.{JournalFault}
use Rattle.disk_journal.specs.declared.journal.JournalFault.TheVariants as fault

-- the number of its file, what its header says, the file's length, the length of a body that it can append
-- without memory, and whether the disk has failed it
pub record JournalView : Type 0 where
  pub file : ℕ
  pub heading : Heading
  pub length : ℕ
  pub room : ℕ
  pub broken : Bool

-- the file is whole records with these bodies and a last gate that isn't open, and a crash leaves just that
pub record IsAtRest (journal : JournalView) (may_leave : ℕ → List ℕ → Type 0) (bodies : List (List ℕ)) (files : Image) : Type 0 where
  pub whole : journal.broken ≡ false
  pub gate : ℕ
  pub closed : gate ≢ 1
  pub lengths : HaveLengths bodies
  pub content : files journal.file ≡ gate_file journal.heading bodies gate
  pub end : journal.length ≡ length (files journal.file)
  pub durable : Only (files journal.file) (may_leave journal.file)

-- damage is told where it is; the other faults say nothing of the file
abbrev pub IsFaultOf : Heading → List ℕ → JournalFault → Type 0
IsFaultOf heading file (fault.Damaged at) = IsDamagedAt heading file at
IsFaultOf heading file fault.Disk = Unit {0}
IsFaultOf heading file fault.OutOfMemory = Unit {0}

-- a file without records is told; the other faults say nothing of the file
abbrev pub IsHeadFault : Heading → List ℕ → JournalFault → Type 0
IsHeadFault heading file (fault.Damaged at) = IsHeadless heading file at
IsHeadFault heading file fault.Disk = Unit {0}
IsHeadFault heading file fault.OutOfMemory = Unit {0}
