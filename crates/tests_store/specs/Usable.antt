-- Journals that tests append to.
use Rattle.std.specs.Prelude.{◌≡◌, ◌≤◌, ◌^◌, ℕ, true, false, List}
use Rattle.edge_memory.specs.Disk.{files_of, may_leave}
use Rattle.edge_memory.specs.declared.disk.MemDisk.{MemDisk}
use Rattle.disk_journal.specs.Journal.{JournalView, IsAtRest}

-- it stands over this disk, in file 7, or is broken
pub record IsUsable (journal : JournalView) (disk : MemDisk) : Type 0 where
  pub file : journal.file ≡ 7
  pub at_rest : journal.broken ≡ false → (bodies : List (List ℕ)) × IsAtRest journal (may_leave disk) bodies (files_of disk)
  pub small : journal.broken ≡ true → journal.length ≤ 2 ^ 61
