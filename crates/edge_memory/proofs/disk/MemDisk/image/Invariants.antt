use Rattle.std.proofs.Common.{◌≡◌, ℕ, true, reverse, take}
use Rattle.edge_memory.specs.Entries.{has_file}
use Rattle.edge_memory.specs.Found.{AllFound}
use Rattle.edge_memory.proofs.disk.MemDisk.image.Given as goal

abbrev pub invariant-entries : goal.invariant-entries
invariant-entries l = record {
  found : AllFound l.choice (reverse l.past) (reverse l.log.entries.items);
  covers : (file : ℕ) → has_file file (take l.entry-index l.past) ≡ true → has_file file l.log.entries.items ≡ true;
  calls : l.log.calls ≡ 0;
}
