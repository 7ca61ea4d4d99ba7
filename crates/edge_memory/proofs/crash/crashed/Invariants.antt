use Rattle.std.proofs.Common.{◌≡◌, reverse, take}
use Rattle.edge_memory.specs.Entries.{content}
use Rattle.edge_memory.specs.Crashed.{crashed}
use Rattle.edge_memory.proofs.crash.crashed.Given as goal

abbrev pub invariant-entries : goal.invariant-entries
invariant-entries l = record {
  seen : l.seen.items ≡ content l.file (reverse (take l.entry-index l.entries));
  bytes : l.bytes.items ≡ crashed l.choice (l.file) (reverse (take l.entry-index l.entries));
}
