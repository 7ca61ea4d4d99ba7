use Rattle.std.proofs.Common.{◌≡◌, reverse, take}
use Rattle.edge_memory.specs.Entries.{content}
use Rattle.edge_memory.proofs.replay.content_of.Given as goal

abbrev pub invariant-entries : goal.invariant-entries
invariant-entries l = l.bytes.items ≡ content l.file (reverse (take l.entry-index l.entries))
