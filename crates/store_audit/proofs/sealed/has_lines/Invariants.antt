use Rattle.std.proofs.Common.{◌≡◌, ◌+◌, length, take, Some}
use Rattle.edge_traits.specs.Disk.{Image}
use Rattle.disk_journal.specs.Reads.{OnlyReads}
use Rattle.out_files.specs.Output.{lines_text}
use Rattle.store_audit.specs.Sealed.{StandsAt}
use Rattle.store_audit.proofs.sealed.has_lines.Given as goal

abbrev pub invariant-lines : goal.invariant-lines
invariant-lines g l = record {
  reads : OnlyReads (g.D.Disk.disk l.fn.disk) (g.D.Disk.disk l.disk);
  place : l.at ≡ l.start + length (lines_text (take l.line-index l.lines));
  stand : (files : Image) → (g.D.Disk.disk l.fn.disk).told ≡ Some files → StandsAt (lines_text (take l.line-index l.lines)) l.start (files l.file);
}
