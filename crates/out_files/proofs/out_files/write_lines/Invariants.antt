use Rattle.std.proofs.Common.{◌≡◌, ◌<◌, ◌≤◌, ◌+◌, length, take, Some}
use Rattle.std.specs.Vec.{vec_capacity}
use Rattle.edge_traits.specs.Disk.{Image}
use Rattle.out_files.specs.Output.{lines_text, completed}
use Rattle.out_files.specs.Run.{piece_length, RunsAbove, IsSoFar}
use Rattle.out_files.proofs.out_files.write_lines.Given as goal

abbrev pub invariant-lines : goal.invariant-lines
invariant-lines g l = record {
  above : l.sealed ≤ l.at;
  size : l.at + length l.buffer.items ≡ l.sealed + length (lines_text (take l.line-index l.lines));
  text : (files after : Image) → (g.D.Disk.disk l.fn.disk).told ≡ Some files → (g.D.Disk.disk l.disk).told ≡ Some after
      → IsSoFar (after l.file) l.at l.buffer.items (completed (files l.file) l.sealed (take l.line-index l.lines));
  less : length l.buffer.items < piece_length;
  room : vec_capacity l.fn.buffer ≤ vec_capacity l.buffer;
  run : RunsAbove (g.D.Disk.disk l.fn.disk) (g.D.Disk.disk l.disk) l.file l.sealed;
}
