use Rattle.std.proofs.Common.{◌≤◌, length}
use Rattle.file_disk.proofs.handle.Handle.read.Given as goal

-- no more was read than there is room
abbrev pub invariant-reads : goal.invariant-reads
invariant-reads g l = l.done ≤ length l.buf
