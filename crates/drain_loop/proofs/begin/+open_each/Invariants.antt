use Rattle.std.proofs.Common.{length}
use Rattle.drain_loop.proofs.begin.+open_each.Given as goal

abbrev pub decreases-open_each : goal.decreases-open_each
decreases-open_each g l = length l.names.now
