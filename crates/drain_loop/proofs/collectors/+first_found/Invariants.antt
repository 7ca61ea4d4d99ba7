use Rattle.std.proofs.Common.{length}
use Rattle.drain_loop.proofs.collectors.+first_found.Given as goal

abbrev pub decreases-first_found : goal.decreases-first_found
decreases-first_found g l = length l.feeds.now
