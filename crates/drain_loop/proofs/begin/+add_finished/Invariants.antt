use Rattle.std.proofs.Common.{length}
use Rattle.drain_loop.proofs.begin.+add_finished.Given as goal

abbrev pub decreases-add_finished : goal.decreases-add_finished
decreases-add_finished g l = length l.bots.now
