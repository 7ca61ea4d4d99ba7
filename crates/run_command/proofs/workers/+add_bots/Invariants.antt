use Rattle.std.proofs.Common.{length}
use Rattle.run_command.proofs.workers.+add_bots.Given as goal

abbrev pub decreases-add_bots : goal.decreases-add_bots
decreases-add_bots g l = length l.bots.now
