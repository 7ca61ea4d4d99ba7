use Rattle.std.proofs.Common.{vec_len}
use Rattle.run_command.proofs.workers.+give_back_workers.Given as goal

abbrev pub decreases-give_back_workers : goal.decreases-give_back_workers
decreases-give_back_workers g l = vec_len l.workers
