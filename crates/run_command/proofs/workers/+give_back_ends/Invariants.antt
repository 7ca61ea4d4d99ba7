use Rattle.std.proofs.Common.{vec_len}
use Rattle.run_command.proofs.workers.+give_back_ends.Given as goal

abbrev pub decreases-give_back_ends : goal.decreases-give_back_ends
decreases-give_back_ends g l = vec_len l.ends
