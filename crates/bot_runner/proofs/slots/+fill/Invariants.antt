use Rattle.std.proofs.Common.{vec_len}
use Rattle.bot_runner.proofs.slots.+fill.Given as goal

abbrev pub decreases-fill : goal.decreases-fill
decreases-fill g l = vec_len l.workers
