use Rattle.std.proofs.Common.{vec_len}
use Rattle.bot_runner.proofs.slots.+gather.Given as goal

abbrev pub decreases-gather : goal.decreases-gather
decreases-gather g l = vec_len l.slots
