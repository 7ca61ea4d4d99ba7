use Rattle.run_command.proofs.Readable.{workers_keep_feeds_readable}
use Rattle.run_command.proofs.laws.workers_keep_feeds_readable.Goals as goal

pub returns : goal.returns
returns c = workers_keep_feeds_readable
