use Rattle.drain_turns.proofs.ReadOn.{feeds_stay_readable}
use Rattle.drain_turns.proofs.laws.feeds_stay_readable.Goals as goal

pub returns : goal.returns
returns c = feeds_stay_readable
