use Rattle.drain_turns.proofs.Opened.{opened_feeds_are_readable}
use Rattle.drain_turns.proofs.laws.opened_feeds_are_readable.Goals as goal

pub returns : goal.returns
returns c = opened_feeds_are_readable
