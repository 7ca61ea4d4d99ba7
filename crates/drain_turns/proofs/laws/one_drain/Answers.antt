use Rattle.drain_turns.proofs.OneDrain.{one_drain}
use Rattle.drain_turns.proofs.laws.one_drain.Goals as goal

pub returns : goal.returns
returns c = one_drain
