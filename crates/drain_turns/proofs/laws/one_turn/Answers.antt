use Rattle.drain_turns.proofs.Turning.{one_turn}
use Rattle.drain_turns.proofs.laws.one_turn.Goals as goal

pub returns : goal.returns
returns c = one_turn
