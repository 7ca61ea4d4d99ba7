use Rattle.drain_turns.proofs.Nobody.{nobody_only_if_halted}
use Rattle.drain_turns.proofs.laws.nobody_only_if_halted.Goals as goal

pub returns : goal.returns
returns c = nobody_only_if_halted
