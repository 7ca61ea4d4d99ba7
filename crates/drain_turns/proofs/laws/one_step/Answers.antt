use Rattle.drain_turns.proofs.One.{one_step}
use Rattle.drain_turns.proofs.laws.one_step.Goals as goal

pub returns : goal.returns
returns c = one_step
