use Rattle.drain_turns.proofs.Working.{some_step}
use Rattle.drain_turns.proofs.laws.some_step.Goals as goal

pub returns : goal.returns
returns c = some_step
