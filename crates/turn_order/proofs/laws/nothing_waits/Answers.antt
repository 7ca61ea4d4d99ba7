use Rattle.turn_order.proofs.Waiting.{nothing_waits}
use Rattle.turn_order.proofs.laws.nothing_waits.Goals as goal

pub returns : goal.returns
returns c = nothing_waits
