use Rattle.turn_order.proofs.Idle.{idle_is_told}
use Rattle.turn_order.proofs.laws.idle_is_told.Goals as goal

pub returns : goal.returns
returns c = idle_is_told
