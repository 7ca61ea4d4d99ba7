use Rattle.turn_order.proofs.Actors.{hands_are_live}
use Rattle.turn_order.proofs.laws.hands_are_live.Goals as goal

pub returns : goal.returns
returns c = hands_are_live
