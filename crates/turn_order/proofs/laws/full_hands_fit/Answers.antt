use Rattle.turn_order.proofs.Actors.{full_hands_fit}
use Rattle.turn_order.proofs.laws.full_hands_fit.Goals as goal

pub returns : goal.returns
returns c = full_hands_fit
