use Rattle.turn_order.proofs.Actors.{takes_fit}
use Rattle.turn_order.proofs.laws.takes_fit.Goals as goal

pub returns : goal.returns
returns c = takes_fit
