use Rattle.turn_order.proofs.Actors.{first_actors_may_act}
use Rattle.turn_order.proofs.laws.first_actors_may_act.Goals as goal

pub returns : goal.returns
returns c = first_actors_may_act
