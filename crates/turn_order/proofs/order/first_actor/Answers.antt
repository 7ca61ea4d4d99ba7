use Rattle.std.proofs.Common.{◌∙◌, ap}
use Rattle.step_code.specs.State.{bots_in_force}
use Rattle.turn_order.specs.Order.{first_among}
use Rattle.turn_order.proofs.Actors.{among_all}
use Rattle.turn_order.proofs.order.first_actor.Goals as goal

pub returns : goal.returns
returns g c = c.first_of.ensures ∙ ap (first_among c.args.core.now.state) c.bots.ensures ∙ among_all c.args.core.now.state (bots_in_force g.R.Rules.meaning c.args.core.now.state)
