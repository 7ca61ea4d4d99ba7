-- The first of a list of bots that may step, whether or not each takes messages.
use Rattle.std.specs.Prelude.{List, map, Option, None, if◌then◌else◌}
use Rattle.step_code.specs.declared.base.Base.{Base}
use Rattle.step_code.specs.declared.rules.Facts.{Facts}
use Rattle.step_code.specs.Rules.{collects}
use Rattle.turn_order.specs.Turn.{actor_of, first_some}
use Rattle.turn_order.specs.declared.actor.Actor.{Actor}

-- what a bot does next, unless it is a collector
abbrev pub worker_of : Base → Facts → Option Actor
worker_of s f = if collects f then None else actor_of s f

abbrev pub first_among : Base → List Facts → Option Actor
first_among s bots = first_some (map (worker_of s) bots)
