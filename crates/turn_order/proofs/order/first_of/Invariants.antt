use Rattle.std.proofs.Common.{◌≡◌, drop}
use Rattle.turn_order.specs.Order.{first_among}
use Rattle.turn_order.proofs.order.first_of.Given as goal

-- no bot so far may step
abbrev pub invariant-bots : goal.invariant-bots
invariant-bots g l = first_among l.core.state l.bots ≡ first_among l.core.state (drop l.facts-index l.bots)
