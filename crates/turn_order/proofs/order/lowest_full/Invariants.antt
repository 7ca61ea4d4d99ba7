use Rattle.std.proofs.Common.{◌≡◌, ◌≤◌, ◌+◌, ◌-◌}
use Rattle.turn_order.specs.Turn.{lowest_full}
use Rattle.turn_order.proofs.order.lowest_full.Given as goal

-- no instance so far is full
abbrev pub invariant-instances : goal.invariant-instances
invariant-instances g l = (l.instance ≤ l.instances) × (lowest_full l.bot 1 l.instances l.core.state ≡ lowest_full l.bot (l.instance + 1) (l.instances - l.instance) l.core.state)

abbrev pub decreases-instances : goal.decreases-instances
decreases-instances g l = l.instances - l.instance
