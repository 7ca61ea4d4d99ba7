use Rattle.std.proofs.Common.{length, ◌-◌, ◌≤◌}
use Rattle.event_model.specs.Noted.{AgreeBelow}
use Rattle.event_model.proofs.names.common_front.Given as goal

abbrev pub invariant-bytes : goal.invariant-bytes
invariant-bytes l = AgreeBelow l.shared l.name l.other × (l.fn.known ≤ l.shared)

abbrev pub decreases-bytes : goal.decreases-bytes
decreases-bytes l = length l.name - l.shared
