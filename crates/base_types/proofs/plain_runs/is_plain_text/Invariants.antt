use Rattle.std.proofs.Common.{◌-◌, ◌≤◌, length}
use Rattle.base_types.specs.Plain.{PlainBetween}
use Rattle.base_types.proofs.plain_runs.is_plain_text.Given as goal

abbrev pub invariant-lanes : goal.invariant-lanes
invariant-lanes l = (PlainBetween l.text 0 l.at) × (l.at ≤ length l.text)

abbrev pub decreases-lanes : goal.decreases-lanes
decreases-lanes l = length l.text - l.at
