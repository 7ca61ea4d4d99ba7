use Rattle.std.proofs.Common.{◌≡◌, ◌+◌, ◌-◌, ◌≤◌, length, drop}
use Rattle.std.specs.List.{prefix_len}
use Rattle.base_types.specs.Plain.{is_plain_ascii}
use Rattle.base_types.proofs.plain_runs.ascii_len.Given as goal

abbrev pub invariant-lanes : goal.invariant-lanes
invariant-lanes l = (prefix_len is_plain_ascii l.text ≡ l.at + prefix_len is_plain_ascii (drop l.at l.text)) × (l.at ≤ length l.text)

abbrev pub decreases-lanes : goal.decreases-lanes
decreases-lanes l = length l.text - l.at
