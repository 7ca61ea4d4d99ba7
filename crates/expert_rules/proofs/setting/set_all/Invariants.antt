use Rattle.std.proofs.Common.{◌≡◌, ◌≤◌, ◌++◌, length, drop}
use Rattle.std.specs.FinMap.{entries, from_entries}
use Rattle.expert_rules.proofs.setting.set_all.Given as goal

abbrev pub invariant-pairs : goal.invariant-pairs
invariant-pairs l = (l.left ≤ length l.pairs) × (l.fields ≡ from_entries (drop l.left l.pairs ++ entries l.fn.fields))

abbrev pub decreases-pairs : goal.decreases-pairs
decreases-pairs l = l.left
