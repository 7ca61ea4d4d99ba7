use Rattle.std.proofs.Common.{◌≡◌, ◌++◌, take}
use Rattle.std.specs.FinMap.{entries, from_entries}
use Rattle.expert_rules.proofs.setting.set_absent.Given as goal

abbrev pub invariant-pairs : goal.invariant-pairs
invariant-pairs l = l.fields ≡ from_entries (entries l.fn.fields ++ take l.pair-index l.pair-items)
