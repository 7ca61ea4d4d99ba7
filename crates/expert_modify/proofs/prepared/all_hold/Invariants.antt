use Rattle.std.proofs.Common.{◌≡◌, ◌-◌, length, drop}
use Rattle.std.specs.List.{list_all}
use Rattle.expert_modify.specs.Meets.{holds}
use Rattle.expert_modify.proofs.prepared.all_hold.Given as goal

abbrev pub invariant-conditions : goal.invariant-conditions
invariant-conditions l = record {
  same : l.conditions ≡ l.fn.conditions;
  left : list_all (holds l.fields) (drop l.i l.fn.conditions) ≡ list_all (holds l.fields) l.fn.conditions;
}

abbrev pub decreases-conditions : goal.decreases-conditions
decreases-conditions l = length l.conditions - l.i
