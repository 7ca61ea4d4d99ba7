use Rattle.std.proofs.Common.{◌≡◌, take}
use Rattle.expert_modify.proofs.prepared.prepared_conditions.Given as goal

abbrev pub invariant-conditions : goal.invariant-conditions
invariant-conditions l = l.prepared.items ≡ take l.condition-index l.conditions
