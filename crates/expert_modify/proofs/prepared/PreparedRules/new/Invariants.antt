use Rattle.std.proofs.Common.{◌≡◌, take}
use Rattle.expert_modify.proofs.prepared.PreparedRules.new.Given as goal

abbrev pub invariant-rules : goal.invariant-rules
invariant-rules l = l.prepared.items ≡ take l.rule-index l.rule-items
