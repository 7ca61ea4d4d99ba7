use Rattle.std.proofs.Common.{◌≡◌, ◌-◌, length, drop}
use Rattle.expert_rules.specs.Modify.{limit, run, standing_of}
use Rattle.expert_rules.proofs.modifying.modify.Given as goal

abbrev pub invariant-rules : goal.invariant-rules
invariant-rules l = record {
  same : l.rules ≡ l.fn.rules;
  goes_on : run l.overwrite (drop l.i l.fn.rules) (standing_of l.standing) ≡ run l.overwrite l.fn.rules (limit l.most, l.fields);
}

abbrev pub decreases-rules : goal.decreases-rules
decreases-rules l = length l.rules - l.i
