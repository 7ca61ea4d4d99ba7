use Rattle.std.proofs.Common.{◌≡◌, ◌≤◌, take}
use Rattle.std.specs.Prelude.{sum_by}
use Rattle.expert_modify.proofs.Rules.{patterns_of}
use Rattle.expert_modify.proofs.reading.have_many_patterns.Given as goal

abbrev pub invariant-rules : goal.invariant-rules
invariant-rules l = record {
  counted : l.patterns ≡ sum_by patterns_of (take l.rule-index l.rules);
  few : l.patterns ≤ 32;
}
