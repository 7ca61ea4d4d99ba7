use Rattle.std.proofs.Common.{◌≡◌, ◌≤◌, take}
use Rattle.std.specs.Prelude.{count_by}
use Rattle.expert_modify.specs.Reading.{is_pattern}
use Rattle.expert_modify.proofs.reading.pattern_count.Given as goal

abbrev pub invariant-conditions : goal.invariant-conditions
invariant-conditions l = record {
  counted : l.patterns ≡ count_by is_pattern (take l.condition-index l.condition-items);
  few : l.patterns ≤ l.condition-index;
}
