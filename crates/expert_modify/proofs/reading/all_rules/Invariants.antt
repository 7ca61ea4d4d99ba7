use Rattle.std.proofs.Common.{◌≡◌, ◌+◌, length, drop}
use Rattle.serde_json.specs.View.{items_view}
use Rattle.expert_modify.specs.Reading.{rules_from}
use Rattle.expert_modify.proofs.Rules.{ahead}
use Rattle.expert_modify.proofs.reading.all_rules.Given as goal

abbrev pub invariant-trees : goal.invariant-trees
invariant-trees l = rules_from 1 (items_view l.trees) ≡ ahead l.rules.items (rules_from (length l.rules.items + 1) (items_view (drop l.tree-index l.trees)))
