use Rattle.std.proofs.Common.{◌≡◌, drop}
use Rattle.serde_json.specs.View.{items_view}
use Rattle.event_model.specs.Trees.{items_of}
use Rattle.event_model.proofs.Written.{in_front}
use Rattle.event_model.proofs.tree_value.items_of.Given as goal

abbrev pub invariant-trees : goal.invariant-trees
invariant-trees l = items_of (items_view l.trees) ≡ in_front l.items.items (items_of (items_view (drop l.tree-index l.trees)))
