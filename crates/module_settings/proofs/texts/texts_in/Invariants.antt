use Rattle.std.proofs.Common.{◌≡◌, drop}
use Rattle.serde_json.specs.View.{items_view}
use Rattle.event_model.proofs.Written.{in_front}
use Rattle.module_settings.specs.Parameters.{texts_in}
use Rattle.module_settings.proofs.texts.texts_in.Given as goal

abbrev pub invariant-trees : goal.invariant-trees
invariant-trees l = texts_in (items_view l.trees) ≡ in_front l.texts.items (texts_in (items_view (drop l.tree-index l.trees)))
