use Rattle.std.proofs.Common.{Option, option_map, ap, ◌∙◌}
use Rattle.serde_json.proofs.Views.{view_of_ref, view-lookup}
use Rattle.serde_json.specs.View.{view}
use Rattle.serde_json.specs.declared.value.Value.{Value}
use Rattle.runtime_text.proofs.object.member.Goals as goal

pub returns : goal.returns
returns c =
    view_of_ref c.get.result ∙ ap (λ (o : Option Value). option_map view o) c.get.ensures.value
    ∙ view-lookup c.args.name.now c.args.members.now.entries
