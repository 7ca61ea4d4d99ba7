use Rattle.std.proofs.Common.{option_map, Option, ap, ◌∙◌}
use Rattle.std.specs.Prelude.{option_and_then}
use Rattle.serde_json.proofs.Views.{view-lookup}
use Rattle.serde_json.specs.Find.{as_object}
use Rattle.serde_json.specs.View.{view}
use Rattle.serde_json.specs.declared.value.Value.{Value}
use Rattle.expert_modify.proofs.reading.object_under.Goals as goal

pub returns-in-None : goal.returns-in-None
returns-in-None c =
    ap (λ (o : Option Value). option_and_then as_object (option_map view o)) c.in-None.ensures.value
    ∙ ap (option_and_then as_object) (view-lookup c.args.name.now c.args.members.now.entries)

pub returns-in-Some : goal.returns-in-Some
returns-in-Some c =
    c.as_object.ensures ∙ ap (λ (o : Option Value). option_and_then as_object (option_map view o)) c.in-Some.ensures.value
    ∙ ap (option_and_then as_object) (view-lookup c.args.name.now c.args.members.now.entries)
