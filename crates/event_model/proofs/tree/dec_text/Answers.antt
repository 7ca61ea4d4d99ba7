use Rattle.std.proofs.Common.{option_map, option_and_then, Option, ap, ◌∙◌}
use Rattle.serde_json.proofs.Views.{view-lookup}
use Rattle.serde_json.specs.Find.{as_str}
use Rattle.serde_json.specs.View.{view}
use Rattle.serde_json.specs.declared.value.Value.{Value}
use Rattle.event_model.specs.Trees.{dec_key}
use Rattle.event_model.proofs.tree.dec_text.Goals as goal

pub returns-in-None : goal.returns-in-None
returns-in-None c = ap (λ (o : Option Value). option_and_then as_str (option_map view o)) c.in-None.ensures.value ∙ ap (option_and_then as_str) (view-lookup dec_key c.args.members.now.entries)

pub returns-in-Some : goal.returns-in-Some
returns-in-Some c =
    c.as_str.ensures ∙ ap (λ (o : Option Value). option_and_then as_str (option_map view o)) c.in-Some.ensures.value
    ∙ ap (option_and_then as_str) (view-lookup dec_key c.args.members.now.entries)
