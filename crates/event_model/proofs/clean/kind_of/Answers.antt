use Rattle.std.proofs.Common.{option_map, Option, ap, ◌∙◌}
use Rattle.serde_json.proofs.Views.{view-lookup}
use Rattle.serde_json.specs.View.{view}
use Rattle.serde_json.specs.declared.value.Value.{Value}
use Rattle.event_model.specs.Lenient.{kind_of, kind_of_word, type_key}
use Rattle.event_model.proofs.clean.kind_of.Goals as goal

pub returns-in-None : goal.returns-in-None
returns-in-None c = ap (λ (o : Option Value). kind_of (option_map view o)) c.in-None.ensures.value ∙ ap kind_of (view-lookup type_key c.args.members.now.entries)

pub returns-in_ok-as_str-in-Some : goal.returns-in_ok-as_str-in-Some
returns-in_ok-as_str-in-Some c =
    c.kind_of_word.ensures ∙ ap kind_of_word c.in_ok-as_str-in-Some.ensures
    ∙ ap (λ (o : Option Value). kind_of (option_map view o)) c.in-Some.ensures.value
    ∙ ap kind_of (view-lookup type_key c.args.members.now.entries)

pub returns-in_err-as_str-in-Some : goal.returns-in_err-as_str-in-Some
returns-in_err-as_str-in-Some c =
    c.from_residual.ensures ∙ ap kind_of_word c.in_err-as_str-in-Some.ensures
    ∙ ap (λ (o : Option Value). kind_of (option_map view o)) c.in-Some.ensures.value
    ∙ ap kind_of (view-lookup type_key c.args.members.now.entries)
