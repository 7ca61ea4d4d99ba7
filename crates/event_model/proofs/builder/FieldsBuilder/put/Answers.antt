use Rattle.std.proofs.Common.{◌&&◌, sym, ap, subst, ◌∙◌}
use Rattle.base_types.specs.Place.{is_above_all}
use Rattle.event_model.proofs.Pairs.{Pairs}
use Rattle.event_model.proofs.Settling.{built_push}
use Rattle.event_model.specs.Built.{AreBuilt}
use Rattle.event_model.proofs.builder.FieldsBuilder.put.Goals as goal

pub invariant_of-self-2 : goal.invariant_of-self-2
invariant_of-self-2 c =
    subst (λ (es : Pairs). AreBuilt es c.goes_on-rises.result) (sym c.in_ok-push.ensures.items)
    (built_push c.args.key c.args.value c.self.inside.pairs.items c.self.inside.rises c.goes_on-rises.result c.self.invariant c.requires
    (c.goes_on-rises.ensures ∙ ap (λ (es : Pairs). c.self.inside.rises && is_above_all c.args.key es) c.deref.ensures.value))
