use Rattle.std.proofs.Common.{Err, Option, refl, sym, ap, subst, ◌∙◌}
use Rattle.std.specs.Prelude.{option_and_then}
use Rattle.field_types.specs.Cleaning.{clean, IsCleaned}
use Rattle.field_types.specs.declared.kind.FieldType.{FieldType}
use Rattle.field_types.proofs.CleanedTwice.{cleaned_stays}
use Rattle.event_model.specs.Fields.{value_for}
use Rattle.sieve_eval.proofs.putting.cleaned.Goals as goal

pub returns-in_default-clause-cleaned : goal.returns-in_default-clause-cleaned
unfolding value_for
returns-in_default-clause-cleaned c = (ap (λ (kind : Option FieldType). option_and_then (λ k. clean k c.args.value.now) kind) (sym c.in_default.ensures), refl)

pub returns-in-Ok-clause-cleaned : goal.returns-in-Ok-clause-cleaned
unfolding value_for
returns-in-Ok-clause-cleaned c = ap (λ (kind : Option FieldType). option_and_then (λ k. clean k c.args.value.now) kind) (sym c.in-Some.ensures) ∙ c.in-Ok.ensures

pub returns-in-Ok-clause-field : goal.returns-in-Ok-clause-field
unfolding value_for
returns-in-Ok-clause-field c =
    ap (λ (kind : Option FieldType). option_and_then (λ k. clean k c.in-Ok.value) kind) (sym c.in-Some.ensures) ∙ cleaned_stays c.in-Some.kind c.args.value.now c.in-Ok.value c.in-Ok.ensures

pub returns-in-Err-BadValue-clause-cleaned : goal.returns-in-Err-BadValue-clause-cleaned
unfolding value_for
returns-in-Err-BadValue-clause-cleaned c = (
  ap (λ (kind : Option FieldType). option_and_then (λ k. clean k c.args.value.now) kind) (sym c.in-Some.ensures) ∙ subst (λ e. IsCleaned (clean c.in-Some.kind c.args.value.now) (Err e)) c.in-Err-BadValue.field-0-is c.in-Err-BadValue.ensures,
  refl,
)
