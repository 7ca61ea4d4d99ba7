use Rattle.std.proofs.Common.{Err, Option, sym, ap, subst, ◌∙◌, option_and_then}
use Rattle.field_types.specs.Cleaning.{clean, IsCleaned}
use Rattle.field_types.specs.declared.kind.FieldType.{FieldType}
use Rattle.field_types.proofs.CleanedTwice.{cleaned_stays}
use Rattle.event_model.specs.Edits.{wanted, of_kind, of_clean}
use Rattle.event_model.specs.Fields.{value_for}
use Rattle.event_model.proofs.fields.wanted.Goals as goal

pub returns-in_default-clause-wanted : goal.returns-in_default-clause-wanted
unfolding wanted
returns-in_default-clause-wanted c = ap (λ (kind : Option FieldType). of_kind kind c.args.value.now) (sym c.in_default.ensures)

pub returns-in-Ok-clause-wanted : goal.returns-in-Ok-clause-wanted
unfolding wanted
returns-in-Ok-clause-wanted c = ap (λ (kind : Option FieldType). of_kind kind c.args.value.now) (sym c.in-Some.ensures) ∙ ap of_clean c.in-Ok.ensures

pub returns-in-Err-BadValue-clause-wanted : goal.returns-in-Err-BadValue-clause-wanted
unfolding wanted
returns-in-Err-BadValue-clause-wanted c = ap (λ (kind : Option FieldType). of_kind kind c.args.value.now) (sym c.in-Some.ensures) ∙ ap of_clean (subst (λ e. IsCleaned (clean c.in-Some.kind c.args.value.now) (Err e)) c.in-Err-BadValue.field-0-is c.in-Err-BadValue.ensures)

pub returns-in-Ok-clause-field : goal.returns-in-Ok-clause-field
unfolding value_for
returns-in-Ok-clause-field c =
    ap (λ (kind : Option FieldType). option_and_then (λ k. clean k c.in-Ok.value) kind) (sym c.in-Some.ensures) ∙ cleaned_stays c.in-Some.kind c.args.value.now c.in-Ok.value c.in-Ok.ensures
