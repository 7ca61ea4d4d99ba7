use Rattle.std.proofs.Common.{sym, ap, ◌∙◌, subst, Some}
use Rattle.field_types.specs.Cleaning.{of_text, IsCleaned}
use Rattle.field_types.specs.Kept.{kept_value}
use Rattle.field_types.proofs.KindByKind.{clean_text, kept_err}
use Rattle.field_types.proofs.cleaning.sanitise_text.Goals as goal

pub returns-in-Err : goal.returns-in-Err
returns-in-Err c =
    kept_err _ _ c.strip-stripped.result.now c.in-Err.fault (sym (clean_text c.args.kind c.args.text.now ∙ ap (of_text c.args.kind) (sym c.strip-stripped.ensures))) c.in-Err.ensures

pub returns-in-Ok-Same : goal.returns-in-Ok-Same
returns-in-Ok-Same c =
    subst (λ o. IsCleaned o c.copy_of.result)
    (sym (clean_text c.args.kind c.args.text.now ∙ ap (of_text c.args.kind) (sym c.strip-stripped.ensures) ∙ c.in-Ok-Same.ensures ∙ ap (λ k. Some (kept_value c.strip-stripped.result.now k)) c.in-Ok-Same.field-0-is)) c.copy_of.ensures

pub returns-in-Ok-Other : goal.returns-in-Ok-Other
returns-in-Ok-Other c = clean_text c.args.kind c.args.text.now ∙ ap (of_text c.args.kind) (sym c.strip-stripped.ensures) ∙ c.in-Ok-Other.ensures ∙ ap (λ k. Some (kept_value c.strip-stripped.result.now k)) c.in-Ok-Other.field-0-is
