use Rattle.std.proofs.Common.{sym, ap, ◌∙◌, ◌≡◌, subst, Some, length}
use Rattle.field_types.specs.Cleaning.{of_text, IsCleaned}
use Rattle.field_types.specs.declared.value.Value.TheVariants as value
use Rattle.field_types.specs.Kept.{kept_value}
use Rattle.scalar_text.specs.Strip.{strip}
use Rattle.field_types.proofs.KindByKind.{clean_text, kept_err}
use Rattle.scalar_text.proofs.Stripped.{strip_whole}
use Rattle.field_types.proofs.cleaning.clean_text.Goals as goal

pub returns-in-Err : goal.returns-in-Err
returns-in-Err c =
    kept_err _ _ c.strip-stripped.result.now c.in-Err.fault
    (sym (clean_text c.args.kind c.args.text ∙ ap (λ text. of_text c.args.kind (strip text)) (sym c.as_str.ensures) ∙ ap (of_text c.args.kind) (sym c.strip-stripped.ensures))) c.in-Err.ensures

pub returns-in-Ok-Same : goal.returns-in-Ok-Same
returns-in-Ok-Same c =
    let stripped : strip c.args.text ≡ c.strip-stripped.result.now = ap strip (sym c.as_str.ensures) ∙ sym c.strip-stripped.ensures in
    let lengths : length (strip c.args.text) ≡ length c.args.text = ap length stripped ∙ c.if-is_whole.true ∙ ap length c.as_str-2.ensures in
    clean_text c.args.kind c.args.text ∙ ap (of_text c.args.kind) stripped ∙ c.in-Ok-Same.ensures ∙ ap (λ k. Some (kept_value c.strip-stripped.result.now k)) c.in-Ok-Same.field-0-is
    ∙ ap (λ text. Some (value.Text text)) (sym stripped ∙ strip_whole c.args.text lengths)

pub returns-in-Ok-Same-2 : goal.returns-in-Ok-Same-2
returns-in-Ok-Same-2 c =
    let stripped : strip c.args.text ≡ c.strip-stripped.result.now = ap strip (sym c.as_str.ensures) ∙ sym c.strip-stripped.ensures in
    subst (λ o. IsCleaned o c.copy_of.result)
    (sym (clean_text c.args.kind c.args.text ∙ ap (of_text c.args.kind) stripped ∙ c.in-Ok-Same.ensures ∙ ap (λ k. Some (kept_value c.strip-stripped.result.now k)) c.in-Ok-Same.field-0-is)) c.copy_of.ensures

pub returns-in-Ok-Other : goal.returns-in-Ok-Other
returns-in-Ok-Other c =
    let stripped : strip c.args.text ≡ c.strip-stripped.result.now = ap strip (sym c.as_str.ensures) ∙ sym c.strip-stripped.ensures in
    clean_text c.args.kind c.args.text ∙ ap (of_text c.args.kind) stripped ∙ c.in-Ok-Other.ensures ∙ ap (λ k. Some (kept_value c.strip-stripped.result.now k)) c.in-Ok-Other.field-0-is
