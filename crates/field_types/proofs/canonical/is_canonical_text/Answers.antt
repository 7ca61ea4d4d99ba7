use Rattle.std.proofs.Common.{Some, Err, sym, subst, ap, ◌∙◌}
use Rattle.field_types.specs.Cleaning.{of_text}
use Rattle.field_types.specs.Kept.{kept_value, IsKeptAs}
use Rattle.field_types.proofs.Unchanged.{text_stays_if, none_stays, whole_text_stays}
use Rattle.field_types.proofs.canonical.is_canonical_text.Goals as goal

pub returns-in-Ok-Same : goal.returns-in-Ok-Same
returns-in-Ok-Same c =
    whole_text_stays c.args.kind c.strip-stripped.result.now c.args.text.now c.strip-stripped.ensures
    (c.in-Ok-Same.ensures ∙ ap (λ k. Some (kept_value c.strip-stripped.result.now k)) c.in-Ok-Same.field-0-is)

pub returns-in-Ok-Other : goal.returns-in-Ok-Other
returns-in-Ok-Other c =
    text_stays_if c.args.kind c.args.text.now c.in-Ok-Other.value c.is_the_text.result
    (ap (of_text c.args.kind) (sym c.strip-stripped.ensures) ∙ c.in-Ok-Other.ensures ∙ ap (λ k. Some (kept_value c.strip-stripped.result.now k)) c.in-Ok-Other.field-0-is)
    c.is_the_text.ensures

pub returns-in-Err-BadValue : goal.returns-in-Err-BadValue
returns-in-Err-BadValue c =
    none_stays c.args.kind c.args.text.now
    (ap (of_text c.args.kind) (sym c.strip-stripped.ensures)
    ∙ subst (λ e. IsKeptAs (of_text c.args.kind c.strip-stripped.result.now) c.strip-stripped.result.now (Err e)) c.in-Err-BadValue.field-0-is c.in-Err-BadValue.ensures)
