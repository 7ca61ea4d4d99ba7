use Rattle.std.proofs.Common.{sym, ◌∙◌, subst}
use Rattle.field_types.specs.Cleaning.{text_in}
use Rattle.field_types.specs.Kept.{IsKeptAs}
use Rattle.field_types.proofs.Cases.{lower_same}
use Rattle.field_types.proofs.texts.lower.Goals as goal

pub returns-then-not-has_upper : goal.returns-then-not-has_upper
returns-then-not-has_upper c =
    subst (λ text. IsKeptAs (text_in text) c.args.text.now c.keep_text.result) (sym (lower_same c.args.text.now (sym c.has_upper.ensures ∙ c.if-not-has_upper.true))) c.keep_text.ensures
