use Rattle.std.proofs.Common.{sym, ◌∙◌, subst}
use Rattle.field_types.specs.Cleaning.{text_in}
use Rattle.field_types.specs.Kept.{IsKeptAs}
use Rattle.field_types.proofs.Cases.{upper_same}
use Rattle.field_types.proofs.texts.upper.Goals as goal

pub returns-then-not-has_lower : goal.returns-then-not-has_lower
returns-then-not-has_lower c =
    subst (λ text. IsKeptAs (text_in text) c.args.text.now c.keep_text.result) (sym (upper_same c.args.text.now (sym c.has_lower.ensures ∙ c.if-not-has_lower.true))) c.keep_text.ensures
