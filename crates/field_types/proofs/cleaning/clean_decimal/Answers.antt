use Rattle.std.proofs.lemmas.Int.{to_z-of_z}
use Rattle.std.proofs.Common.{w64}
use Rattle.scalar_text.specs.Number.{decimal_text}
use Rattle.std.proofs.Common.{sym, ap, ◌∙◌, subst}
use Rattle.field_types.specs.Cleaning.{clean, IsCleaned}
use Rattle.field_types.specs.declared.value.Value.TheVariants as value
use Rattle.field_types.proofs.KindByKind.{words_decimal, no_decimal}
use Rattle.field_types.proofs.cleaning.clean_decimal.Goals as goal

pub returns-then-takes_words : goal.returns-then-takes_words
returns-then-takes_words c =
    subst (λ o. IsCleaned o c.clean_text.result)
    (ap (λ text. clean c.args.kind (value.Text text)) c.in_ok-print_decimal.ensures ∙ ap (λ n. clean c.args.kind (value.Text (decimal_text n))) (to_z-of_z w64 c.args.n c.ranges.n) ∙ sym (words_decimal c.args.kind c.args.n (sym c.takes_words.ensures ∙ c.if-takes_words.true)))
    c.clean_text.ensures

pub returns-in_default : goal.returns-in_default
returns-in_default c =
    no_decimal c.args.kind c.args.n (sym c.takes_words.ensures ∙ c.if-takes_words.false) c.in_default.not-Decimal c.in_default.not-Extra c.in_default.not-Accuracy
