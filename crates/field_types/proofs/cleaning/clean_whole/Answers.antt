use Rattle.std.proofs.Common.{rules, sym, ap, ◌∙◌, subst}
use Rattle.field_types.specs.Cleaning.{clean, IsCleaned}
use Rattle.field_types.specs.declared.value.Value.TheVariants as value
use Rattle.field_types.proofs.KindByKind.{words_whole, no_whole}
use Rattle.field_types.proofs.cleaning.clean_whole.Goals as goal

pub returns-then-takes_words : goal.returns-then-takes_words
returns-then-takes_words c =
    subst (λ o. IsCleaned o c.clean_text.result)
    (ap (λ text. clean c.args.kind (value.Text text)) (search rules) ∙ sym (words_whole c.args.kind c.args.n (sym c.takes_words.ensures ∙ c.if-takes_words.true)))
    c.clean_text.ensures

pub returns-in_default : goal.returns-in_default
returns-in_default c =
    no_whole c.args.kind c.args.n (sym c.takes_words.ensures ∙ c.if-takes_words.false) c.in_default.not-Whole c.in_default.not-Asn c.in_default.not-Port
    c.in_default.not-Decimal c.in_default.not-Accuracy c.in_default.not-Flag c.in_default.not-Extra
