use Rattle.std.proofs.Common.{sym, ap, ◌∙◌, subst}
use Rattle.field_types.specs.Cleaning.{clean, IsCleaned}
use Rattle.field_types.specs.declared.value.Value.TheVariants as value
use Rattle.field_types.proofs.KindByKind.{words_flag, no_flag, flag_kept}
use Rattle.field_types.proofs.cleaning.clean_flag.Goals as goal

pub returns-then-takes_words : goal.returns-then-takes_words
returns-then-takes_words c =
    subst (λ o. IsCleaned o c.sanitise_text.result)
    (ap (λ text. clean c.args.kind (value.Text text)) c.flag_word.ensures ∙ sym (words_flag c.args.kind c.args.flag (sym c.takes_words.ensures ∙ c.if-takes_words.true)))
    c.sanitise_text.ensures

pub returns-in_default : goal.returns-in_default
returns-in_default c = no_flag c.args.kind c.args.flag (sym c.takes_words.ensures ∙ c.if-takes_words.false) c.in_default.not-Flag c.in_default.not-Extra

pub returns-in-Flag : goal.returns-in-Flag
returns-in-Flag c = flag_kept c.args.kind c.args.flag c.in-Flag.is
