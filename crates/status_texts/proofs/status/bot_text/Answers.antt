use Rattle.std.proofs.Common.{sym, subst}
use Rattle.std.specs.Str.{IsUtf8}
use Rattle.status_texts.proofs.BotTexts.{name_is_text, read_ok}
use Rattle.status_texts.proofs.status.bot_text.Goals as goal

pub unwrap-requires : goal.unwrap-requires
unwrap-requires c =
    read_ok c.from_utf8.result _ _ c.from_utf8.ensures.cases (λ e fault. fault.0 (subst IsUtf8 (sym c.bytes.ensures.bytes) (name_is_text c.args.bot.now c.bytes.ensures.name)))
