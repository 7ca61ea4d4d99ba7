use Rattle.std.proofs.Common.{◌≡◌, IfOk, sym, subst}
use Rattle.base_types.proofs.PlainRuns.{written}
use Rattle.event_text.proofs.Unescaped.{written_text}
use Rattle.event_text.proofs.string.text_in.Goals as goal

pub returns-then-is_plain_text : goal.returns-then-is_plain_text
returns-then-is_plain_text c =
    let text = c.args.content.now in
    subst (λ o. IfOk c.utf8_text.result (λ found. found ≡ o)) (sym (written_text text (written text (c.is_plain_text.ensures c.if-is_plain_text.true)))) c.utf8_text.ensures
