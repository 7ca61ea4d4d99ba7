use Rattle.std.proofs.Common.{◌∙◌, sym}
use Rattle.scalar_text.proofs.TimesAsPrinted.{time_stays}
use Rattle.scalar_text.proofs.time.is_printed_time.Goals as goal

pub returns-then-is_byte : goal.returns-then-is_byte
returns-then-is_byte c = λ seconds read.
    let stays = time_stays c.args.text.now seconds read in
    let separator = c.is_byte.ensures.0 c.if-is_byte.true in
    (λ yes. stays.0 (sym c.part.ensures ∙ separator, sym c.behind.ensures ∙ c.is_utc.ensures.0 yes), λ same. c.is_utc.ensures.1 (c.behind.ensures ∙ (stays.1 same).1))

pub returns-else-is_byte : goal.returns-else-is_byte
returns-else-is_byte c = λ seconds read.
    let stays = time_stays c.args.text.now seconds read in
    (λ yes. absurd cc, λ same. c.is_byte.ensures.1 (c.part.ensures ∙ (stays.1 same).0))
