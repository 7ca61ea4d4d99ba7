use Rattle.std.proofs.Common.{Some, ap, ◌∙◌}
use Rattle.event_text.proofs.PlainStrings.{plain_text_at}
use Rattle.event_text.proofs.string.text_at.Goals as goal

pub returns : goal.returns
returns c =
    ap (λ text. Some (text, c.in-Some.behind.now)) (c.from-text.ensures ∙ c.in_ok-from_str.ensures.ok)
    ∙ plain_text_at c.args.inside.now c.in-Some.content.now c.in-Some.behind.now c.in-Some.ensures.ends c.in-Some.ensures.plain c.in-Some.ensures.utf8
