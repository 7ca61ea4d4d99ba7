use Rattle.std.proofs.Common.{sym, ◌∙◌, ap}
use Rattle.std.proofs.lemmas.Str.Pattern.{contains_text}
use Rattle.sieve_eval.specs.Says.{has_part, is_text}
use Rattle.sieve_eval.proofs.Texts.{contains_is}
use Rattle.sieve_eval.proofs.saying.has_part.Goals as goal

pub returns-in-Text : goal.returns-in-Text
returns-in-Text c =
    let part = c.as_str-in-Text.result.now in
    let text = c.as_str.result.now in
    let found = contains_is part text c.contains.result (contains_text c.contains.result part text c.contains.ensures.cases) in
    found ∙ (ap (λ p. has_part p text) c.as_str-in-Text.ensures ∙ (ap (has_part c.args.part.now) c.as_str.ensures ∙ sym (ap (is_text (has_part c.args.part.now)) c.in-Text.is)))
