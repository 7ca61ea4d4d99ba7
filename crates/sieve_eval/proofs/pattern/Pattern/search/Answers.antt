use Rattle.std.proofs.Common.{◌≡◌, ap, subst, ◌∙◌, is_some}
use Rattle.regex.specs.Patterns.{find_str}
use Rattle.sieve_eval.specs.Says.{matches}
use Rattle.sieve_eval.proofs.Patterns.{built_matches}
use Rattle.sieve_eval.proofs.pattern.Pattern.search.Goals as goal

pub returns : goal.returns
returns c =
    let r = c.self.inside.regex in
    let hay = c.args.text.now in
    let found = c.is_match.ensures.found ∙ ap (λ re. is_some (find_str re hay 0)) c.in_ok-matcher.ensures.pattern in
    subst (λ p. c.is_match.result ≡ matches hay p) c.self.view_is (found ∙ built_matches r c.self.invariant.0 c.self.invariant.1 hay (λ k. (c.type_inv.text k).fits))
