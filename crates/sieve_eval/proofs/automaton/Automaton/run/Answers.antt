use Rattle.std.proofs.Common.{subst}
use Rattle.regex_dfa.specs.declared.forward.End.TheVariants as ended
use Rattle.regex_meta.proofs.LeftmostLemmas.{are_bytes}
use Rattle.sieve_eval.proofs.Automata.{found, none_found, Ended}
use Rattle.sieve_eval.proofs.automaton.Automaton.run.Goals as goal

pub returns-in-At-clause-found : goal.returns-in-At-clause-found
returns-in-At-clause-found c =
    let p = c.args.self.now.program in
    let end = c.in-At.field-0 in
    found p c.args.text.now end (are_bytes _ c.type_inv.text) (subst (λ hay. Ended p hay (ended.At end)) c.as_bytes-hay.ensures.value c.in-At.ensures.end)

pub returns-in-NoMatch-clause-found : goal.returns-in-NoMatch-clause-found
returns-in-NoMatch-clause-found c =
    let p = c.args.self.now.program in
    none_found p c.args.text.now (are_bytes _ c.type_inv.text) (subst (λ hay. Ended p hay ended.NoMatch) c.as_bytes-hay.ensures.value c.in-NoMatch.ensures.end)
