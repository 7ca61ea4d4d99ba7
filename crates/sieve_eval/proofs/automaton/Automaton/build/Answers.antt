use Rattle.std.proofs.Common.{sym}
use Rattle.sieve_eval.proofs.Automata.{finds}
use Rattle.sieve_eval.proofs.automaton.Automaton.build.Goals as goal

pub returns : goal.returns
returns c =
    finds c.in-Ok-new.program c.args.text.now c.in-Ok.field-0.hir _ (sym c.in-Ok-new.ensures.pattern) (rw c.default.ensures at c.in-Ok.ensures.ok)
    (rw c.default.ensures at c.in-Ok.ensures.formed)
