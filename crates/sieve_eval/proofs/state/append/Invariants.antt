use Rattle.std.proofs.Common.{◌≡◌, ◌++◌, take}
use Rattle.sieve_eval.proofs.state.append.Given as goal

abbrev pub invariant-more : goal.invariant-more
invariant-more l = l.texts ≡ l.fn.texts ++ take l.text-index l.more
