use Rattle.std.proofs.Common.{◌≡◌, take}
use Rattle.sieve_eval.proofs.pattern.Patterns.build.Given as goal

abbrev pub invariant-texts : goal.invariant-texts
invariant-texts l = l.built.items ≡ take l.text-index l.texts
