use Rattle.std.proofs.Common.{◌≡◌, take}
use Rattle.sieve_tree.proofs.copying.copy_values.Given as goal

abbrev pub invariant-values : goal.invariant-values
invariant-values l = l.copied.items ≡ take l.value-index l.values
