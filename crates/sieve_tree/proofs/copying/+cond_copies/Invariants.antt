use Rattle.std.proofs.Common.{◌≡◌, take}
use Rattle.sieve_tree.proofs.copying.+cond_copies.Given as goal

abbrev pub invariant-copy_conds-conds : goal.invariant-copy_conds-conds
invariant-copy_conds-conds l = l.copied.items ≡ take l.cond-index l.conds
