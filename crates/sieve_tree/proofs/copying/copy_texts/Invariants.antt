use Rattle.std.proofs.Common.{◌≡◌, take}
use Rattle.sieve_tree.proofs.copying.copy_texts.Given as goal

abbrev pub invariant-texts : goal.invariant-texts
invariant-texts l = l.copied.items ≡ take l.text-index l.texts
