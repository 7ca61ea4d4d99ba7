use Rattle.std.proofs.Common.{◌≡◌, take}
use Rattle.bot_rules.proofs.copies.copy_sets.Given as goal

abbrev pub invariant-sets : goal.invariant-sets
invariant-sets l = l.copied.items ≡ take l.set-index l.sets
