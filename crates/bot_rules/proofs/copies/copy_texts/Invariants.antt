use Rattle.std.proofs.Common.{◌≡◌, take}
use Rattle.bot_rules.proofs.copies.copy_texts.Given as goal

abbrev pub invariant-texts : goal.invariant-texts
invariant-texts l = l.copied.items ≡ take l.text-index l.texts
