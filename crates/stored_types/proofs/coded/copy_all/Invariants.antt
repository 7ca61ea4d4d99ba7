use Rattle.std.proofs.Common.{◌≡◌, ◌++◌, take}
use Rattle.stored_types.proofs.coded.copy_all.Given as goal

abbrev pub invariant-items : goal.invariant-items
invariant-items g l = l.to.items ≡ l.fn.to.items ++ take l.item-index l.items
