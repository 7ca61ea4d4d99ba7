use Rattle.std.proofs.Common.{◌≡◌, take}
use Rattle.field_types.proofs.value.copy_items.Given as goal

abbrev pub invariant-items : goal.invariant-items
invariant-items l = l.copied.items ≡ take l.item-index l.items
