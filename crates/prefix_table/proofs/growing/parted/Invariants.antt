use Rattle.std.proofs.Common.{take}
use Rattle.prefix_table.specs.Growing.{ArePartsOf}
use Rattle.prefix_table.proofs.growing.parted.Given as goal

abbrev pub invariant-places : goal.invariant-places
invariant-places l = ArePartsOf l.rows l.len (take l.place-index l.places) l.least l.zeros.items l.ones.items
