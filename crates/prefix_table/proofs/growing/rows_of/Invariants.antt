use Rattle.prefix_table.proofs.Parting.{AreFamily}
use Rattle.prefix_table.proofs.growing.rows_of.Given as goal

abbrev pub invariant-rows : goal.invariant-rows
invariant-rows l = AreFamily l.rows l.six l.i l.places.items
