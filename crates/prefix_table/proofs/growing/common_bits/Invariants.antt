use Rattle.std.proofs.Common.{◌≤◌, ℕ, take}
use Rattle.prefix_table.specs.Growing.{AreRows, begins}
use Rattle.prefix_table.proofs.growing.common_bits.Given as goal

abbrev pub invariant-places : goal.invariant-places
invariant-places l = (l.len ≤ l.first.len)
    × AreRows l.rows l.first.ip.six l.len (begins l.len l.first) (take l.place-index l.places)
    × ((len : ℕ) → len ≤ l.first.len → AreRows l.rows l.first.ip.six len (begins len l.first) l.places → len ≤ l.len)
