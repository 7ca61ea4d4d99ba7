use Rattle.std.proofs.Common.{◌≤◌, ℕ}
use Rattle.prefix_table.specs.Growing.{Leads, begins}
use Rattle.prefix_table.proofs.growing.shared_bits.Given as goal

abbrev pub invariant-bits : goal.invariant-bits
invariant-bits l = (l.len ≤ l.most) × (l.len ≤ l.b.len)
    × ((len : ℕ) → len ≤ l.most → Leads l.a.ip.six len (begins len l.a) l.b → len ≤ l.len)

abbrev pub decreases-bits : goal.decreases-bits
decreases-bits l = l.len
