use Rattle.std.proofs.Common.{◌≡◌, ◌≤◌, ◌-◌, ℕ}
use Rattle.link_store.specs.Slots.{cells}
use Rattle.link_store.specs.Rings.{at}
use Rattle.link_store.specs.Kept.{AreLinked, AreNumbered, lists_in}
use Rattle.link_store.proofs.growth.grow.Given as goal

abbrev pub invariant-slots : goal.invariant-slots
invariant-slots g l = record {
  linked : AreLinked l.slots.items l.heads l.lens;
  lists : lists_in l.slots.items l.heads l.lens ≡ lists_in l.fn.slots.items l.heads l.fn.lens;
  more : at l.fn.lens 0 ≤ at l.lens 0;
  numbered : (n : ℕ) → AreNumbered (cells l.fn.slots.items) n → AreNumbered (cells l.slots.items) n;
}

abbrev pub decreases-slots : goal.decreases-slots
decreases-slots g l = l.count - at l.lens 0
