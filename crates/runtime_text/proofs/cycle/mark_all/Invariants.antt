use Rattle.std.proofs.Common.{◌≡◌, drop, length}
use Rattle.runtime_text.specs.Wires.{marked_all, state_of, AreBelow}
use Rattle.runtime_text.proofs.cycle.mark_all.Given as goal

-- what is left marks what all would mark
abbrev pub invariant-wires : goal.invariant-wires
invariant-wires l = record {
  same : marked_all (drop l.i-index l.wires) (state_of l.search) ≡ marked_all l.wires (state_of l.fn.search);
  below : AreBelow (length l.search.found.items) l.wires;
}
