use Rattle.std.proofs.Common.{◌+◌, length, map}
use Rattle.runtime_text.specs.Wires.{state_of}
use Rattle.runtime_text.proofs.Marks.{missing, Explored}
use Rattle.runtime_text.proofs.cycle.comes_back.Given as goal

abbrev pub invariant-search : goal.invariant-search
invariant-search l = Explored (map (λ wires. wires.items) l.graph) l.start (state_of l.search)

abbrev pub decreases-search : goal.decreases-search
decreases-search l = length l.search.open + missing l.search.found.items
