use Rattle.std.proofs.Common.{◌≡◌, ◌++◌}
use Rattle.core_state.specs.Outputs.{HaveLengths, outs_of}
use Rattle.core_state.proofs.outputs.from_lists.Given as goal

abbrev pub invariant-outs : goal.invariant-outs
invariant-outs l =
    (goal.iterator-outs).can_next l.out-iterator
    × (goal.iterator-outs).is_finite l.out-iterator
    × HaveLengths l.outs.items
    × (outs_of l.outs.items ++ l.out-iterator.rest.items ≡ l.fn.list)
