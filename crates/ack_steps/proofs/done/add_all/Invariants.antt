use Rattle.std.proofs.Common.{◌≡◌, ◌+◌, ◌++◌, length}
use Rattle.core_state.specs.Room.{AreAbove}
use Rattle.ack_steps.proofs.done.add_all.Given as goal

abbrev pub invariant-dumps : goal.invariant-dumps
invariant-dumps l =
    (goal.iterator-dumps).can_next l.dump-iterator
    × (goal.iterator-dumps).is_finite l.dump-iterator
    × (l.to.dumps ++ l.dump-iterator.rest.items ≡ l.fn.to.dumps ++ l.fn.dumps.items)
    × AreAbove l.to.dumps l.dump-iterator.rest.items
    × (l.to.spare + length l.fn.dumps.items ≡ l.fn.to.spare + length l.dump-iterator.rest.items)
