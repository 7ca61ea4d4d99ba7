use Rattle.std.proofs.Common.{◌≡◌, ◌+◌, ◌≤◌, length}
use Rattle.stored_types.specs.Queue.{put_all}
use Rattle.core_state.proofs.sends.send_from.Given as goal

abbrev pub invariant-sends : goal.invariant-sends
invariant-sends l =
    (goal.iterator-sends).can_next l.queue-iterator
    × (goal.iterator-sends).is_finite l.queue-iterator
    × (put_all l.no l.queue-iterator.rest.items l.broker.queues ≡ put_all l.fn.next l.fn.sends.items l.fn.broker.queues)
    × (l.no + length l.queue-iterator.rest.items ≡ l.fn.next + length l.fn.sends.items)
    × (l.broker.hands ≡ l.fn.broker.hands)
    × (length l.queue-iterator.rest.items ≤ l.broker.spare)
    × (l.broker.queue_room ≡ l.fn.broker.queue_room)
    × (l.broker.pushed + length l.queue-iterator.rest.items ≡ l.fn.broker.pushed + length l.fn.sends.items)
