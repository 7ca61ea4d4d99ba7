use Rattle.std.proofs.Common.{◌≡◌, ◌+◌, ◌++◌}
use Rattle.queue_broker.specs.Broker.{total}
use Rattle.queue_broker.proofs.broker.Broker.push_queues.Given as goal

abbrev pub invariant-queues : goal.invariant-queues
invariant-queues l =
    (goal.iterator-queues).can_next l.queue-iterator
    × (goal.iterator-queues).is_finite l.queue-iterator
    × (l.self.queues ++ l.queue-iterator.rest.items ≡ l.fn.self.queues ++ l.fn.queues.items)
    × (l.self.hands ≡ l.fn.self.hands)
    × (l.self.spare + total l.fn.queues.items ≡ l.fn.self.spare + total l.queue-iterator.rest.items)
    × (l.self.pushed + total l.queue-iterator.rest.items ≡ l.fn.self.pushed + total l.fn.queues.items)
    × (l.self.queue_room ≡ l.fn.self.queue_room)
    × (l.self.hand_room ≡ l.fn.self.hand_room)
