use Rattle.std.proofs.Common.{◌≡◌, ◌+◌, ◌++◌, length}
use Rattle.queue_broker.specs.Broker.{HaveQueues}
use Rattle.queue_broker.proofs.broker.Broker.push_hands.Given as goal

abbrev pub invariant-hands : goal.invariant-hands
invariant-hands l =
    (goal.iterator-hands).can_next l.hand-iterator
    × (goal.iterator-hands).is_finite l.hand-iterator
    × (l.self.hands ++ l.hand-iterator.rest.items ≡ l.fn.self.hands ++ l.fn.hands.items)
    × (l.self.queues ≡ l.fn.self.queues)
    × (l.self.spare + length l.fn.hands.items ≡ l.fn.self.spare + length l.hand-iterator.rest.items)
    × (l.self.pushed + length l.hand-iterator.rest.items ≡ l.fn.self.pushed + length l.fn.hands.items)
    × (l.self.queue_room ≡ l.fn.self.queue_room)
    × (l.self.hand_room ≡ l.fn.self.hand_room)
    × HaveQueues l.self.queues l.hand-iterator.rest.items
