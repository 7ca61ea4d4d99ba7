use Rattle.std.proofs.Common.{◌≡◌, ◌+◌, ◌<◌, ◌≤◌, ◌^◌, length}
use Rattle.queue_broker.proofs.Calls.{pushed_all}
use Rattle.queue_broker.proofs.broker.Broker.push_whole.Given as goal

abbrev pub invariant-messages : goal.invariant-messages
invariant-messages l =
    (goal.iterator-messages).can_next l.message-iterator
    × (goal.iterator-messages).is_finite l.message-iterator
    × (pushed_all l.i l.message-iterator.rest.items l.self ≡ pushed_all l.i l.fn.queue.messages l.initial.self)
    × (l.i < length l.self.queues)
    × (length l.message-iterator.rest.items ≤ l.self.spare)
    × (l.self.pushed + length l.message-iterator.rest.items ≤ 2 ^ 63)
