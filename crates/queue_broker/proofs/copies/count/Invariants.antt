use Rattle.std.proofs.Common.{◌≡◌, ◌≤◌, ◌+◌, take}
use Rattle.queue_broker.specs.Broker.{total}
use Rattle.queue_broker.specs.Kept.{most_messages}
use Rattle.queue_broker.proofs.copies.count.Given as goal

abbrev pub invariant-queues : goal.invariant-queues
invariant-queues l = (l.count ≡ total (take l.queue-index l.queues) + l.hands) × (l.count ≤ most_messages)
