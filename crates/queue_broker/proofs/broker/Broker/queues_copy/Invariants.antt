use Rattle.std.proofs.Common.{◌≡◌, take}
use Rattle.queue_broker.proofs.broker.Broker.queues_copy.Given as goal

abbrev pub invariant-queues : goal.invariant-queues
invariant-queues l = l.copies.items ≡ take l.i l.self.queues
