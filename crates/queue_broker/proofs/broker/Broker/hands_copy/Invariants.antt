use Rattle.std.proofs.Common.{◌≡◌, take}
use Rattle.queue_broker.proofs.broker.Broker.hands_copy.Given as goal

abbrev pub invariant-hands : goal.invariant-hands
invariant-hands l = l.copies.items ≡ take l.k l.self.hands
