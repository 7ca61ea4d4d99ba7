use Rattle.std.proofs.Common.{◌≡◌, take, map}
use Rattle.core_state.proofs.copies.copy_to_each.Given as goal

abbrev pub invariant-queues : goal.invariant-queues
invariant-queues l = l.copies.items ≡ map (λ queue. (queue, l.body)) (take l.queue-index l.queues)
