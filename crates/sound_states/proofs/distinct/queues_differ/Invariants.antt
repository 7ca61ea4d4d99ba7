use Rattle.std.proofs.Common.{◌≡◌, map, take}
use Rattle.sound_states.proofs.distinct.queues_differ.Given as goal

abbrev pub invariant-queues : goal.invariant-queues
invariant-queues l = map (λ name. name.now) l.names.items ≡ map (λ q. q.name) (take l.queue-index l.queues)
