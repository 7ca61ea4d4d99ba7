use Rattle.std.proofs.Common.{◌≡◌, ◌++◌, take}
use Rattle.bot_rules.specs.Gives.{to_each}
use Rattle.bot_rules.proofs.body.send_copies.Given as goal

abbrev pub invariant-queues : goal.invariant-queues
invariant-queues l = l.sends ≡ l.fn.sends ++ to_each (take l.queue-index l.queues) l.body
