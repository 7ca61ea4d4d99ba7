use Rattle.std.proofs.Common.{◌-◌, length}
use Rattle.link_store.specs.Links.{list_of}
use Rattle.link_store.proofs.Walked.{IsWalked}
use Rattle.queue_broker.proofs.copies.copy_messages.Given as goal

abbrev pub invariant-messages : goal.invariant-messages
invariant-messages l = IsWalked (list_of l.links l.list) l.copies.items l.next

abbrev pub decreases-messages : goal.decreases-messages
decreases-messages l = length (list_of l.links l.list) - length l.copies.items
