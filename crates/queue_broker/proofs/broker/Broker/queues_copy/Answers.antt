use Rattle.queue_broker.proofs.Calls.{copies_more}
use Rattle.queue_broker.proofs.broker.Broker.queues_copy.Goals as goal

pub queues-preserved : goal.queues-preserved
queues-preserved c = copies_more c.args.self.now.queues c.queues.copies.items c.push.new.self.items c.queues.i c.in_ok-copy.copy c.queues.invariant c.in_ok-copy.ensures c.in_ok-push.ensures.items
