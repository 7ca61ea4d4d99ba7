use Rattle.queue_broker.proofs.Calls.{copies_more}
use Rattle.queue_broker.proofs.broker.Broker.hands_copy.Goals as goal

pub hands-preserved : goal.hands-preserved
hands-preserved c = copies_more c.args.self.now.hands c.hands.copies.items c.push.new.self.items c.hands.k c.in_ok-copy.copy c.hands.invariant c.in_ok-copy.ensures c.in_ok-push.ensures.items
