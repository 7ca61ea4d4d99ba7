use Rattle.std.proofs.Common.{length, refl, ap, arith}
use Rattle.queue_broker.proofs.More.{kept_start}
use Rattle.queue_broker.proofs.broker.Broker.new.Goals as goal

pub invariant_of-result : goal.invariant_of-result
invariant_of-result c = (
  kept_start c.in_ok-links.links c.new-queues.result.items c.new-hands.result.items c.new-free.result.items c.in_ok-links.ensures c.new-queues.ensures.items c.new-hands.ensures.items c.new-free.ensures.items,
  record {
    queue_count = omega (arith, ap length c.new-queues.ensures.items);
    hand_count = omega (arith, ap length c.new-hands.ensures.items);
    lists = omega arith;
    queue_cells = omega arith;
    hand_cells = omega arith;
    free_cells = omega (arith, ap length c.new-free.ensures.items, ap length c.new-hands.ensures.items);
  },
)

pub returns : goal.returns
returns c = rw (c.in_ok-links.ensures, c.new-queues.ensures.items, c.new-hands.ensures.items) refl
