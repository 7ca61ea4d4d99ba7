use Rattle.std.proofs.Common.{◌∙◌, length, sym, ap}
use Rattle.base_types.proofs.Found.{first_at}
use Rattle.stored_types.specs.Queue.{is_queue}
use Rattle.queue_broker.proofs.Calls.{item_placed, queued_missing, queued_placed}
use Rattle.queue_broker.proofs.broker.Broker.waiting.Goals as goal

pub len_at-requires : goal.len_at-requires
len_at-requires c = (first_at (is_queue c.args.queue.now) c.args.self.now.queues c.in-Some.i (sym c.place_of_queue.ensures ∙ c.in-Some.is)).inside

pub returns-in-Some : goal.returns-in-Some
returns-in-Some c =
    let queues = c.args.self.now.queues in
    let place = sym c.place_of_queue.ensures ∙ c.in-Some.is in
    let (q, at, here) = item_placed (is_queue c.args.queue.now) queues c.in-Some.i place in
    c.len_at.ensures q at ∙ sym (ap length (queued_placed c.args.queue.now queues c.in-Some.i q place at))

pub returns-in-None : goal.returns-in-None
returns-in-None c = sym (ap length (queued_missing c.args.queue.now c.args.self.now.queues (sym c.place_of_queue.ensures ∙ c.in-None.is)))
