use Rattle.std.proofs.Common.{◌≡◌, ◌∙◌, length, sym, ap, arith}
use Rattle.base_types.proofs.Found.{first_at}
use Rattle.stored_types.specs.Queue.{is_queue, queued}
use Rattle.queue_broker.proofs.Calls.{item_placed, none_of, queued_missing, queued_placed}
use Rattle.queue_broker.proofs.broker.Broker.waiting_place.Goals as goal

pub returns-in_default-clause-none : goal.returns-in_default-clause-none
returns-in_default-clause-none c = queued_missing c.args.name.now c.args.self.now.queues (sym c.place_of_queue.ensures ∙ c.in_default.is)

pub len_at-count-requires : goal.len_at-count-requires
len_at-count-requires c = (first_at (is_queue c.args.name.now) c.args.self.now.queues c.in-Some.i (sym c.place_of_queue.ensures ∙ c.in-Some.is)).inside

pub returns-then-count-gt0-clause-place : goal.returns-then-count-gt0-clause-place
returns-then-count-gt0-clause-place c = sym c.place_of_queue.ensures ∙ c.in-Some.is

pub returns-then-count-gt0-clause-some : goal.returns-then-count-gt0-clause-some
returns-then-count-gt0-clause-some c =
    let queues = c.args.self.now.queues in
    let place = sym c.place_of_queue.ensures ∙ c.in-Some.is in
    let (q, at, here) = item_placed (is_queue c.args.name.now) queues c.in-Some.i place in
    let waits : length (queued c.args.name.now queues) ≡ c.len_at-count.result = ap length (queued_placed c.args.name.now queues c.in-Some.i q place at) ∙ sym (c.len_at-count.ensures q at) in
    omega (arith, waits, c.if-count-gt0.true)

pub returns-else-count-gt0-clause-none : goal.returns-else-count-gt0-clause-none
returns-else-count-gt0-clause-none c =
    let queues = c.args.self.now.queues in
    let place = sym c.place_of_queue.ensures ∙ c.in-Some.is in
    let (q, at, here) = item_placed (is_queue c.args.name.now) queues c.in-Some.i place in
    let waits : length (queued c.args.name.now queues) ≡ c.len_at-count.result = ap length (queued_placed c.args.name.now queues c.in-Some.i q place at) ∙ sym (c.len_at-count.ensures q at) in
    none_of (queued c.args.name.now queues) (omega (arith, waits, c.if-count-gt0.false))
