use Rattle.std.proofs.Common.{◌∙◌, option_copied, option_map, sym, ap}
use Rattle.base_types.specs.declared.message.Msg.{Msg}
use Rattle.base_types.proofs.Found.{first_at}
use Rattle.stored_types.specs.Queue.{is_queue}
use Rattle.queue_broker.specs.Broker.{front_of}
use Rattle.queue_broker.proofs.Calls.{item_placed, queued_missing, queued_placed}
use Rattle.queue_broker.proofs.broker.Broker.front_no.Goals as goal

pub returns-in_default : goal.returns-in_default
returns-in_default c = ap (λ ms. option_map (λ (m : Msg). m.no) (front_of ms)) (sym (queued_missing c.args.queue.now c.args.self.now.queues (sym c.place_of_queue.ensures ∙ c.in_default.is)))

pub front_at-requires : goal.front_at-requires
front_at-requires c = (first_at (is_queue c.args.queue.now) c.args.self.now.queues c.in-Some.i (sym c.place_of_queue.ensures ∙ c.in-Some.is)).inside

pub returns : goal.returns
returns c =
    let queues = c.args.self.now.queues in
    let place = sym c.place_of_queue.ensures ∙ c.in-Some.is in
    let (q, at, here) = item_placed (is_queue c.args.queue.now) queues c.in-Some.i place in
    ap (option_map (λ (m : Msg). m.no)) (ap option_copied (sym c.in_ok-front.was) ∙ c.front_at.ensures q at ∙ ap front_of (sym (queued_placed c.args.queue.now queues c.in-Some.i q place at)))

pub returns-in_err-front : goal.returns-in_err-front
returns-in_err-front c =
    let queues = c.args.self.now.queues in
    let place = sym c.place_of_queue.ensures ∙ c.in-Some.is in
    let (q, at, here) = item_placed (is_queue c.args.queue.now) queues c.in-Some.i place in
    c.from_residual.ensures
    ∙ ap (option_map (λ (m : Msg). m.no)) (ap option_copied (sym c.in_err-front.was) ∙ c.front_at.ensures q at ∙ ap front_of (sym (queued_placed c.args.queue.now queues c.in-Some.i q place at)))
