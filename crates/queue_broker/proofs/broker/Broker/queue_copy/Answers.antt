use Rattle.std.proofs.Common.{◌<◌, ◌∙◌, List, Some, length, sym, ap, arith}
use Rattle.std.proofs.lemmas.List.{length-map}
use Rattle.base_types.specs.declared.message.Msg.{Msg}
use Rattle.queue_broker.specs.Broker.{BrokerView}
use Rattle.queue_broker.specs.Kept.{queue_in}
use Rattle.queue_broker.proofs.Sent.{shown_at}
use Rattle.queue_broker.proofs.Steps.{queue_there}
use Rattle.queue_broker.proofs.broker.Broker.queue_copy.Goals as goal

pub copy_messages-requires : goal.copy_messages-requires
copy_messages-requires c =
    let broker = c.self.inside in
    let q = c.index-queue.result.now in
    let inside : c.args.i < length broker.queues.items = omega (arith, c.requires, ap (λ (v : BrokerView). length v.queues) c.self.view_is, length-map broker.queues.items (queue_in broker.links.lists)) in
    queue_there broker.links.lists broker.queues.items broker.hands.items broker.free.items c.self.invariant.0.lists c.args.i q q inside (sym c.index-queue.ensures)

pub returns : goal.returns
returns c =
    let broker = c.self.inside in
    let q = c.index-queue.result.now in
    let inside : c.args.i < length broker.queues.items = omega (arith, c.requires, ap (λ (v : BrokerView). length v.queues) c.self.view_is, length-map broker.queues.items (queue_in broker.links.lists)) in
    rw (← c.self.view_is) (shown_at broker.links.lists broker.queues.items c.args.i q q inside (sym c.index-queue.ensures)
    ∙ ap (λ (ms : List Msg). Some (record { name = q.name; messages = ms })) (sym c.in_ok-messages.ensures))
