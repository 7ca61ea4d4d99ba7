use Rattle.std.proofs.Common.{◌<◌, ◌∙◌, [], get_or, length, sym, ap, arith}
use Rattle.std.proofs.lemmas.List.{length-map}
use Rattle.base_types.specs.declared.message.Msg.{Msg}
use Rattle.stored_types.specs.declared.queue.Queue.{Queue}
use Rattle.link_store.specs.Links.{Item}
use Rattle.queue_broker.specs.Broker.{BrokerView}
use Rattle.queue_broker.specs.Kept.{queue_in}
use Rattle.queue_broker.proofs.Sent.{seen_at}
use Rattle.queue_broker.proofs.Steps.{queue_there}
use Rattle.queue_broker.proofs.broker.Broker.len_at.Goals as goal

pub len-requires : goal.len-requires
len-requires c =
    let broker = c.self.inside in
    let inside : c.args.i < length broker.queues.items = omega (arith, c.requires, ap (λ (v : BrokerView). length v.queues) c.self.view_is, length-map broker.queues.items (queue_in broker.links.lists)) in
    queue_there broker.links.lists broker.queues.items broker.hands.items broker.free.items c.self.invariant.0.lists c.args.i c.index.result.now c.index.result.now inside (sym c.index.ensures)

pub returns : goal.returns
returns c =
    let broker = c.self.inside in
    let inside : c.args.i < length broker.queues.items = omega (arith, c.requires, ap (λ (v : BrokerView). length v.queues) c.self.view_is, length-map broker.queues.items (queue_in broker.links.lists)) in
    let q = c.index.result.now in
    rw (← c.self.view_is) (λ seen at.
    c.len.ensures ∙ sym (length-map (get_or broker.links.lists q.list []) (λ (x : Item Msg). x.value)) ∙ ap (λ (x : Queue). length x.messages) (seen_at broker.links.lists broker.queues.items c.args.i q q seen inside (sym c.index.ensures) at))
