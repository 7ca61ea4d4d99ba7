use Rattle.std.proofs.Common.{◌<◌, ◌∙◌, [], get_or, length, sym, ap, arith}
use Rattle.std.proofs.lemmas.List.{length-map}
use Rattle.stored_types.specs.declared.queue.Queue.{Queue}
use Rattle.queue_broker.specs.Broker.{BrokerView, front_of}
use Rattle.queue_broker.specs.Kept.{queue_in}
use Rattle.queue_broker.proofs.Firsts.{front_shown}
use Rattle.queue_broker.proofs.Sent.{seen_at}
use Rattle.queue_broker.proofs.Steps.{queue_there}
use Rattle.queue_broker.proofs.broker.Broker.front_at.Goals as goal

pub front-requires : goal.front-requires
front-requires c =
    let broker = c.self.inside in
    let inside : c.args.i < length broker.queues.items = omega (arith, c.requires, ap (λ (v : BrokerView). length v.queues) c.self.view_is, length-map broker.queues.items (queue_in broker.links.lists)) in
    queue_there broker.links.lists broker.queues.items broker.hands.items broker.free.items c.self.invariant.0.lists c.args.i c.index.result.now c.index.result.now inside (sym c.index.ensures)

pub returns : goal.returns
returns c =
    let broker = c.self.inside in
    let inside : c.args.i < length broker.queues.items = omega (arith, c.requires, ap (λ (v : BrokerView). length v.queues) c.self.view_is, length-map broker.queues.items (queue_in broker.links.lists)) in
    let q = c.index.result.now in
    rw (← c.self.view_is) (λ seen at.
    c.front.ensures ∙ front_shown (get_or broker.links.lists q.list []) ∙ ap (λ (x : Queue). front_of x.messages) (seen_at broker.links.lists broker.queues.items c.args.i q q seen inside (sym c.index.ensures) at))
