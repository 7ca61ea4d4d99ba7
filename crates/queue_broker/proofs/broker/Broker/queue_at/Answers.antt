use Rattle.std.proofs.Common.{◌≡◌, ◌<◌, ◌∙◌, Option, Some, length, slice_get, refl, sym, ap, subst, arith}
use Rattle.std.specs.Option.{IsSomeAnd}
use Rattle.std.proofs.lemmas.List.{length-map}
use Rattle.stored_types.specs.declared.queue.Queue.{Queue}
use Rattle.queue_broker.specs.Broker.{BrokerView}
use Rattle.queue_broker.specs.Kept.{queue_in}
use Rattle.queue_broker.proofs.Sent.{shown_at}
use Rattle.queue_broker.proofs.broker.Broker.queue_at.Goals as goal

pub returns : goal.returns
returns c =
    let broker = c.self.inside in
    let q = c.index.result.now in
    let inside : c.args.k < length broker.queues.items = omega (arith, c.requires, ap (λ (v : BrokerView). length v.queues) c.self.view_is, length-map broker.queues.items (queue_in broker.links.lists)) in
    let at : slice_get c.args.self.now.queues c.args.k ≡ Some (queue_in broker.links.lists q) = ap (λ (v : BrokerView). slice_get v.queues c.args.k) (sym c.self.view_is) ∙ shown_at broker.links.lists broker.queues.items c.args.k q q inside (sym c.index.ensures) in
    subst (λ (o : Option Queue). IsSomeAnd o (λ x. (q.name ≡ x.name) × (c.len_at.result ≡ length x.messages))) (sym at) (refl, c.len_at.ensures (queue_in broker.links.lists q) at)
