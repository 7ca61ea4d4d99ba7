use Rattle.std.proofs.Common.{◌≡◌, ◌<◌, Option, length, min, sym, ap, subst, arith}
use Rattle.std.specs.Option.{IsSomeAnd}
use Rattle.std.proofs.lemmas.List.{length-map}
use Rattle.base_types.specs.Number.{last_u64}
use Rattle.stored_types.specs.declared.queue.Queue.{Queue}
use Rattle.stored_types.specs.Queue.{bytes_in}
use Rattle.queue_broker.specs.Broker.{BrokerView}
use Rattle.queue_broker.specs.Kept.{queue_in}
use Rattle.queue_broker.proofs.Sent.{measured_at, shown_at}
use Rattle.queue_broker.proofs.broker.Broker.bytes_at.Goals as goal

pub returns : goal.returns
returns c =
    let broker = c.self.inside in
    let q = c.index.result.now in
    let inside : c.args.k < length broker.queues.items = omega (arith, c.requires, ap (λ (v : BrokerView). length v.queues) c.self.view_is, length-map broker.queues.items (queue_in broker.links.lists)) in
    let measured = measured_at broker.links.lists broker.queues.items broker.hands.items broker.free.items c.self.invariant.0.lists c.args.k q q inside (sym c.index.ensures) in
    let least : c.min.result ≡ min (bytes_in (queue_in broker.links.lists q)) last_u64 = omega (arith, c.min.ensures, measured.0) in
    rw (← c.self.view_is) (subst (λ (o : Option Queue). IsSomeAnd o (λ x. c.min.result ≡ min (bytes_in x) last_u64)) (sym (shown_at broker.links.lists broker.queues.items c.args.k q q inside (sym c.index.ensures))) least)
