use Rattle.std.proofs.Common.{◌<◌, ◌∙◌, [], get_or, length, sym, ap, arith}
use Rattle.std.proofs.lemmas.List.{length-map}
use Rattle.stored_types.specs.declared.hand.Hand.{Hand}
use Rattle.queue_broker.specs.Broker.{BrokerView}
use Rattle.queue_broker.specs.Kept.{first_message, hand_in}
use Rattle.queue_broker.proofs.Firsts.{front_is, front_some, only_of}
use Rattle.queue_broker.proofs.Sent.{held_at}
use Rattle.queue_broker.proofs.Steps.{held_one, held_there}
use Rattle.queue_broker.proofs.broker.Broker.message_at.Goals as goal

pub front-requires : goal.front-requires
front-requires c =
    let broker = c.self.inside in
    let inside : c.args.k < length broker.hands.items = omega (arith, c.requires, ap (λ (v : BrokerView). length v.hands) c.self.view_is, length-map broker.hands.items (hand_in broker.links.lists)) in
    held_there broker.links.lists broker.queues.items broker.hands.items broker.free.items c.self.invariant.0.lists c.args.k c.index.result.now c.index.result.now inside (sym c.index.ensures)

pub unwrap-requires : goal.unwrap-requires
unwrap-requires c =
    let broker = c.self.inside in
    let inside : c.args.k < length broker.hands.items = omega (arith, c.requires, ap (λ (v : BrokerView). length v.hands) c.self.view_is, length-map broker.hands.items (hand_in broker.links.lists)) in
    let h = c.index.result.now in
    let (item, only) = only_of (get_or broker.links.lists h.list []) (held_one broker.links.lists broker.queues.items broker.hands.items broker.free.items c.self.invariant.0.lists c.args.k h h inside (sym c.index.ensures)) in
    front_some (get_or broker.links.lists h.list []) item [] only c.front.result c.front.ensures

pub returns : goal.returns
returns c =
    let broker = c.self.inside in
    let inside : c.args.k < length broker.hands.items = omega (arith, c.requires, ap (λ (v : BrokerView). length v.hands) c.self.view_is, length-map broker.hands.items (hand_in broker.links.lists)) in
    let h = c.index.result.now in
    let (item, only) = only_of (get_or broker.links.lists h.list []) (held_one broker.links.lists broker.queues.items broker.hands.items broker.free.items c.self.invariant.0.lists c.args.k h h inside (sym c.index.ensures)) in
    rw (← c.self.view_is) (λ seen at.
    front_is (get_or broker.links.lists h.list []) item [] only c.front.result c.unwrap.result c.front.ensures c.unwrap.ensures
    ∙ sym (ap first_message only) ∙ ap (λ (x : Hand). x.message) (held_at broker.links.lists broker.hands.items c.args.k h h seen inside (sym c.index.ensures) at))
