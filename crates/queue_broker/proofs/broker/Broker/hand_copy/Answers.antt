use Rattle.std.proofs.Common.{◌≡◌, ◌<◌, ◌∙◌, Some, length, slice_get, sym, ap, arith}
use Rattle.std.proofs.lemmas.List.{length-map}
use Rattle.base_types.specs.declared.message.Msg.{Msg}
use Rattle.queue_broker.specs.Broker.{BrokerView}
use Rattle.queue_broker.specs.Kept.{hand_in}
use Rattle.queue_broker.proofs.Sent.{held_shown}
use Rattle.queue_broker.proofs.broker.Broker.hand_copy.Goals as goal

pub returns : goal.returns
returns c =
    let broker = c.self.inside in
    let h = c.index-hand.result.now in
    let inside : c.args.k < length broker.hands.items = omega (arith, c.requires, ap (λ (v : BrokerView). length v.hands) c.self.view_is, length-map broker.hands.items (hand_in broker.links.lists)) in
    let at : slice_get c.args.self.now.hands c.args.k ≡ Some (hand_in broker.links.lists h) = ap (λ (v : BrokerView). slice_get v.hands c.args.k) (sym c.self.view_is) ∙ held_shown broker.links.lists broker.hands.items c.args.k h h inside (sym c.index-hand.ensures) in
    at ∙ ap (λ (m : Msg). Some (record { bot = h.bot; instance = h.instance; message = m; tries = h.tries; since = h.since })) (sym (c.in_ok-message.ensures ∙ c.message_at.ensures (hand_in broker.links.lists h) at))
