use Rattle.std.proofs.Common.{◌∙◌, ◌&&◌, ◌==◌, position, sym, ap}
use Rattle.std.specs.Str.{bytes_eq}
use Rattle.stored_types.specs.Hand.{is_hand}
use Rattle.queue_broker.specs.declared.places.FullHand.{FullHand}
use Rattle.queue_broker.specs.Broker.{BrokerView}
use Rattle.queue_broker.specs.Kept.{hand_in}
use Rattle.queue_broker.proofs.Calls.{place_mapped}
use Rattle.queue_broker.proofs.broker.Broker.place_of_hand.Goals as goal

pub returns : goal.returns
returns c =
    let broker = c.self.inside in
    let bot = c.args.bot.now in
    let instance = c.args.instance in
    c.hand_place.ensures ∙ ap (position (λ (h : FullHand). bytes_eq h.bot bot && (h.instance == instance))) c.deref.ensures.value ∙ sym (place_mapped (hand_in broker.links.lists) (is_hand bot instance) broker.hands.items)
    ∙ ap (λ (v : BrokerView). position (is_hand bot instance) v.hands) c.self.view_is
