use Rattle.std.proofs.Common.{◌≡◌, ◌<◌, ◌∙◌, length, position, sym, ap, subst, arith}
use Rattle.std.specs.Str.{bytes_eq}
use Rattle.std.proofs.lemmas.List.{length-map}
use Rattle.base_types.specs.Name.{queue_name}
use Rattle.stored_types.specs.declared.hand.Hand.{Hand}
use Rattle.stored_types.specs.Queue.{is_queue}
use Rattle.queue_broker.specs.declared.places.LinkedQueue.{LinkedQueue}
use Rattle.queue_broker.specs.Broker.{BrokerView, IsThere}
use Rattle.queue_broker.specs.Kept.{hand_in, hands_in, queue_in, queues_in}
use Rattle.queue_broker.proofs.Calls.{place_mapped}
use Rattle.queue_broker.proofs.Sent.{hand_at, held_at}
use Rattle.queue_broker.proofs.Steps.{all_at}
use Rattle.queue_broker.proofs.There.{there_tested}
use Rattle.queue_broker.proofs.broker.Broker.place_of_hand_queue.Goals as goal

pub unwrap-requires : goal.unwrap-requires
unwrap-requires c =
    let broker = c.self.inside in
    let h = c.index.result.now in
    let name = c.queue_of-name.result in
    let all = queues_in broker.links.lists broker.queues.items in
    let inside : c.args.k < length broker.hands.items = omega (arith, c.requires, ap (λ (v : BrokerView). length v.hands) c.self.view_is, length-map broker.hands.items (hand_in broker.links.lists)) in
    let there : IsThere (queue_name h.bot) all = subst (λ (x : Hand). IsThere (queue_name x.bot) all) (hand_at broker.links.lists broker.hands.items c.args.k h h (hand_in broker.links.lists h) inside (sym c.index.ensures))
    (all_at (λ (x : Hand). IsThere (queue_name x.bot) all) (hands_in broker.links.lists broker.hands.items) c.args.k (hand_in broker.links.lists h) (omega (arith, inside, length-map broker.hands.items (hand_in broker.links.lists))) c.self.invariant.0.places) in
    let place : c.queue_place.result ≡ position (is_queue name) all = c.queue_place.ensures ∙ ap (position (λ (q : LinkedQueue). bytes_eq q.name name)) c.deref.ensures.value ∙ sym (place_mapped (queue_in broker.links.lists) (is_queue name) broker.queues.items) in
    rw place ((there_tested name all).1 (subst (λ n. IsThere n all) (sym c.queue_of-name.ensures) there))

pub returns : goal.returns
returns c =
    let broker = c.self.inside in
    let h = c.index.result.now in
    let name = c.queue_of-name.result in
    let inside : c.args.k < length broker.hands.items = omega (arith, c.requires, ap (λ (v : BrokerView). length v.hands) c.self.view_is, length-map broker.hands.items (hand_in broker.links.lists)) in
    let place = c.queue_place.ensures ∙ ap (position (λ (q : LinkedQueue). bytes_eq q.name name)) c.deref.ensures.value ∙ sym (place_mapped (queue_in broker.links.lists) (is_queue name) broker.queues.items) in
    rw (← c.self.view_is) (λ seen at.
    let same : queue_name seen.bot ≡ name = ap (λ (x : Hand). queue_name x.bot) (sym (held_at broker.links.lists broker.hands.items c.args.k h h seen inside (sym c.index.ensures) at)) ∙ sym c.queue_of-name.ensures in
    ap (λ n. position (is_queue n) (queues_in broker.links.lists broker.queues.items)) same ∙ sym place ∙ c.unwrap.ensures)
