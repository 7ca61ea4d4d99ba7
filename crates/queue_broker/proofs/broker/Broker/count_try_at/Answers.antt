use Rattle.std.proofs.Common.{◌≡◌, ◌<◌, ◌+◌, ◌∙◌, length, set, slice_get, Some, refl, sym, ap, arith}
use Rattle.std.proofs.lemmas.List.{length-map, length-set}
use Rattle.stored_types.specs.declared.hand.Hand.{Hand}
use Rattle.queue_broker.specs.declared.places.FullHand.{FullHand}
use Rattle.queue_broker.specs.Broker.{BrokerView, most_tries}
use Rattle.queue_broker.specs.Kept.{hand_in, hands_in}
use Rattle.queue_broker.proofs.Sent.{hands_counted, held_at, held_shown, kept_counted, same_view}
use Rattle.queue_broker.proofs.broker.Broker.count_try_at.Goals as goal

pub overflow_add-index_mut : goal.overflow_add-index_mut
overflow_add-index_mut c =
    let broker = c.self.inside in
    let h = c.index_mut.result.now in
    let inside : c.args.k < length broker.hands.items = omega (arith, c.requires.hand, ap (λ (v : BrokerView). length v.hands) c.self.view_is, length-map broker.hands.items (hand_in broker.links.lists)) in
    let at : slice_get c.args.self.now.hands c.args.k ≡ Some (hand_in broker.links.lists h) = ap (λ (v : BrokerView). slice_get v.hands c.args.k) (sym c.self.view_is) ∙ held_shown broker.links.lists broker.hands.items c.args.k h h inside (sym c.index_mut.ensures.value) in
    let few : h.tries < most_tries = c.requires.tries (hand_in broker.links.lists h) at in
    omega (arith, few)

pub invariant_of-self : goal.invariant_of-self
invariant_of-self c =
    let broker = c.self.inside in
    let (kept, room) = c.self.invariant in
    let h = c.index_mut.result.now in
    let new : FullHand = record { bot = h.bot; instance = h.instance; list = h.list; tries = h.tries + 1; since = h.since } in
    let inside : c.args.k < length broker.hands.items = omega (arith, c.requires.hand, ap (λ (v : BrokerView). length v.hands) c.self.view_is, length-map broker.hands.items (hand_in broker.links.lists)) in (
      kept_counted broker.links broker.queues.items broker.hands.items broker.free.items broker.waiting broker.spare kept c.args.k h h inside (sym c.index_mut.ensures.value) (h.tries + 1),
      record {
        queue_count = room.queue_count;
        hand_count = omega (arith, room.hand_count, length-set broker.hands.items c.args.k new);
        lists = room.lists;
        queue_cells = room.queue_cells;
        hand_cells = room.hand_cells;
        free_cells = omega (arith, room.free_cells, length-set broker.hands.items c.args.k new);
      },
    )

pub returns : goal.returns
returns c =
    let broker = c.self.inside in
    let h = c.index_mut.result.now in
    let all = hands_in broker.links.lists broker.hands.items in
    let inside : c.args.k < length broker.hands.items = omega (arith, c.requires.hand, ap (λ (v : BrokerView). length v.hands) c.self.view_is, length-map broker.hands.items (hand_in broker.links.lists)) in
    rw (← c.self.view_is) (λ seen at. same_view _ _ _ _ _ _ _ _ refl
    (hands_counted broker.links broker.queues.items broker.hands.items broker.free.items broker.waiting broker.spare c.self.invariant.0 c.args.k h h inside (sym c.index_mut.ensures.value) (h.tries + 1)
    ∙ ap (λ (x : Hand). set all c.args.k (record x { tries = x.tries + 1 })) (held_at broker.links.lists broker.hands.items c.args.k h h seen inside (sym c.index_mut.ensures.value) at)))
