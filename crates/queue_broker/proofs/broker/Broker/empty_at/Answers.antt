use Rattle.std.proofs.Common.{◌≡◌, ◌<◌, ◌+◌, ◌∙◌, ◌++◌, ◌∷◌, [], List, get_or, length, Some, ap, sym, subst, refl, arith}
use Rattle.std.proofs.lemmas.List.{length-map, length-set, length_push}
use Rattle.std.proofs.lemmas.List.Edits.{length-remove}
use Rattle.base_types.specs.declared.message.Msg.{Msg}
use Rattle.stored_types.specs.declared.hand.Hand.{Hand}
use Rattle.link_store.specs.Links.{IsPopped, Item}
use Rattle.queue_broker.specs.Broker.{BrokerView}
use Rattle.queue_broker.specs.Kept.{first_message, hand_in, hands_in}
use Rattle.queue_broker.proofs.Firsts.{only_of}
use Rattle.queue_broker.proofs.Sent.{held_at, kept_emptied, same_view}
use Rattle.queue_broker.proofs.Steps.{hands_emptied, held_one, held_there, queues_unemptied}
use Rattle.queue_broker.proofs.broker.Broker.empty_at.Goals as goal

pub pop_front-requires : goal.pop_front-requires
pop_front-requires c =
    let broker = c.self.inside in
    let h = c.remove-list.result in
    let count : length (hands_in broker.links.lists broker.hands.items) ≡ length c.args.self.now.hands = ap (λ (v : BrokerView). length v.hands) c.self.view_is in
    let inside : c.args.k < length broker.hands.items = omega (arith, c.requires, count, length-map broker.hands.items (hand_in broker.links.lists)) in
    held_there broker.links.lists broker.queues.items broker.hands.items broker.free.items c.self.invariant.0.lists c.args.k h h inside (sym c.remove-list.ensures.value)

pub unwrap-message-requires : goal.unwrap-message-requires
unwrap-message-requires c =
    let broker = c.self.inside in
    let h = c.remove-list.result in
    let count : length (hands_in broker.links.lists broker.hands.items) ≡ length c.args.self.now.hands = ap (λ (v : BrokerView). length v.hands) c.self.view_is in
    let inside : c.args.k < length broker.hands.items = omega (arith, c.requires, count, length-map broker.hands.items (hand_in broker.links.lists)) in
    let (item, only) = only_of (get_or broker.links.lists h.list []) (held_one broker.links.lists broker.queues.items broker.hands.items broker.free.items c.self.invariant.0.lists c.args.k h h inside (sym c.remove-list.ensures.value)) in
    let popped = subst (λ (xs : List (Item Msg)). IsPopped h.list xs broker.links c.pop_front.new.self c.pop_front.result) only c.pop_front.ensures in
    rw popped.0 refl

pub push_reserved-requires : goal.push_reserved-requires
push_reserved-requires c =
    let broker = c.self.inside in
    let count : length (hands_in broker.links.lists broker.hands.items) ≡ length c.args.self.now.hands = ap (λ (v : BrokerView). length v.hands) c.self.view_is in
    omega (arith, c.self.invariant.1.free_cells, c.requires, count, length-map broker.hands.items (hand_in broker.links.lists))

pub invariant_of-self : goal.invariant_of-self
invariant_of-self c =
    let broker = c.self.inside in
    let (kept, room) = c.self.invariant in
    let h = c.remove-list.result in
    let here = sym c.remove-list.ensures.value in
    let count : length (hands_in broker.links.lists broker.hands.items) ≡ length c.args.self.now.hands = ap (λ (v : BrokerView). length v.hands) c.self.view_is in
    let inside : c.args.k < length broker.hands.items = omega (arith, c.requires, count, length-map broker.hands.items (hand_in broker.links.lists)) in
    let (item, only) = only_of (get_or broker.links.lists h.list []) (held_one broker.links.lists broker.queues.items broker.hands.items broker.free.items kept.lists c.args.k h h inside here) in
    let popped = subst (λ (xs : List (Item Msg)). IsPopped h.list xs broker.links c.pop_front.new.self c.pop_front.result) only c.pop_front.ensures in
    let fewer : length c.remove-list.new.self.items + 1 ≡ length broker.hands.items = omega (arith, ap length c.remove-list.ensures.items, length-remove broker.hands.items c.args.k inside) in
    let more : length c.push_reserved.new.self.items ≡ length (broker.free.items ++ h.list ∷ []) = ap length c.push_reserved.ensures.items in
    rw popped.1 (
      rw (c.remove-list.ensures.items, c.push_reserved.ensures.items) (kept_emptied broker.links broker.queues.items broker.hands.items broker.free.items broker.waiting broker.spare kept c.args.k h h inside here),
      record {
        queue_count = room.queue_count;
        hand_count = omega (arith, room.hand_count, fewer);
        lists = omega (arith, room.lists, length-set broker.links.lists h.list []);
        queue_cells = room.queue_cells;
        hand_cells = omega (arith, room.hand_cells, c.remove-list.ensures.capacity);
        free_cells = omega (arith, room.free_cells, c.push_reserved.ensures.capacity, fewer, more, length_push broker.free.items h.list);
      },
    )

pub returns-clause-message : goal.returns-clause-message
returns-clause-message c =
    let broker = c.self.inside in
    let h = c.remove-list.result in
    let here = sym c.remove-list.ensures.value in
    let count : length (hands_in broker.links.lists broker.hands.items) ≡ length c.args.self.now.hands = ap (λ (v : BrokerView). length v.hands) c.self.view_is in
    let inside : c.args.k < length broker.hands.items = omega (arith, c.requires, count, length-map broker.hands.items (hand_in broker.links.lists)) in
    let (item, only) = only_of (get_or broker.links.lists h.list []) (held_one broker.links.lists broker.queues.items broker.hands.items broker.free.items c.self.invariant.0.lists c.args.k h h inside here) in
    let popped = subst (λ (xs : List (Item Msg)). IsPopped h.list xs broker.links c.pop_front.new.self c.pop_front.result) only c.pop_front.ensures in
    let some : Some c.unwrap-message.result ≡ Some item.value = sym c.unwrap-message.ensures ∙ popped.0 in
    let value : c.unwrap-message.result ≡ item.value = cc in
    rw (← c.self.view_is) (λ seen at. value ∙ sym (ap first_message only) ∙ ap (λ (x : Hand). x.message) (held_at broker.links.lists broker.hands.items c.args.k h h seen inside here at))

pub returns-clause-left : goal.returns-clause-left
returns-clause-left c =
    let broker = c.self.inside in
    let kept = c.self.invariant.0 in
    let h = c.remove-list.result in
    let here = sym c.remove-list.ensures.value in
    let count : length (hands_in broker.links.lists broker.hands.items) ≡ length c.args.self.now.hands = ap (λ (v : BrokerView). length v.hands) c.self.view_is in
    let inside : c.args.k < length broker.hands.items = omega (arith, c.requires, count, length-map broker.hands.items (hand_in broker.links.lists)) in
    let (item, only) = only_of (get_or broker.links.lists h.list []) (held_one broker.links.lists broker.queues.items broker.hands.items broker.free.items kept.lists c.args.k h h inside here) in
    let popped = subst (λ (xs : List (Item Msg)). IsPopped h.list xs broker.links c.pop_front.new.self c.pop_front.result) only c.pop_front.ensures in
    rw (← c.self.view_is, popped.1, c.remove-list.ensures.items) (same_view _ _ _ _ _ _ _ _
    (queues_unemptied broker.links.lists broker.queues.items broker.hands.items broker.free.items kept.lists c.args.k h h inside here)
    (hands_emptied broker.links.lists broker.queues.items broker.hands.items broker.free.items kept.lists c.args.k h h inside here))
