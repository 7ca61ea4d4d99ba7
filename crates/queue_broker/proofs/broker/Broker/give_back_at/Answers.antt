use Rattle.std.proofs.Common.{◌≡◌, ◌<◌, ◌+◌, ◌∙◌, ◌++◌, ◌∷◌, [], List, get_or, length, set, ap, sym, subst, arith}
use Rattle.std.proofs.lemmas.List.{length-map, length-set, length_push}
use Rattle.std.proofs.lemmas.List.Edits.{length-remove}
use Rattle.base_types.specs.declared.message.Msg.{Msg}
use Rattle.stored_types.specs.declared.hand.Hand.{Hand}
use Rattle.stored_types.specs.declared.queue.Queue.{Queue}
use Rattle.link_store.specs.Links.{IsPut, Item}
use Rattle.queue_broker.specs.Broker.{BrokerView}
use Rattle.queue_broker.specs.Kept.{first_message, hand_in, hands_in, messages_of, queue_in, queues_in}
use Rattle.queue_broker.proofs.Firsts.{front_is, front_some, only_of}
use Rattle.queue_broker.proofs.Sent.{hands_back, held_at, kept_back, queues_back, same_view, seen_at, short_at}
use Rattle.queue_broker.proofs.Steps.{held_one, held_there, queue_there}
use Rattle.queue_broker.proofs.broker.Broker.give_back_at.Goals as goal

pub front-requires : goal.front-requires
front-requires c =
    let broker = c.self.inside in
    let h = c.remove-list.result in
    let count : length (hands_in broker.links.lists broker.hands.items) ≡ length c.args.self.now.hands = ap (λ (v : BrokerView). length v.hands) c.self.view_is in
    let inside : c.args.k < length broker.hands.items = omega (arith, c.requires.hand, count, length-map broker.hands.items (hand_in broker.links.lists)) in
    held_there broker.links.lists broker.queues.items broker.hands.items broker.free.items c.self.invariant.0.lists c.args.k h h inside (sym c.remove-list.ensures.value)

pub unwrap-requires : goal.unwrap-requires
unwrap-requires c =
    let broker = c.self.inside in
    let h = c.remove-list.result in
    let count : length (hands_in broker.links.lists broker.hands.items) ≡ length c.args.self.now.hands = ap (λ (v : BrokerView). length v.hands) c.self.view_is in
    let inside : c.args.k < length broker.hands.items = omega (arith, c.requires.hand, count, length-map broker.hands.items (hand_in broker.links.lists)) in
    let (item, only) = only_of (get_or broker.links.lists h.list []) (held_one broker.links.lists broker.queues.items broker.hands.items broker.free.items c.self.invariant.0.lists c.args.k h h inside (sym c.remove-list.ensures.value)) in
    front_some (get_or broker.links.lists h.list []) item [] only c.front.result c.front.ensures

pub overflow_add-queue : goal.overflow_add-queue
overflow_add-queue c =
    let broker = c.self.inside in
    let kept = c.self.invariant.0 in
    let q = c.index_mut-queue.result.now in
    let count : length (queues_in broker.links.lists broker.queues.items) ≡ length c.args.self.now.queues = ap (λ (v : BrokerView). length v.queues) c.self.view_is in
    let within : c.args.i < length broker.queues.items = omega (arith, c.requires.queue, count, length-map broker.queues.items (queue_in broker.links.lists)) in
    omega (arith, (short_at broker.links broker.queues.items broker.hands.items broker.free.items broker.waiting broker.spare kept c.args.i q q within (sym c.index_mut-queue.ensures.value)).1, kept.given, kept.few, c.body_len-bytes.type_inv)

pub put_front-moved-requires-clause-from : goal.put_front-moved-requires-clause-from
put_front-moved-requires-clause-from c =
    let broker = c.self.inside in
    let h = c.remove-list.result in
    let count : length (hands_in broker.links.lists broker.hands.items) ≡ length c.args.self.now.hands = ap (λ (v : BrokerView). length v.hands) c.self.view_is in
    let inside : c.args.k < length broker.hands.items = omega (arith, c.requires.hand, count, length-map broker.hands.items (hand_in broker.links.lists)) in
    held_there broker.links.lists broker.queues.items broker.hands.items broker.free.items c.self.invariant.0.lists c.args.k h h inside (sym c.remove-list.ensures.value)

pub put_front-moved-requires-clause-to : goal.put_front-moved-requires-clause-to
put_front-moved-requires-clause-to c =
    let broker = c.self.inside in
    let q = c.index_mut-queue.result.now in
    let count : length (queues_in broker.links.lists broker.queues.items) ≡ length c.args.self.now.queues = ap (λ (v : BrokerView). length v.queues) c.self.view_is in
    let within : c.args.i < length broker.queues.items = omega (arith, c.requires.queue, count, length-map broker.queues.items (queue_in broker.links.lists)) in
    queue_there broker.links.lists broker.queues.items broker.hands.items broker.free.items c.self.invariant.0.lists c.args.i q q within (sym c.index_mut-queue.ensures.value)

pub overflow_add-self : goal.overflow_add-self
overflow_add-self c = omega (arith, c.self.invariant.0.given, c.self.invariant.0.few)

pub push_reserved-requires : goal.push_reserved-requires
push_reserved-requires c =
    let broker = c.self.inside in
    let count : length (hands_in broker.links.lists broker.hands.items) ≡ length c.args.self.now.hands = ap (λ (v : BrokerView). length v.hands) c.self.view_is in
    omega (arith, c.self.invariant.1.free_cells, c.requires.hand, count, length-map broker.hands.items (hand_in broker.links.lists))

pub invariant_of-self : goal.invariant_of-self
invariant_of-self c =
    let broker = c.self.inside in
    let (kept, room) = c.self.invariant in
    let h = c.remove-list.result in
    let here = sym c.remove-list.ensures.value in
    let q = c.index_mut-queue.result.now in
    let there = sym c.index_mut-queue.ensures.value in
    let held : length (hands_in broker.links.lists broker.hands.items) ≡ length c.args.self.now.hands = ap (λ (v : BrokerView). length v.hands) c.self.view_is in
    let inside : c.args.k < length broker.hands.items = omega (arith, c.requires.hand, held, length-map broker.hands.items (hand_in broker.links.lists)) in
    let count : length (queues_in broker.links.lists broker.queues.items) ≡ length c.args.self.now.queues = ap (λ (v : BrokerView). length v.queues) c.self.view_is in
    let within : c.args.i < length broker.queues.items = omega (arith, c.requires.queue, count, length-map broker.queues.items (queue_in broker.links.lists)) in
    let (item, only) = only_of (get_or broker.links.lists h.list []) (held_one broker.links.lists broker.queues.items broker.hands.items broker.free.items kept.lists c.args.k h h inside here) in
    let len : c.body_len-bytes.result ≡ length item.value.body = c.body_len-bytes.ensures.bytes ∙ ap (λ (m : Msg). length m.body) (front_is (get_or broker.links.lists h.list []) item [] only c.front.result c.unwrap.result c.front.ensures c.unwrap.ensures) in
    let moved = subst (λ (xs : List (Item Msg)). IsPut h.list q.list xs broker.links c.put_front-moved.new.self c.put_front-moved.result) only c.put_front-moved.ensures in
    let fewer : length c.remove-list.new.self.items + 1 ≡ length broker.hands.items = omega (arith, ap length c.remove-list.ensures.items, length-remove broker.hands.items c.args.k inside) in
    let more : length c.push_reserved.new.self.items ≡ length (broker.free.items ++ h.list ∷ []) = ap length c.push_reserved.ensures.items in
    rw moved.1 (
      rw (c.remove-list.ensures.items, c.push_reserved.ensures.items) (kept_back broker.links broker.queues.items broker.hands.items broker.free.items broker.waiting broker.spare kept c.args.k h h inside here c.args.i q q within there item c.body_len-bytes.result len c.body_len-bytes.type_inv),
      record {
        queue_count = omega (arith, room.queue_count, length-set broker.queues.items c.args.i (record { name = q.name; list = q.list; bytes = q.bytes + c.body_len-bytes.result }));
        hand_count = omega (arith, room.hand_count, fewer);
        lists = omega (arith, room.lists, length-set (set broker.links.lists h.list []) q.list (item ∷ get_or (set broker.links.lists h.list []) q.list []), length-set broker.links.lists h.list []);
        queue_cells = room.queue_cells;
        hand_cells = omega (arith, room.hand_cells, c.remove-list.ensures.capacity);
        free_cells = omega (arith, room.free_cells, c.push_reserved.ensures.capacity, fewer, more, length_push broker.free.items h.list);
      },
    )

pub returns : goal.returns
returns c =
    let broker = c.self.inside in
    let kept = c.self.invariant.0 in
    let h = c.remove-list.result in
    let here = sym c.remove-list.ensures.value in
    let q = c.index_mut-queue.result.now in
    let there = sym c.index_mut-queue.ensures.value in
    let all = queues_in broker.links.lists broker.queues.items in
    let held : length (hands_in broker.links.lists broker.hands.items) ≡ length c.args.self.now.hands = ap (λ (v : BrokerView). length v.hands) c.self.view_is in
    let inside : c.args.k < length broker.hands.items = omega (arith, c.requires.hand, held, length-map broker.hands.items (hand_in broker.links.lists)) in
    let count : length all ≡ length c.args.self.now.queues = ap (λ (v : BrokerView). length v.queues) c.self.view_is in
    let within : c.args.i < length broker.queues.items = omega (arith, c.requires.queue, count, length-map broker.queues.items (queue_in broker.links.lists)) in
    let (item, only) = only_of (get_or broker.links.lists h.list []) (held_one broker.links.lists broker.queues.items broker.hands.items broker.free.items kept.lists c.args.k h h inside here) in
    let len : c.body_len-bytes.result ≡ length item.value.body = c.body_len-bytes.ensures.bytes ∙ ap (λ (m : Msg). length m.body) (front_is (get_or broker.links.lists h.list []) item [] only c.front.result c.unwrap.result c.front.ensures c.unwrap.ensures) in
    let moved = subst (λ (xs : List (Item Msg)). IsPut h.list q.list xs broker.links c.put_front-moved.new.self c.put_front-moved.result) only c.put_front-moved.ensures in
    rw (← c.self.view_is, moved.1, c.remove-list.ensures.items) (λ hand seen at_hand at_queue.
    let value : item.value ≡ hand.message = sym (ap first_message only) ∙ ap (λ (x : Hand). x.message) (held_at broker.links.lists broker.hands.items c.args.k h h hand inside here at_hand) in
    same_view _ _ _ _ _ _ _ _
    (queues_back broker.links broker.queues.items broker.hands.items broker.free.items broker.waiting broker.spare kept c.args.k h h inside here c.args.i q q within there item c.body_len-bytes.result len c.body_len-bytes.type_inv
    ∙ ap (λ (m : Msg). set all c.args.i (record { name = q.name; messages = m ∷ messages_of (get_or broker.links.lists q.list []) })) value
    ∙ ap (λ (x : Queue). set all c.args.i (record { name = x.name; messages = hand.message ∷ x.messages })) (seen_at broker.links.lists broker.queues.items c.args.i q q seen within there at_queue))
    (hands_back broker.links broker.queues.items broker.hands.items broker.free.items broker.waiting broker.spare kept c.args.k h h inside here c.args.i q q within there item c.body_len-bytes.result len c.body_len-bytes.type_inv))
