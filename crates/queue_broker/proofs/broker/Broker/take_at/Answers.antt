use Rattle.std.proofs.Common.{◌≡◌, ◌<◌, ◌≤◌, ◌-◌, ◌∙◌, ◌++◌, ◌∷◌, [], ℕ, List, get_or, length, set, slice_get, Some, ap, sym, subst, arith}
use Rattle.std.specs.Option.{option_to_list}
use Rattle.std.proofs.lemmas.List.{length-map, length-set, length_push}
use Rattle.base_types.specs.Name.{queue_name}
use Rattle.base_types.specs.declared.message.Msg.{Msg}
use Rattle.stored_types.specs.declared.queue.Queue.{Queue}
use Rattle.link_store.specs.Links.{IsMoved, Item}
use Rattle.queue_broker.specs.declared.places.FullHand.{FullHand}
use Rattle.queue_broker.specs.Broker.{BrokerView, IsThere}
use Rattle.queue_broker.specs.Kept.{hand_in, hands_in, messages_of, queue_in, queues_in}
use Rattle.queue_broker.proofs.Firsts.{first_in, front_is, front_some, same_first, same_rest}
use Rattle.queue_broker.proofs.Sent.{bytes_left, hands_taken, kept_taken, queues_taken, same_view, seen_at, some_wait}
use Rattle.queue_broker.proofs.Steps.{free_there, no_queue_has, queue_there}
use Rattle.queue_broker.proofs.broker.Broker.take_at.Goals as goal

pub front-requires : goal.front-requires
front-requires c =
    let broker = c.self.inside in
    let q = c.index_mut-queue.result.now in
    let count : length (queues_in broker.links.lists broker.queues.items) ≡ length c.args.self.now.queues = ap (λ (v : BrokerView). length v.queues) c.self.view_is in
    let inside : c.args.i < length broker.queues.items = omega (arith, c.requires.there, count, length-map broker.queues.items (queue_in broker.links.lists)) in
    queue_there broker.links.lists broker.queues.items broker.hands.items broker.free.items c.self.invariant.0.lists c.args.i q q inside (sym c.index_mut-queue.ensures.value)

pub unwrap-requires : goal.unwrap-requires
unwrap-requires c =
    let broker = c.self.inside in
    let q = c.index_mut-queue.result.now in
    let count : length (queues_in broker.links.lists broker.queues.items) ≡ length c.args.self.now.queues = ap (λ (v : BrokerView). length v.queues) c.self.view_is in
    let inside : c.args.i < length broker.queues.items = omega (arith, c.requires.there, count, length-map broker.queues.items (queue_in broker.links.lists)) in
    let waits : (x : Queue) → slice_get (queues_in broker.links.lists broker.queues.items) c.args.i ≡ Some x → 1 ≤ length x.messages = subst (λ (v : BrokerView). (x : Queue) → slice_get v.queues c.args.i ≡ Some x → 1 ≤ length x.messages) (sym c.self.view_is) c.requires.some in
    let (item, rest, first) = first_in broker.links.lists broker.queues.items c.args.i q q inside (sym c.index_mut-queue.ensures.value) waits in
    front_some (get_or broker.links.lists q.list []) item rest first c.front.result c.front.ensures

pub overflow_sub-queue : goal.overflow_sub-queue
overflow_sub-queue c =
    let broker = c.self.inside in
    let kept = c.self.invariant.0 in
    let q = c.index_mut-queue.result.now in
    let here = sym c.index_mut-queue.ensures.value in
    let count : length (queues_in broker.links.lists broker.queues.items) ≡ length c.args.self.now.queues = ap (λ (v : BrokerView). length v.queues) c.self.view_is in
    let inside : c.args.i < length broker.queues.items = omega (arith, c.requires.there, count, length-map broker.queues.items (queue_in broker.links.lists)) in
    let waits : (x : Queue) → slice_get (queues_in broker.links.lists broker.queues.items) c.args.i ≡ Some x → 1 ≤ length x.messages = subst (λ (v : BrokerView). (x : Queue) → slice_get v.queues c.args.i ≡ Some x → 1 ≤ length x.messages) (sym c.self.view_is) c.requires.some in
    let (item, rest, first) = first_in broker.links.lists broker.queues.items c.args.i q q inside here waits in
    let len : c.body_len-bytes.result ≡ length item.value.body = c.body_len-bytes.ensures.bytes ∙ ap (λ (m : Msg). length m.body) (front_is (get_or broker.links.lists q.list []) item rest first c.front.result c.unwrap.result c.front.ensures c.unwrap.ensures) in
    bytes_left broker.links broker.queues.items broker.hands.items broker.free.items broker.waiting broker.spare kept c.args.i q q inside here item rest first c.body_len-bytes.result len

pub move_front-moved-requires-clause-from : goal.move_front-moved-requires-clause-from
move_front-moved-requires-clause-from c =
    let broker = c.self.inside in
    let q = c.index_mut-queue.result.now in
    let count : length (queues_in broker.links.lists broker.queues.items) ≡ length c.args.self.now.queues = ap (λ (v : BrokerView). length v.queues) c.self.view_is in
    let inside : c.args.i < length broker.queues.items = omega (arith, c.requires.there, count, length-map broker.queues.items (queue_in broker.links.lists)) in
    queue_there broker.links.lists broker.queues.items broker.hands.items broker.free.items c.self.invariant.0.lists c.args.i q q inside (sym c.index_mut-queue.ensures.value)

pub move_front-moved-requires-clause-to : goal.move_front-moved-requires-clause-to
move_front-moved-requires-clause-to c =
    let broker = c.self.inside in
    let front = c.pop.new.self.items in
    let h : FullHand = record { bot = c.args.bot.now; instance = c.args.instance; list = c.unwrap-list.result; tries = 0; since = c.args.now } in
    let last : broker.free.items ≡ front ++ h.list ∷ [] = c.pop.ensures.items ∙ ap (λ o. front ++ option_to_list o) c.unwrap-list.ensures in
    free_there broker.links.lists broker.queues.items broker.hands.items broker.free.items c.self.invariant.0.lists front h last

pub move_front-moved-requires-clause-differ : goal.move_front-moved-requires-clause-differ
move_front-moved-requires-clause-differ c =
    let broker = c.self.inside in
    let q = c.index_mut-queue.result.now in
    let front = c.pop.new.self.items in
    let h : FullHand = record { bot = c.args.bot.now; instance = c.args.instance; list = c.unwrap-list.result; tries = 0; since = c.args.now } in
    let last : broker.free.items ≡ front ++ h.list ∷ [] = c.pop.ensures.items ∙ ap (λ o. front ++ option_to_list o) c.unwrap-list.ensures in
    let count : length (queues_in broker.links.lists broker.queues.items) ≡ length c.args.self.now.queues = ap (λ (v : BrokerView). length v.queues) c.self.view_is in
    let inside : c.args.i < length broker.queues.items = omega (arith, c.requires.there, count, length-map broker.queues.items (queue_in broker.links.lists)) in
    no_queue_has broker.links.lists broker.queues.items broker.hands.items broker.free.items c.self.invariant.0.lists front h last c.args.i q q inside (sym c.index_mut-queue.ensures.value)

pub overflow_sub-self : goal.overflow_sub-self
overflow_sub-self c =
    let broker = c.self.inside in
    let kept = c.self.invariant.0 in
    let q = c.index_mut-queue.result.now in
    let here = sym c.index_mut-queue.ensures.value in
    let count : length (queues_in broker.links.lists broker.queues.items) ≡ length c.args.self.now.queues = ap (λ (v : BrokerView). length v.queues) c.self.view_is in
    let inside : c.args.i < length broker.queues.items = omega (arith, c.requires.there, count, length-map broker.queues.items (queue_in broker.links.lists)) in
    let waits : (x : Queue) → slice_get (queues_in broker.links.lists broker.queues.items) c.args.i ≡ Some x → 1 ≤ length x.messages = subst (λ (v : BrokerView). (x : Queue) → slice_get v.queues c.args.i ≡ Some x → 1 ≤ length x.messages) (sym c.self.view_is) c.requires.some in
    let (item, rest, first) = first_in broker.links.lists broker.queues.items c.args.i q q inside here waits in
    let len : c.body_len-bytes.result ≡ length item.value.body = c.body_len-bytes.ensures.bytes ∙ ap (λ (m : Msg). length m.body) (front_is (get_or broker.links.lists q.list []) item rest first c.front.result c.unwrap.result c.front.ensures c.unwrap.ensures) in
    some_wait broker.links broker.queues.items broker.hands.items broker.free.items broker.waiting broker.spare kept c.args.i q q inside here item rest first c.body_len-bytes.result len

pub invariant_of-self : goal.invariant_of-self
invariant_of-self c =
    let broker = c.self.inside in
    let (kept, room) = c.self.invariant in
    let q = c.index_mut-queue.result.now in
    let here = sym c.index_mut-queue.ensures.value in
    let front = c.pop.new.self.items in
    let h : FullHand = record { bot = c.args.bot.now; instance = c.args.instance; list = c.unwrap-list.result; tries = 0; since = c.args.now } in
    let last : broker.free.items ≡ front ++ h.list ∷ [] = c.pop.ensures.items ∙ ap (λ o. front ++ option_to_list o) c.unwrap-list.ensures in
    let there : IsThere (queue_name h.bot) (queues_in broker.links.lists broker.queues.items) = subst (λ (v : BrokerView). IsThere (queue_name h.bot) v.queues) (sym c.self.view_is) c.requires.queue in
    let count : length (queues_in broker.links.lists broker.queues.items) ≡ length c.args.self.now.queues = ap (λ (v : BrokerView). length v.queues) c.self.view_is in
    let held : length (hands_in broker.links.lists broker.hands.items) ≡ length c.args.self.now.hands = ap (λ (v : BrokerView). length v.hands) c.self.view_is in
    let inside : c.args.i < length broker.queues.items = omega (arith, c.requires.there, count, length-map broker.queues.items (queue_in broker.links.lists)) in
    let waits : (x : Queue) → slice_get (queues_in broker.links.lists broker.queues.items) c.args.i ≡ Some x → 1 ≤ length x.messages = subst (λ (v : BrokerView). (x : Queue) → slice_get v.queues c.args.i ≡ Some x → 1 ≤ length x.messages) (sym c.self.view_is) c.requires.some in
    let (item, rest, first) = first_in broker.links.lists broker.queues.items c.args.i q q inside here waits in
    let len : c.body_len-bytes.result ≡ length item.value.body = c.body_len-bytes.ensures.bytes ∙ ap (λ (m : Msg). length m.body) (front_is (get_or broker.links.lists q.list []) item rest first c.front.result c.unwrap.result c.front.ensures c.unwrap.ensures) in
    let moved = subst (λ (xs : List (Item Msg)). IsMoved q.list h.list xs broker.links c.move_front-moved.new.self c.move_front-moved.result) first c.move_front-moved.ensures in
    let more : length c.push_reserved.new.self.items ≡ length (broker.hands.items ++ h ∷ []) = ap length c.push_reserved.ensures.items in
    rw moved.1 (
      rw c.push_reserved.ensures.items (kept_taken broker.links broker.queues.items broker.hands.items broker.free.items broker.waiting broker.spare kept c.args.i q q inside here item rest first c.body_len-bytes.result len front h last there),
      record {
        queue_count = omega (arith, room.queue_count, length-set broker.queues.items c.args.i (record { name = q.name; list = q.list; bytes = q.bytes - c.body_len-bytes.result }));
        hand_count = omega (arith, c.requires.room, held, more, length-map broker.hands.items (hand_in broker.links.lists), length_push broker.hands.items h, ap (λ (v : BrokerView). v.hand_room) c.self.view_is);
        lists = omega (arith, room.lists, length-set (set broker.links.lists q.list rest) h.list (get_or (set broker.links.lists q.list rest) h.list [] ++ item ∷ []), length-set broker.links.lists q.list rest);
        queue_cells = room.queue_cells;
        hand_cells = omega (arith, room.hand_cells, c.push_reserved.ensures.capacity);
        free_cells = omega (arith, room.free_cells, c.pop.ensures.capacity, ap length last, length_push front h.list, more, length_push broker.hands.items h);
      },
    )

pub returns : goal.returns
returns c =
    let broker = c.self.inside in
    let kept = c.self.invariant.0 in
    let q = c.index_mut-queue.result.now in
    let here = sym c.index_mut-queue.ensures.value in
    let all = queues_in broker.links.lists broker.queues.items in
    let front = c.pop.new.self.items in
    let h : FullHand = record { bot = c.args.bot.now; instance = c.args.instance; list = c.unwrap-list.result; tries = 0; since = c.args.now } in
    let last : broker.free.items ≡ front ++ h.list ∷ [] = c.pop.ensures.items ∙ ap (λ o. front ++ option_to_list o) c.unwrap-list.ensures in
    let there : IsThere (queue_name h.bot) all = subst (λ (v : BrokerView). IsThere (queue_name h.bot) v.queues) (sym c.self.view_is) c.requires.queue in
    let count : length all ≡ length c.args.self.now.queues = ap (λ (v : BrokerView). length v.queues) c.self.view_is in
    let inside : c.args.i < length broker.queues.items = omega (arith, c.requires.there, count, length-map broker.queues.items (queue_in broker.links.lists)) in
    let waits : (x : Queue) → slice_get all c.args.i ≡ Some x → 1 ≤ length x.messages = subst (λ (v : BrokerView). (x : Queue) → slice_get v.queues c.args.i ≡ Some x → 1 ≤ length x.messages) (sym c.self.view_is) c.requires.some in
    let (item, rest, first) = first_in broker.links.lists broker.queues.items c.args.i q q inside here waits in
    let len : c.body_len-bytes.result ≡ length item.value.body = c.body_len-bytes.ensures.bytes ∙ ap (λ (m : Msg). length m.body) (front_is (get_or broker.links.lists q.list []) item rest first c.front.result c.unwrap.result c.front.ensures c.unwrap.ensures) in
    let moved = subst (λ (xs : List (Item Msg)). IsMoved q.list h.list xs broker.links c.move_front-moved.new.self c.move_front-moved.result) first c.move_front-moved.ensures in
    rw (← c.self.view_is, moved.1, c.push_reserved.ensures.items) (λ seen message others at is.
    let same : queue_in broker.links.lists q ≡ seen = seen_at broker.links.lists broker.queues.items c.args.i q q seen inside here at in
    let parts : item.value ∷ messages_of rest ≡ message ∷ others = sym (ap messages_of first) ∙ ap (λ (x : Queue). x.messages) same ∙ is in
    same_view _ _ _ _ _ _ _ _
    (queues_taken broker.links broker.queues.items broker.hands.items broker.free.items broker.waiting broker.spare kept c.args.i q q inside here item rest first c.body_len-bytes.result len front h last there
    ∙ ap (λ (n : List ℕ). set all c.args.i (record { name = n; messages = messages_of rest })) (ap (λ (x : Queue). x.name) same)
    ∙ ap (λ (ms : List Msg). set all c.args.i (record { name = seen.name; messages = ms })) (same_rest item.value message (messages_of rest) others parts))
    (hands_taken broker.links broker.queues.items broker.hands.items broker.free.items broker.waiting broker.spare kept c.args.i q q inside here item rest first c.body_len-bytes.result len front h last there
    ∙ ap (λ (m : Msg). hands_in broker.links.lists broker.hands.items ++ record { bot = h.bot; instance = h.instance; message = m; tries = h.tries; since = h.since } ∷ []) (same_first item.value message (messages_of rest) others parts)))
