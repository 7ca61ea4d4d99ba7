use Rattle.std.proofs.Common.{◌≡◌, ◌∙◌, ◌++◌, ◌∷◌, [], get_or, length, ap, sym, subst, arith}
use Rattle.std.specs.Option.{option_to_list}
use Rattle.std.proofs.lemmas.List.{length-map, length-set, length_push}
use Rattle.base_types.specs.Name.{queue_name}
use Rattle.base_types.specs.declared.message.Msg.{Msg}
use Rattle.link_store.specs.Links.{Item}
use Rattle.queue_broker.specs.declared.places.FullHand.{FullHand}
use Rattle.queue_broker.specs.Broker.{BrokerView, IsThere}
use Rattle.queue_broker.specs.Kept.{hand_in, hands_in, queues_in}
use Rattle.queue_broker.proofs.Sent.{hands_held, kept_held, queues_held, same_view}
use Rattle.queue_broker.proofs.Steps.{free_there}
use Rattle.queue_broker.proofs.broker.Broker.push_hand.Goals as goal

pub push_back-node-requires-clause-list : goal.push_back-node-requires-clause-list
push_back-node-requires-clause-list c =
    let broker = c.self.inside in
    let hand = c.args.hand in
    let h : FullHand = record { bot = hand.bot; instance = hand.instance; list = c.unwrap-list.result; tries = hand.tries; since = hand.since } in
    let last : broker.free.items ≡ c.pop.new.self.items ++ h.list ∷ [] = c.pop.ensures.items ∙ ap (λ o. c.pop.new.self.items ++ option_to_list o) c.unwrap-list.ensures in
    free_there broker.links.lists broker.queues.items broker.hands.items broker.free.items c.self.invariant.0.lists c.pop.new.self.items h last

pub push_back-node-requires-clause-spare : goal.push_back-node-requires-clause-spare
push_back-node-requires-clause-spare c = omega (arith, c.requires.spare, c.self.invariant.0.room, ap (λ (v : BrokerView). v.spare) c.self.view_is)

pub push_back-node-requires-clause-few : goal.push_back-node-requires-clause-few
push_back-node-requires-clause-few c = omega (arith, c.requires.few, ap (λ (v : BrokerView). v.pushed) c.self.view_is)

pub overflow_sub-self : goal.overflow_sub-self
overflow_sub-self c = omega (arith, c.requires.spare, ap (λ (v : BrokerView). v.spare) c.self.view_is)

pub invariant_of-self : goal.invariant_of-self
invariant_of-self c =
    let broker = c.self.inside in
    let (kept, room) = c.self.invariant in
    let hand = c.args.hand in
    let front = c.pop.new.self.items in
    let h : FullHand = record { bot = hand.bot; instance = hand.instance; list = c.unwrap-list.result; tries = hand.tries; since = hand.since } in
    let item : Item Msg = record { node = c.push_back-node.result; value = hand.message } in
    let last : broker.free.items ≡ front ++ h.list ∷ [] = c.pop.ensures.items ∙ ap (λ o. front ++ option_to_list o) c.unwrap-list.ensures in
    let there : IsThere (queue_name hand.bot) (queues_in broker.links.lists broker.queues.items) = subst (λ (v : BrokerView). IsThere (queue_name hand.bot) v.queues) (sym c.self.view_is) c.requires.queue in
    let count : length (hands_in broker.links.lists broker.hands.items) ≡ length c.args.self.now.hands = ap (λ (v : BrokerView). length v.hands) c.self.view_is in
    let more : length c.push_reserved.new.self.items ≡ length (broker.hands.items ++ h ∷ []) = ap length c.push_reserved.ensures.items in
    rw c.push_back-node.ensures.pushed (
      rw c.push_reserved.ensures.items (kept_held broker.links broker.queues.items broker.hands.items broker.free.items broker.waiting broker.spare kept front h last item there (omega (arith, c.requires.spare, ap (λ (v : BrokerView). v.spare) c.self.view_is)) (omega (arith, c.requires.few, ap (λ (v : BrokerView). v.pushed) c.self.view_is))),
      record {
        queue_count = room.queue_count;
        hand_count = omega (arith, c.requires.room, count, more, length-map broker.hands.items (hand_in broker.links.lists), length_push broker.hands.items h, ap (λ (v : BrokerView). v.hand_room) c.self.view_is);
        lists = omega (arith, room.lists, length-set broker.links.lists h.list (get_or broker.links.lists h.list [] ++ item ∷ []));
        queue_cells = room.queue_cells;
        hand_cells = omega (arith, room.hand_cells, c.push_reserved.ensures.capacity);
        free_cells = omega (arith, room.free_cells, c.pop.ensures.capacity, ap length last, length_push front h.list, more, length_push broker.hands.items h);
      },
    )

pub returns : goal.returns
returns c =
    let broker = c.self.inside in
    let kept = c.self.invariant.0 in
    let hand = c.args.hand in
    let front = c.pop.new.self.items in
    let h : FullHand = record { bot = hand.bot; instance = hand.instance; list = c.unwrap-list.result; tries = hand.tries; since = hand.since } in
    let item : Item Msg = record { node = c.push_back-node.result; value = hand.message } in
    let last : broker.free.items ≡ front ++ h.list ∷ [] = c.pop.ensures.items ∙ ap (λ o. front ++ option_to_list o) c.unwrap-list.ensures in
    let there : IsThere (queue_name hand.bot) (queues_in broker.links.lists broker.queues.items) = subst (λ (v : BrokerView). IsThere (queue_name hand.bot) v.queues) (sym c.self.view_is) c.requires.queue in
    rw (← c.self.view_is, c.push_back-node.ensures.pushed, c.push_reserved.ensures.items) (same_view _ _ _ _ _ _ _ _
    (queues_held broker.links broker.queues.items broker.hands.items broker.free.items broker.waiting broker.spare kept front h last item there)
    (hands_held broker.links broker.queues.items broker.hands.items broker.free.items broker.waiting broker.spare kept front h last item there))
