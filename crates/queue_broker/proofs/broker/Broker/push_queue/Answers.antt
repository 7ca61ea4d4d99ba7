use Rattle.std.proofs.Common.{◌≡◌, ◌∙◌, ◌++◌, ◌∷◌, [], List, length, ap, arith}
use Rattle.std.specs.Option.{option_to_list}
use Rattle.std.proofs.lemmas.List.{length-map, length_push}
use Rattle.stored_types.specs.declared.queue.Queue.{Queue}
use Rattle.queue_broker.specs.Broker.{BrokerView}
use Rattle.queue_broker.specs.Kept.{hands_in, queue_in, queues_in}
use Rattle.queue_broker.proofs.Sent.{kept_made}
use Rattle.queue_broker.proofs.Steps.{queues_made}
use Rattle.queue_broker.proofs.broker.Broker.push_queue.Goals as goal

pub invariant_of-self : goal.invariant_of-self
invariant_of-self c =
    let broker = c.self.inside in
    let (kept, room) = c.self.invariant in
    let front = c.pop.new.self.items in
    let n = c.unwrap-list.result in
    let last : broker.free.items ≡ front ++ n ∷ [] = c.pop.ensures.items ∙ ap (λ o. front ++ option_to_list o) c.unwrap-list.ensures in
    let count : length (queues_in broker.links.lists broker.queues.items) ≡ length c.args.self.now.queues = ap (λ (v : BrokerView). length v.queues) c.self.view_is in
    let more : length c.push_reserved.new.self.items ≡ length (broker.queues.items ++ record { name = c.args.name.now; list = n; bytes = 0 } ∷ []) = ap length c.push_reserved.ensures.items in (
      rw c.push_reserved.ensures.items (kept_made broker.links broker.queues.items broker.hands.items broker.free.items broker.waiting broker.spare kept front n c.args.name.now last),
      record {
        queue_count = omega (arith, c.requires.room, count, more, length-map broker.queues.items (queue_in broker.links.lists), length_push broker.queues.items (record { name = c.args.name.now; list = n; bytes = 0 }), ap (λ (v : BrokerView). v.queue_room) c.self.view_is);
        hand_count = room.hand_count;
        lists = room.lists;
        queue_cells = omega (arith, room.queue_cells, c.push_reserved.ensures.capacity);
        hand_cells = room.hand_cells;
        free_cells = omega (arith, room.free_cells, c.pop.ensures.capacity, ap length last, length_push front n);
      },
    )

pub returns : goal.returns
returns c =
    let broker = c.self.inside in
    let kept = c.self.invariant.0 in
    let front = c.pop.new.self.items in
    let n = c.unwrap-list.result in
    let last : broker.free.items ≡ front ++ n ∷ [] = c.pop.ensures.items ∙ ap (λ o. front ++ option_to_list o) c.unwrap-list.ensures in
    rw (← c.self.view_is) (ap (λ (qs : List Queue). record { queues = qs; hands = hands_in broker.links.lists broker.hands.items; spare = broker.spare; queue_room = broker.queue_room; hand_room = broker.hand_room; pushed = broker.links.pushed })
    (ap (queues_in broker.links.lists) c.push_reserved.ensures.items ∙ queues_made broker.links.lists broker.queues.items broker.hands.items broker.free.items kept.lists front c.args.name.now n last))
