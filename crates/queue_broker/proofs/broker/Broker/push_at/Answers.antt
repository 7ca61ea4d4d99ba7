use Rattle.std.proofs.Common.{◌≡◌, ◌<◌, ◌+◌, ◌∙◌, ◌++◌, ◌∷◌, [], get_or, length, set, ap, sym, arith}
use Rattle.std.proofs.lemmas.List.{length-map, length-set}
use Rattle.base_types.specs.declared.message.Msg.{Msg}
use Rattle.stored_types.specs.declared.queue.Queue.{Queue}
use Rattle.link_store.specs.Links.{Item}
use Rattle.queue_broker.specs.Broker.{BrokerView}
use Rattle.queue_broker.specs.Kept.{queue_in, queues_in}
use Rattle.queue_broker.proofs.Sent.{hands_sent, kept_sent, queues_sent, same_view, seen_at, short_at}
use Rattle.queue_broker.proofs.Steps.{queue_there}
use Rattle.queue_broker.proofs.broker.Broker.push_at.Goals as goal

pub overflow_add-queue : goal.overflow_add-queue
overflow_add-queue c =
    let broker = c.self.inside in
    let kept = c.self.invariant.0 in
    let q = c.index_mut-queue.result.now in
    let count : length (queues_in broker.links.lists broker.queues.items) ≡ length c.args.self.now.queues = ap (λ (v : BrokerView). length v.queues) c.self.view_is in
    let inside : c.args.i < length broker.queues.items = omega (arith, c.requires.there, count, length-map broker.queues.items (queue_in broker.links.lists)) in
    omega (arith, (short_at broker.links broker.queues.items broker.hands.items broker.free.items broker.waiting broker.spare kept c.args.i q q inside (sym c.index_mut-queue.ensures.value)).1, kept.given, c.requires.few, ap (λ (v : BrokerView). v.pushed) c.self.view_is, c.body_len-bytes.type_inv)

pub push_back-node-requires-clause-list : goal.push_back-node-requires-clause-list
push_back-node-requires-clause-list c =
    let broker = c.self.inside in
    let kept = c.self.invariant.0 in
    let q = c.index_mut-queue.result.now in
    let count : length (queues_in broker.links.lists broker.queues.items) ≡ length c.args.self.now.queues = ap (λ (v : BrokerView). length v.queues) c.self.view_is in
    let inside : c.args.i < length broker.queues.items = omega (arith, c.requires.there, count, length-map broker.queues.items (queue_in broker.links.lists)) in
    queue_there broker.links.lists broker.queues.items broker.hands.items broker.free.items kept.lists c.args.i q q inside (sym c.index_mut-queue.ensures.value)

pub push_back-node-requires-clause-spare : goal.push_back-node-requires-clause-spare
push_back-node-requires-clause-spare c = omega (arith, c.requires.spare, c.self.invariant.0.room, ap (λ (v : BrokerView). v.spare) c.self.view_is)

pub push_back-node-requires-clause-few : goal.push_back-node-requires-clause-few
push_back-node-requires-clause-few c = omega (arith, c.requires.few, ap (λ (v : BrokerView). v.pushed) c.self.view_is)

pub overflow_add-self : goal.overflow_add-self
overflow_add-self c = omega (arith, c.self.invariant.0.given, c.requires.few, ap (λ (v : BrokerView). v.pushed) c.self.view_is)

pub overflow_sub-self : goal.overflow_sub-self
overflow_sub-self c = omega (arith, c.requires.spare, ap (λ (v : BrokerView). v.spare) c.self.view_is)

pub invariant_of-self : goal.invariant_of-self
invariant_of-self c =
    let broker = c.self.inside in
    let (kept, room) = c.self.invariant in
    let q = c.index_mut-queue.result.now in
    let item : Item Msg = record { node = c.push_back-node.result; value = c.args.message } in
    let count : length (queues_in broker.links.lists broker.queues.items) ≡ length c.args.self.now.queues = ap (λ (v : BrokerView). length v.queues) c.self.view_is in
    let inside : c.args.i < length broker.queues.items = omega (arith, c.requires.there, count, length-map broker.queues.items (queue_in broker.links.lists)) in
    rw c.push_back-node.ensures.pushed (
      kept_sent broker.links broker.queues.items broker.hands.items broker.free.items broker.waiting broker.spare kept c.args.i q q inside (sym c.index_mut-queue.ensures.value) item c.body_len-bytes.result c.body_len-bytes.ensures.bytes c.body_len-bytes.type_inv
          (omega (arith, c.requires.spare, ap (λ (v : BrokerView). v.spare) c.self.view_is)) (omega (arith, c.requires.few, ap (λ (v : BrokerView). v.pushed) c.self.view_is)),
      record {
        queue_count = omega (arith, room.queue_count, length-set broker.queues.items c.args.i (record { name = q.name; list = q.list; bytes = q.bytes + c.body_len-bytes.result }));
        hand_count = room.hand_count;
        lists = omega (arith, room.lists, length-set broker.links.lists q.list (get_or broker.links.lists q.list [] ++ item ∷ []));
        queue_cells = room.queue_cells;
        hand_cells = room.hand_cells;
        free_cells = room.free_cells;
      },
    )

pub returns : goal.returns
returns c =
    let broker = c.self.inside in
    let kept = c.self.invariant.0 in
    let q = c.index_mut-queue.result.now in
    let all = queues_in broker.links.lists broker.queues.items in
    let item : Item Msg = record { node = c.push_back-node.result; value = c.args.message } in
    let count : length all ≡ length c.args.self.now.queues = ap (λ (v : BrokerView). length v.queues) c.self.view_is in
    let inside : c.args.i < length broker.queues.items = omega (arith, c.requires.there, count, length-map broker.queues.items (queue_in broker.links.lists)) in
    let here = sym c.index_mut-queue.ensures.value in
    rw (← c.self.view_is, c.push_back-node.ensures.pushed) (λ seen at. same_view _ _ _ _ _ _ _ _
    (queues_sent broker.links broker.queues.items broker.hands.items broker.free.items broker.waiting broker.spare kept c.args.i q q inside here item c.body_len-bytes.result c.body_len-bytes.ensures.bytes c.body_len-bytes.type_inv
    ∙ ap (λ (x : Queue). set all c.args.i (record { name = x.name; messages = x.messages ++ c.args.message ∷ [] })) (seen_at broker.links.lists broker.queues.items c.args.i q q seen inside here at))
    (hands_sent broker.links broker.queues.items broker.hands.items broker.free.items broker.waiting broker.spare kept c.args.i q q inside here item c.body_len-bytes.result c.body_len-bytes.ensures.bytes c.body_len-bytes.type_inv))
