use Rattle.std.proofs.Common.{◌≡◌, ◌+◌, ◌++◌, ◌∙◌, List, length, sym, ap, subst, arith}
use Rattle.stored_types.specs.declared.hand.Hand.{Hand}
use Rattle.stored_types.specs.declared.queue.Queue.{Queue}
use Rattle.queue_broker.specs.Broker.{BrokerView, HaveQueues, from_lists, reserved, total}
use Rattle.queue_broker.proofs.Calls.{all_taken}
use Rattle.queue_broker.proofs.broker.Broker.from_lists.Goals as goal

pub push_queues-requires-clause-room : goal.push_queues-requires-clause-room
push_queues-requires-clause-room c =
    let start = c.in_ok-reserve_count.ensures.ok ∙ ap (reserved c.in_ok-messages.messages c.len-named.result c.len-full.result) c.in_ok-broker.ensures in
    omega (arith, ap (λ (v : BrokerView). length v.queues) start, ap (λ (v : BrokerView). v.queue_room) start, ap length c.into_vec.ensures, c.len-named.ensures)

pub push_queues-requires-clause-spare : goal.push_queues-requires-clause-spare
push_queues-requires-clause-spare c =
    let start = c.in_ok-reserve_count.ensures.ok ∙ ap (reserved c.in_ok-messages.messages c.len-named.result c.len-full.result) c.in_ok-broker.ensures in
    omega (arith, ap (λ (v : BrokerView). v.spare) start, ap total c.into_vec.ensures, c.in_ok-messages.ensures.0, ap total c.as_slice.ensures)

pub push_queues-requires-clause-few : goal.push_queues-requires-clause-few
push_queues-requires-clause-few c =
    let start = c.in_ok-reserve_count.ensures.ok ∙ ap (reserved c.in_ok-messages.messages c.len-named.result c.len-full.result) c.in_ok-broker.ensures in
    omega (arith, ap (λ (v : BrokerView). v.pushed) start, ap total c.into_vec.ensures, c.in_ok-messages.ensures.0, c.in_ok-messages.ensures.1, ap total c.as_slice.ensures)

pub push_hands-requires-clause-room : goal.push_hands-requires-clause-room
push_hands-requires-clause-room c =
    let start = c.in_ok-reserve_count.ensures.ok ∙ ap (reserved c.in_ok-messages.messages c.len-named.result c.len-full.result) c.in_ok-broker.ensures in
    let pushed = c.push_queues.ensures in
    omega (arith, ap (λ (v : BrokerView). length v.hands) start, ap (λ (v : BrokerView). v.hand_room) start, ap (λ (v : BrokerView). length v.hands) pushed, ap (λ (v : BrokerView). v.hand_room) pushed, ap length c.into_vec-2.ensures, c.len-full.ensures)

pub push_hands-requires-clause-spare : goal.push_hands-requires-clause-spare
push_hands-requires-clause-spare c =
    let start = c.in_ok-reserve_count.ensures.ok ∙ ap (reserved c.in_ok-messages.messages c.len-named.result c.len-full.result) c.in_ok-broker.ensures in
    omega (
      arith,
      ap (λ (v : BrokerView). v.spare) start,
      ap (λ (v : BrokerView). v.spare) c.push_queues.ensures,
      ap total c.into_vec.ensures,
      ap length c.into_vec-2.ensures,
      c.len-full.ensures,
      c.in_ok-messages.ensures.0,
      ap total c.as_slice.ensures,
    )

pub push_hands-requires-clause-few : goal.push_hands-requires-clause-few
push_hands-requires-clause-few c =
    let start = c.in_ok-reserve_count.ensures.ok ∙ ap (reserved c.in_ok-messages.messages c.len-named.result c.len-full.result) c.in_ok-broker.ensures in
    omega (
      arith,
      ap (λ (v : BrokerView). v.pushed) start,
      ap (λ (v : BrokerView). v.pushed) c.push_queues.ensures,
      ap total c.into_vec.ensures,
      ap length c.into_vec-2.ensures,
      c.len-full.ensures,
      c.in_ok-messages.ensures.0,
      c.in_ok-messages.ensures.1,
      ap total c.as_slice.ensures,
    )

pub push_hands-requires-clause-queues : goal.push_hands-requires-clause-queues
push_hands-requires-clause-queues c =
    let start = c.in_ok-reserve_count.ensures.ok ∙ ap (reserved c.in_ok-messages.messages c.len-named.result c.len-full.result) c.in_ok-broker.ensures in
    let named : c.push_queues.new.self.queues ≡ c.args.queues = ap (λ (v : BrokerView). v.queues) c.push_queues.ensures ∙ ap (λ (v : BrokerView). v.queues ++ c.into_vec.result.items) start ∙ c.into_vec.ensures in
    subst (λ (qs : List Queue). HaveQueues qs c.into_vec-2.result.items) (sym named) (subst (λ (hs : List Hand). HaveQueues c.args.queues hs) (sym c.into_vec-2.ensures) c.requires)

pub returns : goal.returns
returns c =
    let start = c.in_ok-reserve_count.ensures.ok ∙ ap (reserved c.in_ok-messages.messages c.len-named.result c.len-full.result) c.in_ok-broker.ensures in
    let queues = c.into_vec.result.items in
    let hands = c.into_vec-2.result.items in
    let messages : c.in_ok-messages.messages ≡ total queues + c.len-full.result = c.in_ok-messages.ensures.0 ∙ ap (λ (qs : List Queue). total qs + c.len-full.result) (c.as_slice.ensures ∙ sym c.into_vec.ensures) in
    all_taken c.in_ok-messages.messages c.len-named.result c.len-full.result queues hands c.reserve_count.new.self c.push_queues.new.self c.push_hands.new.self messages (c.len-named.ensures ∙ ap length (sym c.into_vec.ensures)) (c.len-full.ensures ∙ ap length (sym c.into_vec-2.ensures)) start c.push_queues.ensures c.push_hands.ensures
    ∙ ap (λ (qs : List Queue). from_lists qs hands) c.into_vec.ensures ∙ ap (from_lists c.args.queues) c.into_vec-2.ensures
