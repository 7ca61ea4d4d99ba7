use Rattle.std.proofs.Common.{◌≡◌, ◌+◌, ◌-◌, ◌++◌, ◌∙◌, [], ◌∷◌, List, length, sym, ap, subst, arith}
use Rattle.std.proofs.lemmas.List.{append-nil, append_assoc, length-append}
use Rattle.stored_types.specs.declared.hand.Hand.{Hand}
use Rattle.stored_types.specs.declared.queue.Queue.{Queue}
use Rattle.queue_broker.specs.Broker.{BrokerView, HaveQueues}
use Rattle.queue_broker.proofs.Calls.{none_of, same_fields}
use Rattle.queue_broker.proofs.broker.Broker.push_hands.Goals as goal

pub push_hand-requires-clause-room : goal.push_hand-requires-clause-room
push_hand-requires-clause-room c =
    let rest = c.hands.hand-iterator.rest.items in
    omega (arith, c.requires.room, ap length c.hands.invariant.2, length-append c.hands.self.hands rest, length-append c.args.self.now.hands c.args.hands.items, ap length c.in-Some.ensures.steps.0, c.hands.invariant.7)

pub push_hand-requires-clause-spare : goal.push_hand-requires-clause-spare
push_hand-requires-clause-spare c = omega (arith, c.requires.spare, c.hands.invariant.4, ap length c.in-Some.ensures.steps.0)

pub push_hand-requires-clause-few : goal.push_hand-requires-clause-few
push_hand-requires-clause-few c = omega (arith, c.requires.few, c.hands.invariant.5, ap length c.in-Some.ensures.steps.0)

pub push_hand-requires-clause-queue : goal.push_hand-requires-clause-queue
push_hand-requires-clause-queue c = (subst (λ (hs : List Hand). HaveQueues c.hands.self.queues hs) c.in-Some.ensures.steps.0 c.hands.invariant.8).0

pub hands-preserved : goal.hands-preserved
hands-preserved c =
    let steps = c.in-Some.ensures.steps.0 in
    let rest = c.next.new.self.rest.items in
    let is = c.push_hand.ensures in (
      tt,
      tt,
      ap (λ (v : BrokerView). v.hands ++ rest) is ∙ append_assoc c.hands.self.hands (c.in-Some.hand ∷ []) rest ∙ ap (λ (hs : List Hand). c.hands.self.hands ++ hs) (sym steps) ∙ c.hands.invariant.2,
      ap (λ (v : BrokerView). v.queues) is ∙ c.hands.invariant.3,
      omega (arith, c.requires.spare, c.hands.invariant.4, ap length steps, ap (λ (v : BrokerView). v.spare) is),
      omega (arith, c.hands.invariant.5, ap length steps, ap (λ (v : BrokerView). v.pushed) is),
      ap (λ (v : BrokerView). v.queue_room) is ∙ c.hands.invariant.6,
      ap (λ (v : BrokerView). v.hand_room) is ∙ c.hands.invariant.7,
      subst (λ (qs : List Queue). HaveQueues qs rest) (sym (ap (λ (v : BrokerView). v.queues) is)) (subst (λ (hs : List Hand). HaveQueues c.hands.self.queues hs) steps c.hands.invariant.8).1,
    )

pub returns : goal.returns
returns c =
    let old = c.args.self.now in
    let all = c.args.hands.items in
    let none : c.hands.hand-iterator.rest.items ≡ [] = none_of c.hands.hand-iterator.rest.items (omega (arith, c.in-None.ensures.steps.0, c.hands.hand-iterator.rest.ok.0)) in
    same_fields c.hands.self (record old { hands = old.hands ++ all; spare = old.spare - length all; pushed = old.pushed + length all })
    c.hands.invariant.3
    (sym (append-nil c.hands.self.hands) ∙ ap (λ (hs : List Hand). c.hands.self.hands ++ hs) (sym none) ∙ c.hands.invariant.2)
    (omega (arith, c.hands.invariant.4, ap length none))
    c.hands.invariant.6
    c.hands.invariant.7
    (omega (arith, c.hands.invariant.5, ap length none))
