use Rattle.std.proofs.Common.{◌≡◌, ◌+◌, ◌-◌, ◌++◌, ◌∙◌, [], ◌∷◌, List, length, sym, ap, arith}
use Rattle.std.proofs.lemmas.List.{append-nil, append_assoc, length-append}
use Rattle.std.proofs.lemmas.List.Sums.{sum_by-cons}
use Rattle.stored_types.specs.declared.queue.Queue.{Queue}
use Rattle.queue_broker.specs.Broker.{BrokerView, total}
use Rattle.queue_broker.proofs.Calls.{none_of, same_fields}
use Rattle.queue_broker.proofs.broker.Broker.push_queues.Goals as goal

pub push_whole-requires-clause-room : goal.push_whole-requires-clause-room
push_whole-requires-clause-room c =
    let rest = c.queues.queue-iterator.rest.items in
    omega (arith, c.requires.room, ap length c.queues.invariant.2, length-append c.queues.self.queues rest, length-append c.args.self.now.queues c.args.queues.items, ap length c.in-Some.ensures.steps.0, c.queues.invariant.6)

pub push_whole-requires-clause-spare : goal.push_whole-requires-clause-spare
push_whole-requires-clause-spare c = omega (arith, c.requires.spare, c.queues.invariant.4, ap total c.in-Some.ensures.steps.0, sum_by-cons (λ (q : Queue). length q.messages) c.in-Some.queue c.next.new.self.rest.items)

pub push_whole-requires-clause-few : goal.push_whole-requires-clause-few
push_whole-requires-clause-few c = omega (arith, c.requires.few, c.queues.invariant.5, ap total c.in-Some.ensures.steps.0, sum_by-cons (λ (q : Queue). length q.messages) c.in-Some.queue c.next.new.self.rest.items)

pub queues-preserved : goal.queues-preserved
queues-preserved c =
    let steps = c.in-Some.ensures.steps.0 in
    let rest = c.next.new.self.rest.items in
    let is = c.push_whole.ensures in
    let sum = sum_by-cons (λ (q : Queue). length q.messages) c.in-Some.queue rest in (
      tt,
      tt,
      ap (λ (v : BrokerView). v.queues ++ rest) is ∙ append_assoc c.queues.self.queues (c.in-Some.queue ∷ []) rest ∙ ap (λ (qs : List Queue). c.queues.self.queues ++ qs) (sym steps) ∙ c.queues.invariant.2,
      ap (λ (v : BrokerView). v.hands) is ∙ c.queues.invariant.3,
      omega (arith, c.requires.spare, c.queues.invariant.4, ap total steps, sum, ap (λ (v : BrokerView). v.spare) is),
      omega (arith, c.queues.invariant.5, ap total steps, sum, ap (λ (v : BrokerView). v.pushed) is),
      ap (λ (v : BrokerView). v.queue_room) is ∙ c.queues.invariant.6,
      ap (λ (v : BrokerView). v.hand_room) is ∙ c.queues.invariant.7,
    )

pub returns : goal.returns
returns c =
    let old = c.args.self.now in
    let all = c.args.queues.items in
    let none : c.queues.queue-iterator.rest.items ≡ [] = none_of c.queues.queue-iterator.rest.items (omega (arith, c.in-None.ensures.steps.0, c.queues.queue-iterator.rest.ok.0)) in
    same_fields c.queues.self (record old { queues = old.queues ++ all; spare = old.spare - total all; pushed = old.pushed + total all })
    (sym (append-nil c.queues.self.queues) ∙ ap (λ (qs : List Queue). c.queues.self.queues ++ qs) (sym none) ∙ c.queues.invariant.2)
    c.queues.invariant.3
    (omega (arith, c.queues.invariant.4, ap total none))
    c.queues.invariant.6
    c.queues.invariant.7
    (omega (arith, c.queues.invariant.5, ap total none))
