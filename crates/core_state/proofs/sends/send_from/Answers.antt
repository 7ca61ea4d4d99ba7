use Rattle.std.proofs.Common.{◌≡◌, ◌+◌, ◌≤◌, ℕ, suc, List, ◌∷◌, sym, ◌∙◌, ap, arith, length}
use Rattle.stored_types.specs.Queue.{put_all}
use Rattle.queue_broker.specs.Broker.{BrokerView}
use Rattle.core_state.proofs.Places.{first_placed}
use Rattle.core_state.proofs.sends.send_from.Goals as goal

pub send-requires-clause-spare : goal.send-requires-clause-spare
send-requires-clause-spare c = omega (arith, ap length c.in-Some.ensures.steps.0, c.sends.invariant.5)

pub send-requires-clause-few : goal.send-requires-clause-few
send-requires-clause-few c = omega (arith, ap length c.in-Some.ensures.steps.0, c.sends.invariant.7, c.requires.few)

pub send-requires-clause-place : goal.send-requires-clause-place
send-requires-clause-place c =
    let send : List ℕ × List ℕ = (c.in-Some.queue, c.in-Some.body) in
    let rest = c.next.new.self.rest.items in
    let queues = c.sends.broker.queues in
    let whole = ap (λ l. length (put_all c.sends.no l queues)) (sym c.in-Some.ensures.steps.0) ∙ ap length c.sends.invariant.2 in
    let room : length (put_all c.sends.no (send ∷ rest) queues) ≤ c.sends.broker.queue_room = omega (arith, whole, c.sends.invariant.6, c.requires.room.places c.args.next) in
    first_placed c.sends.no c.sends.broker.queue_room send rest queues room

pub sends-preserved : goal.sends-preserved
sends-preserved c =
    let rest = c.next.new.self.rest.items in
    let steps = c.in-Some.ensures.steps.0 in
    let fewer = ap length steps in
    let next : c.sends.no + 1 ≡ suc c.sends.no = omega arith in (
      tt,
      tt,
      (λ i. put_all (next i) rest (c.send.ensures i).queues) ∙ ap (λ l. put_all c.sends.no l c.sends.broker.queues) (sym steps) ∙ c.sends.invariant.2,
      omega (arith, c.sends.invariant.3, fewer),
      ap (λ (v : BrokerView). v.hands) c.send.ensures ∙ c.sends.invariant.4,
      omega (arith, c.sends.invariant.5, fewer, ap (λ (v : BrokerView). v.spare) c.send.ensures),
      ap (λ (v : BrokerView). v.queue_room) c.send.ensures ∙ c.sends.invariant.6,
      omega (arith, c.sends.invariant.7, fewer, ap (λ (v : BrokerView). v.pushed) c.send.ensures),
    )
