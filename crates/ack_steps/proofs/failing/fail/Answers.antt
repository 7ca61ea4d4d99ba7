use Rattle.std.proofs.Common.{ℕ, List, length, ap, subst, arith}
use Rattle.std.proofs.lemmas.List.{length-map}
use Rattle.step_code.specs.declared.base.Base.{Base}
use Rattle.step_code.specs.After.{body_in_hand}
use Rattle.core_state.specs.declared.state.State.{State}
use Rattle.core_state.specs.Room.{HasRoom}
use Rattle.core_state.specs.State.{state_of}
use Rattle.ack_steps.proofs.failing.fail.Goals as goal

pub send_all-requires-clause-room : goal.send_all-requires-clause-room
send_all-requires-clause-room c =
    c.dump_held.ensures.queues c.in_ok-copies.copies.items (subst (λ l. HasRoom l c.make_all_room.new.state.broker) c.deref.ensures.value c.in_ok-make_all_room.ensures.sends)

pub send_all-requires-clause-few : goal.send_all-requires-clause-few
send_all-requires-clause-few c =
    let body = body_in_hand c.args.held.bot c.args.held.instance (state_of c.args.state.now) in
    let to_each : List ℕ → List ℕ × List ℕ = λ queue. (queue, body) in
    omega (arith, c.requires.few, c.make_all_room.ensures.pushed, c.dump_held.ensures.pushed, ap length c.in_ok-copies.ensures, length-map c.args.queues.now to_each)

pub returns-clause-pushed : goal.returns-clause-pushed
returns-clause-pushed c = omega (
  arith,
  c.make_all_room.ensures.pushed,
  ap (λ (b : Base). b.next_message) c.make_all_room.ensures.same,
  c.dump_held.ensures.pushed,
  ap (λ (t : State). t.next_message) c.dump_held.ensures.same,
  c.send_all.ensures.pushed,
  ap (λ (b : Base). b.next_message) c.send_all.ensures.sent,
)

pub returns-in_err-make_all_room-clause-pushed : goal.returns-in_err-make_all_room-clause-pushed
returns-in_err-make_all_room-clause-pushed c = omega (arith, c.make_all_room.ensures.pushed, ap (λ (b : Base). b.next_message) c.make_all_room.ensures.same)
