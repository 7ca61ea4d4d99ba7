use Rattle.std.proofs.Common.{ap, subst, arith}
use Rattle.base_types.specs.Name.{queue_name}
use Rattle.stored_types.specs.Queue.{queued}
use Rattle.queue_broker.specs.Broker.{IsTaken}
use Rattle.core_state.specs.State.{state_of}
use Rattle.ack_steps.proofs.Taken.{taken_first_is, taken_pushed}
use Rattle.ack_steps.proofs.acts.take.Goals as goal

pub returns-in-Ok-clause-ok : goal.returns-in-Ok-clause-ok
returns-in-Ok-clause-ok c =
    let b = state_of c.args.state.now in
    let bot = c.args.bot.now in
    let same = c.in_ok-make_hand_room.ensures.same in
    let messages = ap (queued (queue_name bot)) same.queues in
    taken_first_is b bot c.args.instance c.args.now (queued (queue_name bot) b.queues) c.make_hand_room.new.broker c.take.new.self same.queues same.hands
    (subst (λ l. IsTaken bot c.args.instance c.args.now l c.make_hand_room.new.broker c.take.new.self) messages c.in-Ok.ensures.taken)

pub returns-in-Ok-clause-pushed : goal.returns-in-Ok-clause-pushed
returns-in-Ok-clause-pushed c =
    let bot = c.args.bot.now in
    let broker = c.make_hand_room.new.broker in
    let same = taken_pushed bot c.args.instance c.args.now (queued (queue_name bot) broker.queues) broker c.take.new.self c.in-Ok.ensures.taken in
    omega (arith, same, c.in_ok-make_hand_room.ensures.same.pushed)
