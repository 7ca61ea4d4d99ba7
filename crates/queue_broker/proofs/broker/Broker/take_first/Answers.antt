use Rattle.std.proofs.Common.{◌≡◌, ◌≤◌, [], length, position, Some, refl, subst}
use Rattle.base_types.specs.Name.{queue_name}
use Rattle.base_types.proofs.Found.{first_at}
use Rattle.stored_types.specs.Queue.{is_queue, queued}
use Rattle.queue_broker.proofs.Calls.{queued_placed, taken_first}
use Rattle.queue_broker.proofs.There.{placed_there}
use Rattle.queue_broker.proofs.broker.Broker.take_first.Goals as goal

pub returns-in_default-clause-fault : goal.returns-in_default-clause-fault
returns-in_default-clause-fault c = (refl, subst (λ n. queued n c.args.self.now.queues ≡ []) c.queue_of-queue.ensures c.in_default.ensures.none)

pub take_at-requires-clause-there : goal.take_at-requires-clause-there
take_at-requires-clause-there c = (first_at (is_queue c.queue_of-queue.result) c.args.self.now.queues c.in-Some.i c.in-Some.ensures.place).inside

pub take_at-requires-clause-some : goal.take_at-requires-clause-some
take_at-requires-clause-some c = λ q at.
    subst (λ ms. 1 ≤ length ms) (queued_placed c.queue_of-queue.result c.args.self.now.queues c.in-Some.i q c.in-Some.ensures.place at) c.in-Some.ensures.some

pub take_at-requires-clause-queue : goal.take_at-requires-clause-queue
take_at-requires-clause-queue c =
    let place = subst (λ n. position (is_queue n) c.args.self.now.queues ≡ Some c.in-Some.i) c.queue_of-queue.ensures c.in-Some.ensures.place in
    placed_there (queue_name c.args.bot.now) c.args.self.now.queues c.in-Some.i place

pub returns-clause-taken : goal.returns-clause-taken
returns-clause-taken c =
    let place = subst (λ n. position (is_queue n) c.args.self.now.queues ≡ Some c.in-Some.i) c.queue_of-queue.ensures c.in-Some.ensures.place in
    let some = subst (λ n. 1 ≤ length (queued n c.args.self.now.queues)) c.queue_of-queue.ensures c.in-Some.ensures.some in
    taken_first c.args.self.now c.take_at.new.self c.args.bot.now c.args.instance c.args.now c.in-Some.i place some c.take_at.ensures
