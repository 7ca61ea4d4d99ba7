use Rattle.std.proofs.Common.{not, ap}
use Rattle.core_state.proofs.Places.{has_queue_is}
use Rattle.core_state.proofs.room.is_absent.Goals as goal

pub returns : goal.returns
returns c = ap not (has_queue_is c.has_queue.result c.args.queue.now c.args.broker.now.queues c.has_queue.ensures)
