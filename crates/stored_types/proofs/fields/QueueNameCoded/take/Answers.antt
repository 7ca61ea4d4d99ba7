use Rattle.std.specs.Int.{w16}
use Rattle.stored_types.specs.Code.{framed_at, is_queue_name, queue_at}
use Rattle.stored_types.proofs.Readers.{tested_yes, tested_no}
use Rattle.stored_types.proofs.FieldLaws.{queue_test, queue_no_test}
use Rattle.stored_types.proofs.fields.QueueNameCoded.take.Goals as goal

pub returns-in-Ok : goal.returns-in-Ok
unfolding queue_at
returns-in-Ok c = rw c.in-Ok.ensures.0 (tested_yes is_queue_name (framed_at w16) _ _ _ c.in_ok-front.ensures (queue_test _ c.in-Ok.ensures.1))

pub returns-in-Err : goal.returns-in-Err
unfolding queue_at
returns-in-Err c = tested_no is_queue_name (framed_at w16) _ _ _ c.in_ok-front.ensures (queue_no_test _ c.in-Err.ensures)
