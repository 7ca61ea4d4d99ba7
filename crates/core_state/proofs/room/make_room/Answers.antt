use Rattle.core_state.proofs.Places.{room_made}
use Rattle.core_state.proofs.Seen.{ok_follows}
use Rattle.core_state.proofs.room.make_room.Goals as goal

pub returns-clause-room : goal.returns-clause-room
returns-clause-room c =
    let queues = c.absent_queues-queues in
    ok_follows c.reserve_count.result (room_made c.args.sends.now queues.result c.args.broker.now c.reserve_count.new.self queues.ensures) c.reserve_count.ensures.ok
