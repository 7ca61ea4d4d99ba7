use Rattle.std.proofs.Common.{length, true≢false, refl, sym, ap, arith}
use Rattle.queue_broker.proofs.More.{more_none, room_kept}
use Rattle.queue_broker.proofs.lists.make_lists.Goals as goal

pub returns-in_err-make_cells-clause-more : goal.returns-in_err-make_cells-clause-more
returns-in_err-make_cells-clause-more c = more_none c.args.links.now c.args.free.now.items

pub returns-in_err-make_cells-clause-kept : goal.returns-in_err-make_cells-clause-kept
returns-in_err-make_cells-clause-kept c = λ queue_room hand_room old.
    room_kept c.args.links.now c.args.links.now c.args.queues.now c.make_cells.new.items c.args.hands.now c.args.hands.now c.args.free.now c.args.free.now queue_room hand_room
    c.in_err-make_cells.ensures.same refl (omega arith) c.in_err-make_cells.ensures.more (omega arith) c.requires.free old

pub returns-in_err-make_cells-clause-succeeds : goal.returns-in_err-make_cells-clause-succeeds
returns-in_err-make_cells-clause-succeeds c = λ room. absurd (true≢false (sym (c.in_err-make_cells.ensures.succeeds room.queue_cells)))

pub returns-in_err-make_cells-2-clause-more : goal.returns-in_err-make_cells-2-clause-more
returns-in_err-make_cells-2-clause-more c = more_none c.args.links.now c.args.free.now.items

pub returns-in_err-make_cells-2-clause-kept : goal.returns-in_err-make_cells-2-clause-kept
returns-in_err-make_cells-2-clause-kept c = λ queue_room hand_room old.
    room_kept c.args.links.now c.args.links.now c.args.queues.now c.make_cells.new.items c.args.hands.now c.make_cells-2.new.items c.args.free.now c.args.free.now queue_room hand_room
    c.in_ok-make_cells.ensures.same c.in_err-make_cells-2.ensures.same (omega arith) c.in_ok-make_cells.ensures.more c.in_err-make_cells-2.ensures.more (omega (arith, c.requires.free, ap length c.in_err-make_cells-2.ensures.same)) old

pub returns-in_err-make_cells-2-clause-succeeds : goal.returns-in_err-make_cells-2-clause-succeeds
returns-in_err-make_cells-2-clause-succeeds c = λ room. absurd (true≢false (sym (c.in_err-make_cells-2.ensures.succeeds room.hand_cells)))

pub overflow_add-lists : goal.overflow_add-lists
overflow_add-lists c = omega (arith, c.in_ok-make_cells.ensures.ok, c.make_cells.new.items.small, c.in_ok-make_cells-2.ensures.ok, c.make_cells-2.new.items.small)

pub grow-requires-clause-few : goal.grow-requires-clause-few
grow-requires-clause-few c = omega (arith, c.len-full.ensures, c.make_cells-2.new.items.ok.1, c.make_cells-2.new.items.small)

pub grow-requires-clause-room : goal.grow-requires-clause-room
grow-requires-clause-room c = omega (arith, c.requires.free, c.len-full.ensures, c.make_cells-2.new.items.ok.0, ap length c.in_ok-make_cells-2.ensures.same)

pub returns-in_err-grow-clause-kept : goal.returns-in_err-grow-clause-kept
returns-in_err-grow-clause-kept c = λ queue_room hand_room old.
    room_kept c.args.links.now c.grow.new.links c.args.queues.now c.make_cells.new.items c.args.hands.now c.make_cells-2.new.items c.args.free.now c.grow.new.free queue_room hand_room
    c.in_ok-make_cells.ensures.same c.in_ok-make_cells-2.ensures.same c.in_err-grow.ensures.longer c.in_ok-make_cells.ensures.more c.in_ok-make_cells-2.ensures.more
    (omega (arith, c.in_err-grow.ensures.room, c.len-full.ensures, c.make_cells-2.new.items.ok.0)) old

pub returns-in_err-grow-clause-succeeds : goal.returns-in_err-grow-clause-succeeds
returns-in_err-grow-clause-succeeds c = λ room. absurd (true≢false (sym (c.in_err-grow.ensures.succeeds room.lists)))

pub returns-clause-kept : goal.returns-clause-kept
returns-clause-kept c = λ queue_room hand_room old.
    room_kept c.args.links.now c.grow.new.links c.args.queues.now c.make_cells.new.items c.args.hands.now c.make_cells-2.new.items c.args.free.now c.grow.new.free queue_room hand_room
    c.in_ok-make_cells.ensures.same c.in_ok-make_cells-2.ensures.same c.in_ok-grow.ensures.longer c.in_ok-make_cells.ensures.more c.in_ok-make_cells-2.ensures.more
    (omega (arith, c.in_ok-grow.ensures.room, c.len-full.ensures, c.make_cells-2.new.items.ok.0)) old

pub returns-clause-ok : goal.returns-clause-ok
returns-clause-ok c = record {
  queue_count = omega (arith, c.requires.queues, ap length c.in_ok-make_cells.ensures.same);
  hand_count = omega (arith, c.requires.hands, ap length c.in_ok-make_cells-2.ensures.same);
  lists = c.in_ok-grow.ensures.ok;
  queue_cells = c.in_ok-make_cells.ensures.ok;
  hand_cells = c.in_ok-make_cells-2.ensures.ok;
  free_cells = omega (arith, c.in_ok-grow.ensures.room, c.len-full.ensures, c.make_cells-2.new.items.ok.0);
}
