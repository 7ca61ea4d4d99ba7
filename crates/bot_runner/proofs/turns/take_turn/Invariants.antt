use Rattle.std.proofs.Common.{◌≡◌}
use Rattle.book_lock.specs.Seats.{knows, IsSeatOf}
use Rattle.bot_runner.proofs.turns.take_turn.Given as goal

abbrev pub invariant-tries : goal.invariant-tries
invariant-tries g l =
    (goal.iterator-tries g).can_next l.iterator' × (goal.iterator-tries g).is_finite l.iterator'
    × IsSeatOf l.fn.lock l.seat × (knows l.seat ≡ knows l.fn.seat)
