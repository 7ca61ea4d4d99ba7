use Rattle.std.proofs.Common.{◌≡◌}
use Rattle.book_lock.specs.Seats.{knows, opening, IsSeatOf}
use Rattle.bot_runner.specs.Parts.{IsAtWork}
use Rattle.bot_runner.proofs.instance_part.instance_part.Given as goal

abbrev pub invariant-acts : goal.invariant-acts
invariant-acts g l =
    (goal.iterator-acts g).can_next l.iterator' × (goal.iterator-acts g).is_finite l.iterator'
    × IsSeatOf l.fn.lock l.seat × ((knows l.seat).parts ≡ (knows l.fn.seat).parts)
    × IsAtWork g.R.Rules.meaning g.R.Rules.task_of (g.C.Clock.told l.fn.outside.clock.now) l.fn.outside.left (opening l.fn.lock).opening l.fn.bot l.fn.number (knows l.seat) l.work.worker l.work.done
