use Rattle.std.proofs.Common.{◌≡◌}
use Rattle.book_lock.specs.Seats.{knows, opening, IsSeatOf}
use Rattle.collector_feeds.specs.Open.{GoesOn}
use Rattle.bot_runner.specs.Parts.{IsWaiting}
use Rattle.bot_runner.proofs.caller_part.caller_part.Given as goal

abbrev pub invariant-looks : goal.invariant-looks
invariant-looks g l =
    (goal.iterator-looks g).can_next l.iterator' × (goal.iterator-looks g).is_finite l.iterator'
    × IsSeatOf l.fn.lock l.seat × ((knows l.seat).parts ≡ (knows l.fn.seat).parts) × IsWaiting g.R.Rules.meaning (opening l.fn.lock).opening (knows l.seat)
    × GoesOn (g.K.Source.source l.initial.control) (g.K.Source.source l.control)
