use Rattle.std.proofs.Common.{◌≡◌, ◌≤◌}
use Rattle.book_lock.specs.Seats.{knows, opening, IsSeatOf}
use Rattle.collector_feeds.specs.Open.{GoesOn}
use Rattle.bot_runner.specs.Feeds.{IsAtFeed}
use Rattle.bot_runner.specs.Round.{CountedFailures}
use Rattle.bot_runner.proofs.collector_part.collector_part.Given as goal

abbrev pub invariant-looks : goal.invariant-looks
invariant-looks g l =
    (goal.iterator-looks g).can_next l.iterator' × (goal.iterator-looks g).is_finite l.iterator'
    × IsSeatOf l.fn.lock l.seat × ((knows l.seat).parts ≡ (knows l.fn.seat).parts)
    × GoesOn (g.S.Source.source l.fn.feed.source) l.read × (l.fn.feed.failed ≤ l.reading.failed) × CountedFailures l.fn.feed.failed (g.S.Source.source l.fn.feed.source).faults l.reading.failed l.read.faults
    × IsAtFeed g.R.Rules.meaning (g.C.Clock.told l.fn.outside.clock.now) l.fn.outside.left (opening l.fn.lock).opening (g.S.Source.source l.fn.feed.source).told l.fn.bot l.fn.feed.file (knows l.seat) l.reading
