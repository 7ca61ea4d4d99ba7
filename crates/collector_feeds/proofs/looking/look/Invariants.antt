use Rattle.std.proofs.Common.{◌+◌, ◌-◌}
use Rattle.collector_feeds.proofs.Trying.{Tries}
use Rattle.collector_feeds.proofs.looking.look.Given as goal

abbrev pub invariant-tries : goal.invariant-tries
invariant-tries g l = Tries (g.H.Shelf.shelf l.initial.shelf) (g.H.Shelf.shelf l.shelf) l.initial.feed l.feed

abbrev pub decreases-tries : goal.decreases-tries
decreases-tries g l = l.feed.retries + 1 - l.feed.failed
