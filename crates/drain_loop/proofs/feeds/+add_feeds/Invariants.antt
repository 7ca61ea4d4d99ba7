use Rattle.std.proofs.Common.{length}
use Rattle.drain_loop.proofs.feeds.+add_feeds.Given as goal

abbrev pub decreases-add_feeds : goal.decreases-add_feeds
decreases-add_feeds g l = length l.bots.now
