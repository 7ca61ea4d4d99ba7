use Rattle.std.proofs.Common.{subst}
use Rattle.base_types.specs.Lists.{AreBytes}
use Rattle.collector_feeds.proofs.open_feed.within_limit.Goals as goal

pub returns-else-cut-gt-LONGEST_FEED-clause-ahead : goal.returns-else-cut-gt-LONGEST_FEED-clause-ahead
returns-else-cut-gt-LONGEST_FEED-clause-ahead c = λ at more. (record { some = more.0; limit = c.if-cut-gt-LONGEST_FEED.false }, subst AreBytes c.bytes.ensures c.are_bytes.ensures, more.1)
