use Rattle.std.proofs.Common.{◌++◌, List, filter, map, ap}
use Rattle.step_code.specs.Rules.{collects}
use Rattle.collector_feeds.specs.Standing.{FeedView}
use Rattle.drain_loop.specs.Feeds.{key_of_bot, key_of_feed}
use Rattle.drain_loop.proofs.feeds.+add_feeds.Goals as goal

pub returns-in-Err-clause-added : goal.returns-in-Err-clause-added
returns-in-Err-clause-added g t c =
    let rest = map key_of_bot (filter collects c.args.bots.now) in
    record { rest = rest; are = ap (λ (fs : List FeedView). map key_of_feed fs ++ rest) c.in-Err.ensures.none; all = tt }
