-- Entries that come with another bundle.
use Rattle.std.specs.Prelude.{◌&&◌, not, List, map, filter}
use Rattle.std.specs.List.{list_any}
use Rattle.step_code.specs.declared.feed.Feed.{Feed}
use Rattle.step_code.specs.declared.output.Output.{Output}
use Rattle.step_code.specs.declared.rules.Facts.{Facts}
use Rattle.step_code.specs.Rules.{collects, writes}
use Rattle.step_code.specs.State.{is_feed, is_out, new_feed, new_out}

-- feeds for the collectors that have none among these
abbrev pub new_feeds : List Facts → List Feed → List Feed
new_feeds bots feeds = map new_feed (filter (λ f. collects f && not (list_any (is_feed f.bot) feeds)) bots)

-- outputs for the bots that write and have none among these
abbrev pub new_outs : List Facts → List Output → List Output
new_outs bots outs = map new_out (filter (λ f. writes f && not (list_any (is_out f.bot) outs)) bots)
