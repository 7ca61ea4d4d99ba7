use Rattle.std.proofs.Common.{◌≡◌, ◌++◌, take}
use Rattle.std.specs.List.{flat_map}
use Rattle.state_texts.specs.Texts.{feed_line}
use Rattle.state_texts.proofs.state.put_feeds.Given as goal

abbrev pub invariant-feeds : goal.invariant-feeds
invariant-feeds l = l.text ≡ l.fn.text ++ flat_map feed_line (take l.feed-index l.feeds)
