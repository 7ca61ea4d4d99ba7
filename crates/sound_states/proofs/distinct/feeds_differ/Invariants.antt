use Rattle.std.proofs.Common.{◌≡◌, map, take}
use Rattle.sound_states.proofs.distinct.feeds_differ.Given as goal

abbrev pub invariant-feeds : goal.invariant-feeds
invariant-feeds l = map (λ name. name.now) l.names.items ≡ map (λ f. f.bot) (take l.feed-index l.feeds)
