use Rattle.std.proofs.Common.{◌≡◌, map, filter, take}
use Rattle.step_code.specs.Rules.{collects}
use Rattle.step_code.specs.State.{new_feed}
use Rattle.generation_reading.proofs.new_store.first_feeds.Given as goal

abbrev pub invariant-bots : goal.invariant-bots
invariant-bots l = l.feeds ≡ map new_feed (filter collects (take l.facts-index l.fn.bots))
