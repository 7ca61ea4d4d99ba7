use Rattle.std.proofs.Common.{◌≡◌, ◌++◌, length, take, vec_capacity}
use Rattle.ack_steps.specs.Entries.{new_feeds}
use Rattle.ack_steps.proofs.reload.add_feeds.Given as goal

abbrev pub invariant-bots : goal.invariant-bots
invariant-bots l =
    (l.feeds.items ≡ l.fn.feeds.items ++ new_feeds (take l.facts-index l.fn.bots) l.fn.feeds.items) × (vec_capacity l.feeds ≡ vec_capacity l.fn.feeds) × (l.count ≡ length l.fn.feeds.items)
