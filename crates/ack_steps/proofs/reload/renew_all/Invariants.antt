use Rattle.std.proofs.Common.{◌≡◌}
use Rattle.step_code.specs.After.{renewed}
use Rattle.core_state.proofs.Halves.{half}
use Rattle.ack_steps.proofs.reload.renew_all.Given as goal

abbrev pub invariant-feeds : goal.invariant-feeds
invariant-feeds l = l.feed-items ≡ half (renewed l.fn.old l.fn.new) l.feed-index l.fn.feeds.items
