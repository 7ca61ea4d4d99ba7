use Rattle.std.proofs.Common.{◌≡◌, ◌+◌, ◌-◌, ◌<◌, ◌≤◌, false, length}
use Rattle.tests_feeds.proofs.tests.cut.Given as goal

-- the cutter has counted no more than what it was fed
abbrev pub invariant-slices : goal.invariant-slices
invariant-slices l = (l.cutter.ended ≡ false) × (l.cutter.at + length l.cutter.held ≤ l.at) × (l.at ≤ length l.feed) × (0 < l.step)

abbrev pub decreases-slices : goal.decreases-slices
decreases-slices l = length l.feed - l.at
