use Rattle.std.proofs.Common.{length}
use Rattle.tests_drains.proofs.stores.+drain_all.Given as goal

abbrev pub decreases-drain_all : goal.decreases-drain_all
decreases-drain_all g l = length l.bounds.now
