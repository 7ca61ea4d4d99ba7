use Rattle.std.proofs.Common.{length}
use Rattle.tests_runs.proofs.forty.+play_all.Given as goal

abbrev pub decreases-play_all : goal.decreases-play_all
decreases-play_all g l = length l.parts.now
