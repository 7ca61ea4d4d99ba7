use Rattle.std.proofs.Common.{length}
use Rattle.tests_book_fixtures.proofs.recount.+behind.Given as goal

abbrev pub decreases-behind : goal.decreases-behind
decreases-behind l = length l.steps.now
