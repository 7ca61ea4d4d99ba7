use Rattle.report_cut.proofs.Longest.{longest_run}
use Rattle.report_cut.proofs.laws.runs_are_longest.Goals as goal

pub returns : goal.returns
returns c = longest_run
