use Rattle.report_cut.proofs.Calls.{hand_out_all}
use Rattle.report_cut.proofs.laws.any_slices.Goals as goal

pub returns : goal.returns
returns c = hand_out_all
