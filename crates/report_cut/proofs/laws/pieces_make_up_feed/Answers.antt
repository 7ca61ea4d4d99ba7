use Rattle.report_cut.proofs.Joined.{make_up}
use Rattle.report_cut.proofs.laws.pieces_make_up_feed.Goals as goal

pub returns : goal.returns
returns c = make_up
