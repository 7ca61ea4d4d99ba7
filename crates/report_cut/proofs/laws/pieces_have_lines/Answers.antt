use Rattle.report_cut.proofs.PieceLines.{have_lines}
use Rattle.report_cut.proofs.laws.pieces_have_lines.Goals as goal

pub returns : goal.returns
returns c = have_lines
