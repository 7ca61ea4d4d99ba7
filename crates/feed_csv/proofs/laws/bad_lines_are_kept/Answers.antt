use Rattle.feed_csv.proofs.Lines.{bad_is_kept}
use Rattle.feed_csv.proofs.laws.bad_lines_are_kept.Goals as goal

pub returns : goal.returns
returns c = bad_is_kept
