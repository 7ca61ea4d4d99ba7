use Rattle.feed_rows.proofs.Gaps.{filled_gets}
use Rattle.feed_rows.proofs.laws.defaults_fill_gaps.Goals as goal

pub returns : goal.returns
returns c = filled_gets
