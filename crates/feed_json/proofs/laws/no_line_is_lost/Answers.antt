use Rattle.feed_json.proofs.AllLines.{none_lost}
use Rattle.feed_json.proofs.laws.no_line_is_lost.Goals as goal

pub returns : goal.returns
returns c = none_lost
