use Rattle.feed_json.proofs.Items.{none_lost}
use Rattle.feed_json.proofs.laws.no_item_is_lost.Goals as goal

pub returns : goal.returns
returns c = none_lost
