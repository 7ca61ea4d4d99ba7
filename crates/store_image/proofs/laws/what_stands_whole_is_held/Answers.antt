use Rattle.store_image.proofs.Whole.{whole_history}
use Rattle.store_image.proofs.laws.what_stands_whole_is_held.Goals as goal

pub returns : goal.returns
returns c = whole_history
