use Rattle.store_image.proofs.Whole.{history_is_one}
use Rattle.store_image.proofs.laws.what_is_held_is_one.Goals as goal

pub returns : goal.returns
returns c = history_is_one
