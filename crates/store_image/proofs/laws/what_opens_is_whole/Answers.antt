use Rattle.store_image.proofs.Damaged.{opens_whole}
use Rattle.store_image.proofs.laws.what_opens_is_whole.Goals as goal

pub returns : goal.returns
returns c = opens_whole
