use Rattle.store_image.proofs.Histories.{same_spent}
use Rattle.store_image.proofs.sealing.sealing_keeps_what_is_spent.Goals as goal

pub returns : goal.returns
returns c = same_spent
