use Rattle.store_image.proofs.Histories.{seal_kept}
use Rattle.store_image.proofs.sealing.sealing_is_kept.Goals as goal

pub returns : goal.returns
returns c = seal_kept
