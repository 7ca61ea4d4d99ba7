use Rattle.store_image.proofs.Renewed.{stands_renewed}
use Rattle.store_image.proofs.sealing.what_is_renewed_stands.Goals as goal

pub returns : goal.returns
returns c = stands_renewed
