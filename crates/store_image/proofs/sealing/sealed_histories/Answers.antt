use Rattle.store_image.proofs.Histories.{same_histories}
use Rattle.store_image.proofs.sealing.sealed_histories.Goals as goal

pub returns : goal.returns
returns c = same_histories
