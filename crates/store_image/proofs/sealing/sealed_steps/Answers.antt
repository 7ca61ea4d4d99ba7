use Rattle.store_image.proofs.Histories.{same_steps}
use Rattle.store_image.proofs.sealing.sealed_steps.Goals as goal

pub returns : goal.returns
returns c = same_steps
