use Rattle.store_image.proofs.Renewed.{seals_whole}
use Rattle.store_image.proofs.sealing.sealing_all_is_sealing.Goals as goal

pub returns : goal.returns
returns c = seals_whole
