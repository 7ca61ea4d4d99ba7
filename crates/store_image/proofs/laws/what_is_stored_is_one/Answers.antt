use Rattle.store_image.proofs.Stored.{stored_is_one}
use Rattle.store_image.proofs.laws.what_is_stored_is_one.Goals as goal

pub returns : goal.returns
returns c = stored_is_one
