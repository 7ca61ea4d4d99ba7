use Rattle.store_image.proofs.Damaged.{damaged_in_one_place}
use Rattle.store_image.proofs.laws.a_store_is_damaged_at_one_place.Goals as goal

pub returns : goal.returns
returns c = damaged_in_one_place
