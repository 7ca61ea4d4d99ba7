use Rattle.store_image.proofs.Either.{opens_or_damaged}
use Rattle.store_image.proofs.laws.a_store_opens_or_is_damaged.Goals as goal

pub returns : goal.returns
returns c = opens_or_damaged
