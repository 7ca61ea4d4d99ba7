use Rattle.runtime_config.proofs.ReadAs.{given_is, is_given}
use Rattle.runtime_config.proofs.laws.sieves_are_given.Goals as goal

pub returns : goal.returns
returns c = λ text given. (is_given text given, given_is text given)
