use Rattle.runtime_config.proofs.Numbers.{number_within}
use Rattle.runtime_config.proofs.laws.numbers_are_within.Goals as goal

pub returns : goal.returns
returns c = number_within
