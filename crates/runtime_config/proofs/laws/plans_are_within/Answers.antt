use Rattle.runtime_config.proofs.Ordered.{plans_are_within}
use Rattle.runtime_config.proofs.laws.plans_are_within.Goals as goal

pub returns : goal.returns
returns c = plans_are_within
