use Rattle.runtime_text.proofs.Reached.{all_reached, reached}
use Rattle.runtime_text.proofs.laws.reaching_is_tested.Goals as goal

pub returns : goal.returns
returns c = λ bots from to. (reached bots from to, all_reached bots to from)
