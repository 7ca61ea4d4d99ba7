use Rattle.expert_rules.proofs.Unions.{get-union}
use Rattle.expert_rules.proofs.laws.union_is_of_both.Goals as goal

pub returns : goal.returns
returns c = get-union
