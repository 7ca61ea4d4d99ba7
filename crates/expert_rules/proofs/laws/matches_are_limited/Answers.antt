use Rattle.expert_rules.proofs.Modified.{few_match}
use Rattle.expert_rules.proofs.laws.matches_are_limited.Goals as goal

pub returns : goal.returns
returns c = few_match
