use Rattle.expert_rules.proofs.Types.{type_taxonomy}
use Rattle.expert_rules.proofs.laws.type_has_a_taxonomy.Goals as goal

pub returns : goal.returns
returns c = type_taxonomy c.args.class.now
