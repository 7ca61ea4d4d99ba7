use Rattle.expert_rules.proofs.Sources.{source_address}
use Rattle.expert_rules.proofs.laws.source_is_an_address.Goals as goal

pub returns : goal.returns
returns c = source_address c.args.source.now
