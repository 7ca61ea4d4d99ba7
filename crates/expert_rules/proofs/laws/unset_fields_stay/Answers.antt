use Rattle.expert_rules.proofs.Modified.{unset_stays}
use Rattle.expert_rules.proofs.laws.unset_fields_stay.Goals as goal

pub returns : goal.returns
returns c = λ rules overwrite most fields key unset. unset_stays overwrite key rules most fields unset
