use Rattle.expert_rules.proofs.Modified.{present_stays}
use Rattle.expert_rules.proofs.laws.present_fields_stay.Goals as goal

pub returns : goal.returns
returns c = λ rules most fields key v there. present_stays key v rules most fields there
