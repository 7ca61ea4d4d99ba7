use Rattle.field_types.proofs.CleanedTwice.{cleaned_stays}
use Rattle.expert_modify.proofs.reading.taken_by.Goals as goal

pub returns-in-Ok-clause-canonical : goal.returns-in-Ok-clause-canonical
returns-in-Ok-clause-canonical c = cleaned_stays c.args.kind c.args.value c.in-Ok.value c.in-Ok.ensures
