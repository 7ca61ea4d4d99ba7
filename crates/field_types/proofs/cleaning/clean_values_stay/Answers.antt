use Rattle.field_types.proofs.CleanedTwice.{cleaned_stays}
use Rattle.field_types.proofs.cleaning.clean_values_stay.Goals as goal

pub returns : goal.returns
returns c = λ u v h. cleaned_stays c.args.field_type u v h
