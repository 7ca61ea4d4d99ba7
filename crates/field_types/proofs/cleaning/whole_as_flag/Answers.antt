use Rattle.std.proofs.Common.{rules}
use Rattle.field_types.proofs.Wholes.{flag_zero, flag_one, no_bit}
use Rattle.field_types.proofs.cleaning.whole_as_flag.Goals as goal

pub returns-in-0 : goal.returns-in-0
returns-in-0 c = flag_zero c.args.n (search rules)

pub returns-in-1 : goal.returns-in-1
returns-in-1 c = flag_one c.args.n (search rules)

pub returns-in_default : goal.returns-in_default
returns-in_default c = no_bit c.args.n (search rules) (search rules)
