use Rattle.event_json.proofs.Putting.{two_members}
use Rattle.event_json.proofs.ordered.may_be_decimal.Goals as goal

pub returns-in_default-2 : goal.returns-in_default-2
returns-in_default-2 c = λ other. two_members c.args.members.now c.in_default.len_at_least
