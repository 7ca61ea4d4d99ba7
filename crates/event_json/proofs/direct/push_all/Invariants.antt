use Rattle.std.proofs.Common.{length}
use Rattle.event_json.specs.Direct.{named_values}
use Rattle.event_json.proofs.Putting.{AllOn}
use Rattle.event_json.proofs.direct.push_all.Given as goal

abbrev pub invariant-members : goal.invariant-members
invariant-members l = AllOn (named_values l.members) (named_values l.rest) l.fn.line l.line

abbrev pub decreases-members : goal.decreases-members
decreases-members l = length l.rest
