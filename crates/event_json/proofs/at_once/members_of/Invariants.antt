use Rattle.std.proofs.Common.{◌≡◌, ◌++◌, length}
use Rattle.event_json.specs.Direct.{named_values, given_values}
use Rattle.event_json.proofs.at_once.members_of.Given as goal

abbrev pub invariant-members : goal.invariant-members
invariant-members l = named_values l.found.items ++ given_values l.rest ≡ given_values l.members

abbrev pub decreases-members : goal.decreases-members
decreases-members l = length l.rest
