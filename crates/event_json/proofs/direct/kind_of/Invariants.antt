use Rattle.std.proofs.Common.{◌≡◌, length}
use Rattle.serde_json.specs.Find.{get_member}
use Rattle.event_model.specs.Lenient.{type_key}
use Rattle.event_json.specs.Direct.{data_members, named_values}
use Rattle.event_json.proofs.direct.kind_of.Given as goal

abbrev pub invariant-members : goal.invariant-members
invariant-members l = get_member type_key (data_members (named_values l.members)) ≡ get_member type_key (data_members (named_values l.rest))

abbrev pub decreases-members : goal.decreases-members
decreases-members l = length l.rest
