use Rattle.std.proofs.Common.{◌+◌, ◌*◌, length}
use Rattle.event_json.specs.Direct.{named_values}
use Rattle.event_json.proofs.Putting.{MembersOn}
use Rattle.event_json.proofs.leaf.+direct.Given as goal

abbrev pub decreases-push_tree : goal.decreases-push_tree
decreases-push_tree l = 3 * l.depth + 1

abbrev pub decreases-push_object : goal.decreases-push_object
decreases-push_object l = 3 * l.depth

abbrev pub decreases-push_members : goal.decreases-push_members
decreases-push_members l = 3 * l.depth + 2

abbrev pub invariant-push_members-members : goal.invariant-push_members-members
invariant-push_members-members l = MembersOn l.key (named_values l.members) (named_values l.rest) l.fn.line l.line

abbrev pub decreases-push_members-members : goal.decreases-push_members-members
decreases-push_members-members l = length l.rest
