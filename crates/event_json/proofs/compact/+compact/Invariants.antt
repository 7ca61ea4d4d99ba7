use Rattle.std.proofs.Common.{◌+◌, ◌*◌, length}
use Rattle.event_json.specs.Direct.{named_values}
use Rattle.event_json.proofs.CompactTexts.{PairsOn, ValuesOn}
use Rattle.event_json.proofs.compact.+compact.Given as goal

abbrev pub decreases-push_compact : goal.decreases-push_compact
decreases-push_compact l = 3 * l.depth + 1

abbrev pub decreases-push_values : goal.decreases-push_values
decreases-push_values l = 3 * l.depth

abbrev pub decreases-push_object : goal.decreases-push_object
decreases-push_object l = 3 * l.depth

abbrev pub decreases-push_pairs : goal.decreases-push_pairs
decreases-push_pairs l = 3 * l.depth + 2

abbrev pub invariant-push_values-values : goal.invariant-push_values-values
invariant-push_values-values l = ValuesOn l.values l.rest l.first l.fn.out.items l.out.items

abbrev pub decreases-push_values-values : goal.decreases-push_values-values
decreases-push_values-values l = length l.rest

abbrev pub invariant-push_pairs-members : goal.invariant-push_pairs-members
invariant-push_pairs-members l = PairsOn (named_values l.members) (named_values l.rest) l.first l.fn.out.items l.out.items

abbrev pub decreases-push_pairs-members : goal.decreases-push_pairs-members
decreases-push_pairs-members l = length l.rest
