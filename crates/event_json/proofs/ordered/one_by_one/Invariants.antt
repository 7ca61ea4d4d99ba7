use Rattle.std.proofs.Common.{◌≡◌, length, true}
use Rattle.std.specs.FinMap.{is_sorted}
use Rattle.base_types.proofs.Places.{order}
use Rattle.event_json.specs.Direct.{named_values}
use Rattle.event_json.proofs.Placing.{ReadsOn}
use Rattle.event_json.proofs.ordered.one_by_one.Given as goal

abbrev pub invariant-members : goal.invariant-members
invariant-members l = (is_sorted order (named_values l.found.items) ≡ true) × ReadsOn l.members l.rest (named_values l.found.items)

abbrev pub decreases-members : goal.decreases-members
decreases-members l = length l.rest
