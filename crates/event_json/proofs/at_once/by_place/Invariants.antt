use Rattle.std.proofs.Common.{◌≡◌, true}
use Rattle.std.specs.FinMap.{is_sorted}
use Rattle.base_types.proofs.Places.{order}
use Rattle.event_json.specs.Direct.{named_values, AreAmong}
use Rattle.event_json.proofs.at_once.by_place.Given as goal

abbrev pub invariant-places : goal.invariant-places
invariant-places l = (is_sorted order (named_values l.found.items) ≡ true) × AreAmong (named_values l.members) (named_values l.found.items)
