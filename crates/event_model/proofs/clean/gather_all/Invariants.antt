use Rattle.serde_json.specs.View.{members_view}
use Rattle.event_model.specs.Gathered.{nothing_found}
use Rattle.event_model.specs.Lenient.{leaves_of}
use Rattle.event_model.proofs.Gathering.{AreAdded}
use Rattle.event_model.proofs.clean.gather_all.Given as goal

abbrev pub invariant-members : goal.invariant-members
invariant-members l = AreAdded (leaves_of (members_view l.members.entries)) (leaves_of (members_view l.key-iterator)) nothing_found l.found
