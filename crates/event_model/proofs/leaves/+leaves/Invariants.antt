use Rattle.std.proofs.Common.{◌≡◌, length}
use Rattle.serde_json.specs.View.{members_view}
use Rattle.event_model.specs.Lenient.{leaves_in}
use Rattle.event_model.proofs.Gathering.{AreAdded}
use Rattle.event_model.proofs.leaves.+leaves.Given as goal

abbrev pub invariant-gather_members-members : goal.invariant-gather_members-members
invariant-gather_members-members l =
    (l.found.names.0 ≡ l.fn.found.names.0) × (l.len ≡ length l.fn.found.names.0) × AreAdded (leaves_in l.fn.found.names.0 (members_view l.members.entries)) (leaves_in l.fn.found.names.0 (members_view l.inner-iterator)) l.fn.found l.found
