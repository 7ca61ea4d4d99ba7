use Rattle.std.proofs.Common.{◌≡◌}
use Rattle.serde_json.specs.View.{members_view}
use Rattle.runtime_text.specs.Named.{are_objects}
use Rattle.runtime_text.proofs.named.are_objects.Given as goal

abbrev pub invariant-members : goal.invariant-members
invariant-members l = are_objects (members_view l.members.entries) ≡ are_objects (members_view l.tree-iterator)
