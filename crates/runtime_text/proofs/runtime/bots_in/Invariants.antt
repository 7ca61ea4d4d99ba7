use Rattle.std.proofs.Common.{◌≡◌}
use Rattle.serde_json.specs.View.{members_view}
use Rattle.event_model.proofs.Written.{in_front}
use Rattle.runtime_text.specs.Read.{entries_of}
use Rattle.runtime_text.specs.Runtime.{bots_in}
use Rattle.runtime_text.proofs.runtime.bots_in.Given as goal

abbrev pub invariant-members : goal.invariant-members
invariant-members l = bots_in (members_view l.members.entries) ≡ in_front (entries_of l.bots.items) (bots_in (members_view l.name-iterator))
