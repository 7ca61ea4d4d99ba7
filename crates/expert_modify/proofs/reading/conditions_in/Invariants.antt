use Rattle.std.proofs.Common.{◌≡◌}
use Rattle.serde_json.specs.View.{members_view}
use Rattle.event_model.proofs.Written.{in_front}
use Rattle.expert_modify.specs.Reading.{conditions_in}
use Rattle.expert_modify.proofs.reading.conditions_in.Given as goal

abbrev pub invariant-members : goal.invariant-members
invariant-members l = conditions_in (members_view l.members.entries) ≡ in_front l.conditions.items (conditions_in (members_view l.key-iterator))
