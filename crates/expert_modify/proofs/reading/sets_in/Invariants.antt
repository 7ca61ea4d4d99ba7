use Rattle.serde_json.specs.View.{members_view}
use Rattle.expert_modify.specs.Reading.{sets_in}
use Rattle.expert_modify.proofs.Members.{AreSet}
use Rattle.expert_modify.proofs.reading.sets_in.Given as goal

abbrev pub invariant-members : goal.invariant-members
invariant-members l = AreSet (sets_in (members_view l.members.entries)) (sets_in (members_view l.key-iterator)) l.sets
