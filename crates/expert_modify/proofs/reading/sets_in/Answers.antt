use Rattle.expert_modify.proofs.Members.{pair_set}
use Rattle.expert_modify.proofs.reading.sets_in.Goals as goal

pub members-preserved : goal.members-preserved
members-preserved c =
    pair_set _ c.members.key-iterator c.next.new.self (c.in-Some.key.now, c.in-Some.tree.now) c.as_str.result.now _ c.members.sets c.set.new.sets
    c.members.invariant c.in-Some.ensures.steps c.as_str.ensures.value c.if-not-branch.false c.in_ok-set.ensures
