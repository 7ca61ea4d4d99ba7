use Rattle.std.proofs.Common.{sym, ◌∙◌}
use Rattle.expert_modify.proofs.Members.{condition_read}
use Rattle.expert_modify.proofs.reading.conditions_in.Goals as goal

pub members-preserved : goal.members-preserved
members-preserved c =
    condition_read _ c.members.key-iterator c.next.new.self (c.in-Some.key.now, c.in-Some.tree.now) c.as_str.result.now c.in-Some-2.condition c.members.conditions.items c.push.new.self.items
    c.members.invariant c.in-Some.ensures.steps c.as_str.ensures.value (sym c.in-Some-2.is ∙ c.in_ok-condition.ensures) c.in_ok-push.ensures.items
