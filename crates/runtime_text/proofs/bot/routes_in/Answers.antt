use Rattle.std.proofs.Common.{Some, sym, ◌∙◌}
use Rattle.runtime_text.proofs.Lists.{read_more, route_first}
use Rattle.runtime_text.proofs.bot.routes_in.Goals as goal

pub members-preserved : goal.members-preserved
members-preserved c =
    read_more _ _ _ c.members.routes.items c.push.new.self.items (c.in_ok-text_of.field-0, c.in-Some-2.queues)
    c.members.invariant
    (route_first c.members.path-iterator c.next.new.self (c.in-Some.path.now, c.in-Some.tree.now) c.in_ok-text_of.field-0 (Some c.in-Some-2.queues) c.in-Some.ensures.steps
    (c.in_ok-text_of.ensures ∙ c.as_str.ensures.value) (sym c.in-Some-2.is ∙ c.in_ok-queues.ensures))
    c.in_ok-push.ensures.items
