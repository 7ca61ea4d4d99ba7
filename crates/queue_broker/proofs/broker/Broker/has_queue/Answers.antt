use Rattle.std.proofs.Common.{◌≡◌, ◌∙◌, ◌↔◌, true, is_some, sym, ap, subst}
use Rattle.queue_broker.specs.Broker.{IsThere}
use Rattle.queue_broker.proofs.There.{there_tested}
use Rattle.queue_broker.proofs.broker.Broker.has_queue.Goals as goal

pub returns : goal.returns
returns c =
    let name = c.args.queue.now in
    let queues = c.args.self.now.queues in
    subst (λ b. (b ≡ true) ↔ IsThere name queues) (sym (c.is_some.ensures ∙ ap is_some c.place_of_queue.ensures)) (there_tested name queues)
