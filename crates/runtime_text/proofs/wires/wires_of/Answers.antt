use Rattle.std.proofs.Common.{◌<◌, ◌++◌, ℕ, List, length, get_or, ap, subst, ◌∙◌}
use Rattle.std.specs.List.{filter_map}
use Rattle.runtime_text.proofs.Owners.{more_wires}
use Rattle.runtime_text.specs.Read.{entries_of, entry_of}
use Rattle.runtime_text.specs.Runtime.{routes, Route}
use Rattle.runtime_text.specs.Wires.{owner}
use Rattle.runtime_text.proofs.wires.wires_of.Goals as goal

pub routes-preserved : goal.routes-preserved
routes-preserved c =
    let all = c.routes-route-items.ensures in
    more_wires (entries_of c.args.bots.now) (routes (entry_of c.args.bot.now)) c.routes.route-index c.route-item.result c.routes.wires.items c.push_owners.new.wires.items _
    (subst (λ (rs : List Route). c.routes.route-index < length rs) all c.routes-test.true)
    (c.route-item.is ∙ ap (λ (rs : List Route). get_or rs c.routes.route-index c.route-item.result) all)
    c.routes.invariant
    (c.in_ok-push_owners.ensures ∙ ap (λ (qs : List (List ℕ)). c.routes.wires.items ++ filter_map (owner (entries_of c.args.bots.now)) qs) c.queues_of.ensures)
