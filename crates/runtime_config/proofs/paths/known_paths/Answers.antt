use Rattle.std.proofs.Common.{◌<◌, List, Some, length, get_or, ap, sym, subst, ◌∙◌}
use Rattle.runtime_text.proofs.Lists.{read_more}
use Rattle.runtime_config.proofs.KnownPaths.{path_first}
use Rattle.runtime_text.specs.Read.{entries_of, entry_of}
use Rattle.runtime_text.specs.Runtime.{routes, Route}
use Rattle.runtime_config.proofs.paths.known_paths.Goals as goal

pub routes-preserved : goal.routes-preserved
routes-preserved c =
    let all = c.routes-route-items.ensures in
    read_more _ _ _ c.routes.paths.items c.push.new.self.items c.in-Some.path c.routes.invariant
    (path_first (entries_of c.args.bots.now) (routes (entry_of c.args.bot.now)) c.routes.route-index c.route-item.result (Some c.in-Some.path)
    (subst (λ (rs : List Route). c.routes.route-index < length rs) all c.routes-test.true)
    (c.route-item.is ∙ ap (λ (rs : List Route). get_or rs c.routes.route-index c.route-item.result) all)
    (sym c.in-Some.is ∙ c.in_ok-path.ensures))
    c.in_ok-push.ensures.items
