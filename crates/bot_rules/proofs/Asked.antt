-- Who is asked for a report, and who is made ready for work.
use Rattle.std.proofs.Common.{◌≡◌, ◌∙◌, Bool, true, false, not, List, Option, Some, None, option_map, sym, ap}
use Rattle.std.proofs.lemmas.Bool.{false≢true, not-true}
use Rattle.runtime_config.specs.declared.plan.Planned.{Planned}
use Rattle.step_code.specs.declared.rules.Facts.{Facts}
use Rattle.step_code.specs.Rules.{Task, bot_named, collects, is_collector, is_worker, passes}
use Rattle.bot_rules.specs.Facts.{facts_of, has_feed}
use Rattle.bot_rules.specs.Intel.{facts_in, planned_in}
use Rattle.bot_rules.specs.Laws.{collects_by_module, facts_as_planned}

passes_planned : (test : Facts → Bool) (task : Task) (bots : List Facts) → facts_in task.bundle ≡ Some bots → passes test (bot_named task.bot bots) ≡ true → passes test (option_map facts_of (planned_in task)) ≡ true
passes_planned test task bots loads is = ap (passes test) (sym (facts_as_planned task bots loads)) ∙ is

-- a bot that passes is planned
pub is_planned : (test : Facts → Bool) (task : Task) (bots : List Facts) → facts_in task.bundle ≡ Some bots → planned_in task ≡ None → passes test (bot_named task.bot bots) ≡ true → ⊥
is_planned test task bots loads none is = false≢true (ap (λ (o : Option Planned). passes test (option_map facts_of o)) (sym none) ∙ passes_planned test task bots loads is)

-- a collector's module has a feed
pub collector_has_feed : (task : Task) (bots : List Facts) (p : Planned) → facts_in task.bundle ≡ Some bots → planned_in task ≡ Some p → is_collector bots task.bot ≡ true → has_feed p.«module» ≡ true
collector_has_feed task bots p loads planned is =
    sym (collects_by_module p) ∙ ap (λ (o : Option Planned). passes collects (option_map facts_of o)) (sym planned) ∙ passes_planned collects task bots loads is

-- that of no other bot has one
pub worker_has_none : (task : Task) (bots : List Facts) (p : Planned) → facts_in task.bundle ≡ Some bots → planned_in task ≡ Some p → is_worker bots task.bot ≡ true → has_feed p.«module» ≡ false
worker_has_none task bots p loads planned is =
    let works : Facts → Bool = λ f. not (collects f) in
    sym (collects_by_module p)
    ∙ not-true (collects (facts_of p)) (ap (λ (o : Option Planned). passes works (option_map facts_of o)) (sym planned) ∙ passes_planned works task bots loads is)
