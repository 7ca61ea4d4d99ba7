use Rattle.step_code.specs.Rules.{collects}
use Rattle.bot_rules.proofs.Asked.{collector_has_feed, is_planned}
use Rattle.bot_rules.proofs.rules.IntelRulesRules.report.Goals as goal

pub module_reports-requires-clause-collects : goal.module_reports-requires-clause-collects
module_reports-requires-clause-collects c =
    let plan = c.args.plan.now in
    collector_has_feed (record { bundle = plan.bundle; bot = c.args.bot.now }) plan.bots c.in-Some.planned.now c.requires.plan c.in-Some.ensures.0 c.requires.collector

pub unreachable-requires : goal.unreachable-requires
unreachable-requires c =
    let plan = c.args.plan.now in
    is_planned collects (record { bundle = plan.bundle; bot = c.args.bot.now }) plan.bots c.requires.plan c.in-None.ensures c.requires.collector
