use Rattle.std.proofs.Common.{not}
use Rattle.step_code.specs.Rules.{collects}
use Rattle.step_code.specs.declared.rules.Facts.{Facts}
use Rattle.bot_rules.proofs.Asked.{is_planned, worker_has_none}
use Rattle.bot_rules.proofs.rules.IntelRulesRules.work.Goals as goal

pub new-requires-clause-works : goal.new-requires-clause-works
new-requires-clause-works c =
    let plan = c.args.plan.now in
    worker_has_none (record { bundle = plan.bundle; bot = c.args.bot.now }) plan.bots c.in-Some.planned.now c.requires.plan c.in-Some.ensures.0 c.requires.worker

pub unreachable-requires : goal.unreachable-requires
unreachable-requires c =
    let plan = c.args.plan.now in
    is_planned (λ (f : Facts). not (collects f)) (record { bundle = plan.bundle; bot = c.args.bot.now }) plan.bots c.requires.plan c.in-None.ensures c.requires.worker
