use Rattle.std.proofs.Common.{◌∙◌, sym, ap}
use Rattle.std.specs.Prelude.{position}
use Rattle.std.specs.Str.{bytes_eq}
use Rattle.runtime_config.specs.declared.plan.Planned.{Planned}
use Rattle.bot_rules.specs.Intel.{plan_in}
use Rattle.bot_rules.specs.Ready.{Planning}
use Rattle.bot_rules.proofs.Tabled.{planned_at, planned_nowhere, table_at}
use Rattle.bot_rules.proofs.plan.IntelPlan.planned.Goals as goal

pub returns-in-Some : goal.returns-in-Some
returns-in-Some c =
    let bots = c.self.inside.bots in
    let plan = ap (λ (v : Planning). plan_in v.bundle) (sym c.self.view_is) ∙ c.self.invariant.plan in (
      planned_at c.args.self.now.bundle c.args.name.now bots c.in-Some.i c.at.result.now plan
          (ap (position (λ (b : Planned). bytes_eq b.bot c.args.name.now)) (sym c.as_slice.ensures) ∙ sym c.in-Some.ensures) c.at.ensures,
      table_at bots c.self.inside.tables c.in-Some.i c.at.result.now c.at-in-Some.result.now c.self.invariant.tables_are c.at.ensures c.at-in-Some.ensures,
    )

pub returns-in-None : goal.returns-in-None
returns-in-None c =
    planned_nowhere c.args.self.now.bundle c.args.name.now c.self.inside.bots (ap (λ (v : Planning). plan_in v.bundle) (sym c.self.view_is) ∙ c.self.invariant.plan)
    (ap (position (λ (b : Planned). bytes_eq b.bot c.args.name.now)) (sym c.as_slice.ensures) ∙ sym c.in-None.ensures)
