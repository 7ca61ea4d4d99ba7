use Rattle.std.proofs.Common.{[], Err, sym, ◌∙◌, ap, unwrap_or}
use Rattle.step_code.specs.Spent.{spent}
use Rattle.core_state.specs.Spent.{bots_coming}
use Rattle.ack_steps.proofs.Coming.{none_coming}
use Rattle.ack_steps.proofs.pipeline_core.Core.spent.Goals as goal

pub returns-in_default : goal.returns-in_default
returns-in_default g c =
    let m = g.R.Rules.meaning in
    let plan = ap (λ v. m.facts v.state.bundle) c.self.view_is ∙ c.bots.ensures in
    c.first_spent.ensures m c.args.step.now.moment plan (none_coming m c.args.step.now.what c.in_default.not-Reload) c.self.invariant.2 ∙ ap (λ v. spent m v.state c.args.step.now) c.self.view_is

pub returns-in-Ok : goal.returns-in-Ok
returns-in-Ok g c =
    let m = g.R.Rules.meaning in
    let plan = ap (λ v. m.facts v.state.bundle) c.self.view_is ∙ c.bots-in-Ok.ensures in
    let loads = ap m.facts (sym c.in-Ok.ensures.plan.0) ∙ c.in-Ok.ensures.plan.1 in
    let coming = c.as_slice-coming.ensures ∙ c.facts.ensures ∙ sym (ap (λ o. unwrap_or o []) loads) ∙ sym (ap (bots_coming m) c.in-Reload.is) in
    c.first_spent-in-Ok.ensures m c.args.step.now.moment plan coming c.self.invariant.2 ∙ ap (λ v. spent m v.state c.args.step.now) c.self.view_is

pub returns-in-Err-Refused : goal.returns-in-Err-Refused
returns-in-Err-Refused g c =
    let m = g.R.Rules.meaning in
    let plan = ap (λ v. m.facts v.state.bundle) c.self.view_is ∙ c.bots-in-Err-Refused.ensures in
    let none = c.in-Err-Refused.ensures.refused (ap Err c.in-Err-Refused.field-0-is) in
    let coming = sym (ap (λ o. unwrap_or o []) none) ∙ sym (ap (bots_coming m) c.in-Reload.is) in
    c.first_spent-in-Err-Refused.ensures m c.args.step.now.moment plan coming c.self.invariant.2 ∙ ap (λ v. spent m v.state c.args.step.now) c.self.view_is
