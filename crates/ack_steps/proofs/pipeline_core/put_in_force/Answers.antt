use Rattle.std.proofs.Common.{◌+◌, ◌≤◌, ◌<◌, ◌^◌, [], sym, ◌∙◌, ap, subst, arith, unwrap_or}
use Rattle.std.specs.List.{AllByRecursion}
use Rattle.base_types.specs.Number.{last_u64}
use Rattle.step_code.specs.declared.base.Base.{Base}
use Rattle.step_code.specs.declared.feed.Feed.{Feed}
use Rattle.step_code.specs.declared.step.StepKind.TheVariants as kind
use Rattle.step_code.specs.After.{reloaded}
use Rattle.step_code.specs.Spent.{last_given}
use Rattle.ack_steps.specs.Core.{IsOrderly}
use Rattle.core_state.specs.State.{state_of}
use Rattle.ack_steps.proofs.Orderly.{orderly_after}
use Rattle.ack_steps.proofs.Kept.{may_reload, reload_counted, rounds_small}
use Rattle.ack_steps.proofs.Marked.{at_most_more, marks_stay}
use Rattle.ack_steps.proofs.pipeline_core.put_in_force.Goals as goal

pub overflow_add-state : goal.overflow_add-state
overflow_add-state g c =
    let m = g.R.Rules.meaning in
    let s = state_of c.args.state.now in
    let loads = ap m.facts (sym c.in-Ok.ensures.plan.0) ∙ c.in-Ok.ensures.plan.1 in
    let counted = reload_counted m s c.args.bundle.now c.args.now (c.requires.small (may_reload m s c.args.bundle.now c.args.now (g.R.Rules.bots_of c.in-Ok.coming) loads)) in
    omega (arith, counted.steps, ap (λ (b : Base). b.steps) c.in-Ok-prepare.ensures.same)

pub reload-requires-clause-rounds : goal.reload-requires-clause-rounds
reload-requires-clause-rounds g c =
    let m = g.R.Rules.meaning in
    let s = state_of c.args.state.now in
    let loads = ap m.facts (sym c.in-Ok.ensures.plan.0) ∙ c.in-Ok.ensures.plan.1 in
    let counted = reload_counted m s c.args.bundle.now c.args.now (c.requires.small (may_reload m s c.args.bundle.now c.args.now (g.R.Rules.bots_of c.in-Ok.coming) loads)) in
    let few : s.steps ≤ last_given = omega (arith, counted.steps) in
    subst (λ (b : Base). AllByRecursion (λ (f : Feed). f.round < last_u64) b.feeds) (sym c.in-Ok-prepare.ensures.same) (rounds_small s c.requires.orderly few)

pub reload-requires-clause-number : goal.reload-requires-clause-number
reload-requires-clause-number g c =
    let m = g.R.Rules.meaning in
    let s = state_of c.args.state.now in
    let loads = ap m.facts (sym c.in-Ok.ensures.plan.0) ∙ c.in-Ok.ensures.plan.1 in
    let counted = reload_counted m s c.args.bundle.now c.args.now (c.requires.small (may_reload m s c.args.bundle.now c.args.now (g.R.Rules.bots_of c.in-Ok.coming) loads)) in
    omega (arith, counted.bundles, ap (λ (b : Base). b.bundle_no) c.in-Ok-prepare.ensures.same)

pub returns-clause-orderly : goal.returns-clause-orderly
returns-clause-orderly g c =
    let m = g.R.Rules.meaning in
    let s = state_of c.args.state.now in
    let loads = ap m.facts (sym c.in-Ok.ensures.plan.0) ∙ c.in-Ok.ensures.plan.1 in
    let before = c.as_slice-before.ensures ∙ c.facts-2.ensures ∙ sym (ap (λ o. unwrap_or o []) c.requires.plan) in
    let bots = c.as_slice-bots.ensures ∙ c.facts.ensures ∙ sym (ap (λ o. unwrap_or o []) loads) in
    let same = c.in-Ok-prepare.ensures.same in
    let whole = c.reload.ensures.reloaded ∙ (λ i. reloaded (before i) (bots i) (c.in-Ok-prepare.ensures.bundle i) (record (same i) { steps = (same i).steps + 1; latest = c.args.now })) in
    subst IsOrderly (sym whole) (orderly_after m s c.args.now (kind.Reload c.args.bundle.now) (c.requires.order (may_reload m s c.args.bundle.now c.args.now (g.R.Rules.bots_of c.in-Ok.coming) loads)) c.requires.orderly)

pub returns-clause-few : goal.returns-clause-few
returns-clause-few g c =
    let same = c.in-Ok-prepare.ensures.same in
    c.reload.ensures.few (omega (arith, c.requires.few, c.in-Ok-prepare.ensures.pushed, ap (λ (b : Base). b.next_message) same, ap (λ (b : Base). b.steps) same))

pub returns-in_default-clause-few : goal.returns-in_default-clause-few
returns-in_default-clause-few g c =
    let same = c.prepare.ensures.same in
    omega (arith, c.requires.few, c.prepare.ensures.pushed, ap (λ (b : Base). b.next_message) same, ap (λ (b : Base). b.steps) same)

pub returns-clause-marks : goal.returns-clause-marks
returns-clause-marks g c =
    let s = c.args.state.now in
    let same = c.reload.ensures.caches ∙ c.in-Ok-prepare.ensures.caches in
    at_most_more (2 ^ 32 + s.steps) (2 ^ 32 + c.reload.new.state.steps) (omega (arith, c.reload.ensures.steps, ap (λ (b : Base). b.steps) c.in-Ok-prepare.ensures.same)) c.reload.new.state (marks_stay s c.reload.new.state same (2 ^ 32 + s.steps) c.requires.marks)

pub returns-in_default-clause-marks : goal.returns-in_default-clause-marks
returns-in_default-clause-marks g c =
    let s = c.args.state.now in
    let new = c.prepare.new.state in
    at_most_more (2 ^ 32 + s.steps) (2 ^ 32 + new.steps) (omega (arith, ap (λ (b : Base). b.steps) c.prepare.ensures.same)) new (marks_stay s new c.prepare.ensures.caches (2 ^ 32 + s.steps) c.requires.marks)
