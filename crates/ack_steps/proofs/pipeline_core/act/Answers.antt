use Rattle.std.proofs.Common.{◌≡◌, ◌≤◌, ◌+◌, ◌-◌, ◌^◌, List, OnOk, find, option_and_then, sym, ◌∙◌, ap, subst, arith}
use Rattle.step_code.specs.declared.rules.Facts.{Facts}
use Rattle.step_code.specs.declared.step.StepKind.TheVariants as kind
use Rattle.step_code.specs.After.{acted, after}
use Rattle.step_code.specs.Content.{Shows}
use Rattle.step_code.specs.Fits.{Fits}
use Rattle.step_code.specs.Rules.{bot_named}
use Rattle.step_code.specs.State.{is_dump}
use Rattle.ack_steps.specs.Core.{HasSmallNumbers}
use Rattle.core_state.specs.State.{state_of}
use Rattle.ack_steps.proofs.Counted.{acted_keeps}
use Rattle.ack_steps.proofs.Fewer.{redone_err, redone_number, redone_ok, sent_err, sent_ok}
use Rattle.ack_steps.proofs.Kept.{marked_anew, marks_past, round_small, tries_small}
use Rattle.ack_steps.proofs.Marked.{at_most_more, marks_and_one, marks_on_err, marks_on_ok}
use Rattle.ack_steps.proofs.pipeline_core.act.Goals as goal

pub retry-requires-clause-tries : goal.retry-requires-clause-tries
retry-requires-clause-tries g c h holds =
    let m = g.R.Rules.meaning in
    let s = state_of c.args.state.now in
    let now = c.args.step.now.moment in
    let r = c.in-Retry in
    tries_small m s now (g.R.Rules.bots_of c.args.plan.now) r.bot r.instance r.message r.bundle r.note h c.requires.plan (g.met.R.Rules.bots_are_sound s.bundle (g.R.Rules.bots_of c.args.plan.now) c.requires.plan)
    (subst (λ w. Fits m s (record { moment = now; what = w })) r.is c.requires.fits) holds

pub begin_round-requires : goal.begin_round-requires
begin_round-requires g c f found =
    let m = g.R.Rules.meaning in
    let s = state_of c.args.state.now in
    let now = c.args.step.now.moment in
    let small = subst (λ w. HasSmallNumbers (after m s (record { moment = now; what = w }))) c.in-Round.is c.requires.small in
    round_small s c.in-Round.bot f c.requires.orderly (omega (arith, small.steps)) found

pub done-requires-clause-past : goal.done-requires-clause-past
done-requires-clause-past g c =
    let s = state_of c.args.state.now in
    marks_past s.latest.0 c.args.step.now.moment.0 c.in-Done.bot s.caches c.requires.time.order c.requires.orderly.marks

pub done-requires-clause-new : goal.done-requires-clause-new
done-requires-clause-new g c =
    let m = g.R.Rules.meaning in
    let s = state_of c.args.state.now in
    let d = c.in-Done in
    let now = c.args.step.now.moment.0 in
    let by_plan = c.rule_of-rule.ensures ∙ ap (λ (bots : List Facts). option_and_then (λ f. f.cache) (bot_named d.bot bots)) (c.as_slice.ensures ∙ c.facts.ensures) in
    marked_anew m s (g.R.Rules.bots_of c.args.plan.now) d.bot now d.key d.line c.rule_of-rule.result c.requires.plan by_plan (subst (Shows m s now) d.is c.requires.content)

pub returns-in-Collect-clause-ok : goal.returns-in-Collect-clause-ok
returns-in-Collect-clause-ok g c =
    subst (λ what. OnOk c.collect.result (state_of c.collect.new.state ≡ acted g.R.Rules.meaning c.args.step.now.moment (state_of c.args.state.now) what)) (sym c.in-Collect.is)
    (c.collect.ensures.ok c.in-Collect.from)

pub returns-in-Collect-clause-pushed : goal.returns-in-Collect-clause-pushed
returns-in-Collect-clause-pushed g c = sent_ok c.collect.result c.args.state.now c.collect.new.state c.collect.ensures.pushed

pub returns-in-Collect-clause-unsent : goal.returns-in-Collect-clause-unsent
returns-in-Collect-clause-unsent g c = sent_err c.collect.result c.args.state.now c.collect.new.state c.collect.ensures.pushed c.collect.ensures.err

pub returns-in-Take-clause-pushed : goal.returns-in-Take-clause-pushed
returns-in-Take-clause-pushed g c = sent_ok c.take.result c.args.state.now c.take.new.state c.take.ensures.pushed

pub returns-in-Take-clause-unsent : goal.returns-in-Take-clause-unsent
returns-in-Take-clause-unsent g c = sent_err c.take.result c.args.state.now c.take.new.state c.take.ensures.pushed c.take.ensures.err

pub returns-in-Done-clause-pushed : goal.returns-in-Done-clause-pushed
returns-in-Done-clause-pushed g c = sent_ok c.done.result c.args.state.now c.done.new.state c.done.ensures.pushed

pub returns-in-Done-clause-unsent : goal.returns-in-Done-clause-unsent
returns-in-Done-clause-unsent g c = sent_err c.done.result c.args.state.now c.done.new.state c.done.ensures.pushed c.done.ensures.err

pub returns-in-Fail-clause-pushed : goal.returns-in-Fail-clause-pushed
returns-in-Fail-clause-pushed g c = sent_ok c.fail.result c.args.state.now c.fail.new.state c.fail.ensures.pushed

pub returns-in-Fail-clause-unsent : goal.returns-in-Fail-clause-unsent
returns-in-Fail-clause-unsent g c = sent_err c.fail.result c.args.state.now c.fail.new.state c.fail.ensures.pushed c.fail.ensures.err

pub returns-in-Redo-clause-pushed : goal.returns-in-Redo-clause-pushed
returns-in-Redo-clause-pushed g c =
    let d = c.in-Redo.dump in
    redone_ok c.redo.result c.args.state.now c.redo.new.state d (find (is_dump d) c.args.state.now.dumps.dumps) c.redo.ensures.ok c.redo.ensures.pushed

pub returns-in-Redo-clause-unsent : goal.returns-in-Redo-clause-unsent
returns-in-Redo-clause-unsent g c = redone_err c.redo.result c.args.state.now c.redo.new.state c.redo.ensures.unsent

pub redo-requires : goal.redo-requires
redo-requires g c =
    let m = g.R.Rules.meaning in
    let s = state_of c.args.state.now in
    let now = c.args.step.now.moment in
    let d = c.in-Redo.dump in
    let small = subst (λ w. HasSmallNumbers (after m s (record { moment = now; what = w }))) c.in-Redo.is c.requires.small in
    let steps = acted_keeps m now (record s { steps = s.steps + 1; latest = now }) (kind.Redo d) tt in
    record { few = omega (arith, small.steps, steps.steps, small.messages, redone_number d (find (is_dump d) s.dumps) (record s { steps = s.steps + 1; latest = now }), c.requires.few) }

pub collect-requires-clause-few : goal.collect-requires-clause-few
collect-requires-clause-few g c =
    let m = g.R.Rules.meaning in
    let s = state_of c.args.state.now in
    let now = c.args.step.now.moment in
    let small = subst (λ w. HasSmallNumbers (after m s (record { moment = now; what = w }))) c.in-Collect.is c.requires.small in
    omega (arith, small.steps, small.messages, c.requires.few)

pub returns-in-Start-clause-got : goal.returns-in-Start-clause-got
returns-in-Start-clause-got g c = marks_and_one c.args.state.now c.start.new.state c.start.ensures.caches

pub returns-in-FeedEnd-clause-got : goal.returns-in-FeedEnd-clause-got
returns-in-FeedEnd-clause-got g c = marks_and_one c.args.state.now c.end_feed.new.state c.end_feed.ensures.caches

pub returns-in-Retry-clause-got : goal.returns-in-Retry-clause-got
returns-in-Retry-clause-got g c = marks_and_one c.args.state.now c.retry.new.state c.retry.ensures.caches

pub returns-in-Round-clause-got : goal.returns-in-Round-clause-got
returns-in-Round-clause-got g c = marks_and_one c.args.state.now c.begin_round.new.state c.begin_round.ensures.caches

pub returns-in-Collect-clause-got : goal.returns-in-Collect-clause-got
returns-in-Collect-clause-got g c = marks_on_ok c.args.state.now c.collect.new.state c.collect.ensures.caches c.collect.result

pub returns-in-Collect-clause-kept : goal.returns-in-Collect-clause-kept
returns-in-Collect-clause-kept g c = marks_on_err c.args.state.now c.collect.new.state c.collect.ensures.caches c.collect.result

pub returns-in-Take-clause-got : goal.returns-in-Take-clause-got
returns-in-Take-clause-got g c = marks_on_ok c.args.state.now c.take.new.state c.take.ensures.caches c.take.result

pub returns-in-Take-clause-kept : goal.returns-in-Take-clause-kept
returns-in-Take-clause-kept g c = marks_on_err c.args.state.now c.take.new.state c.take.ensures.caches c.take.result

pub returns-in-Fail-clause-got : goal.returns-in-Fail-clause-got
returns-in-Fail-clause-got g c = marks_on_ok c.args.state.now c.fail.new.state c.fail.ensures.caches c.fail.result

pub returns-in-Fail-clause-kept : goal.returns-in-Fail-clause-kept
returns-in-Fail-clause-kept g c = marks_on_err c.args.state.now c.fail.new.state c.fail.ensures.caches c.fail.result

pub returns-in-Redo-clause-got : goal.returns-in-Redo-clause-got
returns-in-Redo-clause-got g c = marks_on_ok c.args.state.now c.redo.new.state c.redo.ensures.caches c.redo.result

pub returns-in-Redo-clause-kept : goal.returns-in-Redo-clause-kept
returns-in-Redo-clause-kept g c = marks_on_err c.args.state.now c.redo.new.state c.redo.ensures.caches c.redo.result

pub done-requires-clause-marks : goal.done-requires-clause-marks
done-requires-clause-marks g c =
    let m = g.R.Rules.meaning in
    let s = c.args.state.now in
    let now = c.args.step.now.moment in
    let what = c.args.step.now.what in
    let steps = acted_keeps m now (record (state_of s) { steps = s.steps + 1; latest = now }) what c.requires.kind in
    at_most_more (2 ^ 32 + s.steps) (2 ^ 63 - 1) (omega (arith, c.requires.small.steps, steps.steps)) s c.requires.marks
