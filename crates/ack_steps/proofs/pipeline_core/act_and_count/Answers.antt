use Rattle.std.proofs.Common.{◌≡◌, ◌≤◌, ◌+◌, ◌^◌, sym, ◌∙◌, ap, subst, arith}
use Rattle.step_code.specs.declared.base.Base.{Base}
use Rattle.step_code.specs.After.{acted}
use Rattle.ack_steps.specs.Core.{IsOrderly}
use Rattle.core_state.specs.State.{state_of}
use Rattle.ack_steps.proofs.Orderly.{orderly_after}
use Rattle.ack_steps.proofs.Counted.{acted_keeps, counted, counted_after}
use Rattle.core_state.specs.declared.state.State.{State}
use Rattle.ack_steps.proofs.Marked.{at_most_more}
use Rattle.ack_steps.proofs.pipeline_core.act_and_count.Goals as goal

pub returns-clause-orderly : goal.returns-clause-orderly
returns-clause-orderly g c =
    let m = g.R.Rules.meaning in
    let s = state_of c.args.state.now in
    let now = c.args.step.now.moment in
    let what = c.args.step.now.what in
    let ok = c.in_ok-act.ensures.ok in
    let whole = (λ i. counted ((ok i).steps + 1) now (ok i)) ∙ ap (λ n. counted (n + 1) now (acted m now s what)) (acted_keeps m now s what c.requires.kind).steps ∙ counted_after m now s what c.requires.kind in
    subst IsOrderly (sym whole) (orderly_after m s now what c.requires.time.order c.requires.orderly)

pub returns-clause-few : goal.returns-clause-few
returns-clause-few g c =
    let m = g.R.Rules.meaning in
    let s = state_of c.args.state.now in
    let now = c.args.step.now.moment in
    let what = c.args.step.now.what in
    omega (arith, c.in_ok-act.ensures.pushed, c.requires.few, ap (λ (b : Base). b.steps) c.in_ok-act.ensures.ok, (acted_keeps m now s what c.requires.kind).steps)

pub returns-in_err-act-clause-few : goal.returns-in_err-act-clause-few
returns-in_err-act-clause-few g c = omega (arith, c.in_err-act.ensures.unsent, c.requires.few, ap (λ (b : Base). b.next_message) c.in_err-act.ensures.err, ap (λ (b : Base). b.steps) c.in_err-act.ensures.err)

pub returns-clause-marks : goal.returns-clause-marks
returns-clause-marks g c =
    let m = g.R.Rules.meaning in
    let s = c.args.state.now in
    let now = c.args.step.now.moment in
    let what = c.args.step.now.what in
    let one = ap (λ (b : Base). b.steps) c.in_ok-act.ensures.ok ∙ (acted_keeps m now (state_of s) what c.requires.kind).steps in
    at_most_more (2 ^ 32 + s.steps + 1) (2 ^ 32 + (c.act.new.state.steps + 1)) (omega (arith, one)) c.act.new.state (c.in_ok-act.ensures.got (2 ^ 32 + s.steps) c.requires.marks)

pub returns-in_err-act-clause-marks : goal.returns-in_err-act-clause-marks
returns-in_err-act-clause-marks g c =
    let s = c.args.state.now in
    at_most_more (2 ^ 32 + s.steps) (2 ^ 32 + c.act.new.state.steps) (omega (arith, ap (λ (b : Base). b.steps) c.in_err-act.ensures.err)) c.act.new.state (c.in_err-act.ensures.kept (2 ^ 32 + s.steps) c.requires.marks)
