use Rattle.std.proofs.Common.{◌≡◌, ℕ, not, IsSome, IsSomeAnd, ap, sym, subst, ◌∙◌}
use Rattle.ack_steps.specs.Core.{HasSoundHands}
use Rattle.step_code.specs.declared.base.Base.{Base}
use Rattle.step_code.specs.declared.rules.Facts.{Facts}
use Rattle.step_code.specs.Rules.{collects, passes}
use Rattle.step_code.specs.State.{bots_in_force, hand_of}
use Rattle.turn_order.proofs.Actors.{full_hand}
use Rattle.turn_order.proofs.Waiting.{worker_of}
use Rattle.worker_turns.proofs.Holding.{ready_new, ready_now}
use Rattle.worker_turns.proofs.instance.make_ready.Goals as goal

pub new_work-requires : goal.new_work-requires
new_work-requires g c =
    let m = g.R.Rules.meaning in let s = c.core-core.result.now.state in
    let full = full_hand m s c.args.worker.now.bot c.args.worker.now.number (subst (HasSoundHands m) (sym (ap (λ k. k.state) c.core-core.ensures.core)) c.core-core.ensures.hands) (subst (λ (b : Base). IsSome (hand_of c.args.worker.now.bot c.args.worker.now.number b)) (sym (ap (λ k. k.state) c.core-core.ensures.core)) c.requires.full) in
    let worker = worker_of (bots_in_force m s) c.args.worker.now.bot c.args.worker.now.number full.live in
    record { worker = ap (passes (λ (f : Facts). not (collects f))) worker.named ∙ worker.worker }

pub returns-then-is_ready-clause-now : goal.returns-then-is_ready-clause-now
returns-then-is_ready-clause-now g c =
    let number = c.bundle_no-bundle.ensures ∙ ap (λ k. k.state.bundle_no) c.core-core.ensures.core in
    ready_now g.R.Rules.task_of c.args.locked.now c.args.worker.now.bot c.args.worker.now.ready c.core-core.ensures.round c.requires.ready
    (subst (λ (n : ℕ). IsSomeAnd c.args.worker.now.ready (λ r. r.bundle ≡ n)) number (c.is_ready.ensures.ready c.if-is_ready.true))

pub returns-clause-ready : goal.returns-clause-ready
returns-clause-ready g c =
    ready_new g.R.Rules.task_of c.args.locked.now c.args.worker.now.bot (record { bundle = c.bundle_no-bundle.result; work = c.in_ok-work.work }) c.core-core.ensures.round
    (c.bundle_no-bundle.ensures ∙ ap (λ k. k.state.bundle_no) c.core-core.ensures.core, c.in_ok-work.ensures.task ∙ ap (λ k. record { bundle = k.state.bundle; bot = c.args.worker.now.bot }) c.core-core.ensures.core)

pub returns-clause-now : goal.returns-clause-now
returns-clause-now g c = (c.bundle_no-bundle.ensures ∙ ap (λ k. k.state.bundle_no) c.core-core.ensures.core, c.in_ok-work.ensures.task ∙ ap (λ k. record { bundle = k.state.bundle; bot = c.args.worker.now.bot }) c.core-core.ensures.core)
