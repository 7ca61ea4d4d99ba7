use Rattle.std.proofs.Common.{◌≡◌, ℕ, List, IsSomeAnd, sym, ap, subst, ◌∙◌}
use Rattle.base_types.specs.declared.message.Msg.{Msg}
use Rattle.step_code.specs.declared.base.Base.{Base}
use Rattle.step_code.specs.State.{hand_of}
use Rattle.worker_turns.proofs.Holding.{is_job}
use Rattle.worker_turns.proofs.instance.job_in_hand.Goals as goal

pub returns-clause-job : goal.returns-clause-job
returns-clause-job g c =
    let hand = c.in-Some.hand in
    let message : Msg = record { no = hand.message.now.no; body = c.in_ok-copy.field-0 } in
    let same : hand.message.now ≡ message = λ i. record { no = hand.message.now.no; body = sym c.in_ok-copy.ensures i } in
    let Shown : List ℕ → ℕ → Base → Msg → Type 0 = λ bot n s x. IsSomeAnd (hand_of bot n s) (λ h. (x ≡ h.message) × (hand.tries ≡ h.tries) × (hand.since ≡ h.since)) in
    let bot = ap (λ w. w.bot) c.in_ok-make_ready.ensures.worker in
    let number = ap (λ w. w.number) c.in_ok-make_ready.ensures.worker in
    let state = ap (λ k. k.state) c.core-core.ensures.core in
    let shown =
    subst (λ b. Shown b c.args.worker.now.number c.args.locked.now.book.state message) bot
    (subst (λ n. Shown c.make_ready.new.worker.bot n c.args.locked.now.book.state message) number
    (subst (λ s. Shown c.make_ready.new.worker.bot c.make_ready.new.worker.number s message) state
    (subst (Shown c.make_ready.new.worker.bot c.make_ready.new.worker.number c.core-core.result.now.state) same c.in-Some.ensures))) in
    is_job g.R.Rules.task_of c.args.locked.now c.args.worker.now.bot c.args.worker.now.number c.make_ready.new.worker.ready
    (record { bundle = c.bundle_no.result; message = message; since = hand.since }) hand.tries shown (c.bundle_no.ensures ∙ ap (λ (s : Base). s.bundle_no) state) c.in_ok-make_ready.ensures.now
