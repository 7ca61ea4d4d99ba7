use Rattle.std.proofs.Common.{OnOk, Result, Ok, Err, sym, ◌∙◌, ap, subst}
use Rattle.step_code.specs.declared.base.Base.{Base}
use Rattle.step_code.specs.Content.{MayReplay}
use Rattle.step_code.specs.Fits.{Fits}
use Rattle.step_code.specs.Rules.{IsPlanOf}
use Rattle.core_state.specs.State.{state_of}
use Rattle.ack_steps.proofs.Hands.{held_after_call}
use Rattle.ack_steps.proofs.pipeline_core.Core.act.Goals as goal

pub invariant_of-self : goal.invariant_of-self
invariant_of-self g c =
    let m = g.R.Rules.meaning in
    let s = state_of c.self.inside.state in
    let step = c.args.step.now in
    let bots = g.R.Rules.bots_of c.self.inside.plan in
    let call = c.act_and_count.ensures in
    let same = sym (ap (λ v. v.state) c.self.view_is) in
    let may : MayReplay m s step = subst (λ (b : Base). MayReplay m b step) same c.requires.replay in
    let fits : Fits m s step = subst (λ (b : Base). Fits m b step) same c.requires.fits in
    let held = held_after_call m s (state_of c.act_and_count.new.state) step bots c.act_and_count.result (ok_always c.act_and_count.result fits) call.ok call.err (λ _. may)
    c.self.invariant.1 (g.met.R.Rules.bots_are_sound s.bundle bots c.self.invariant.1) c.self.invariant.4 c.self.invariant.5 in (
      c.self.invariant.0 ∙ sym call.bundle,
      subst (λ l. IsPlanOf m l bots) (sym call.bundle) c.self.invariant.1,
      call.lengths c.self.invariant.2,
      call.orderly,
      held.0,
      held.1,
      call.few,
      call.marks,
    )
  where
    ok_always : {A E P : Type 0} (result : Result A E) → P → OnOk result P
    ok_always (Ok x) holds = holds
    ok_always (Err e) holds = tt
