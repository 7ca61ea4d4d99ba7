use Rattle.std.proofs.Common.{sym, ap, subst}
use Rattle.std.proofs.lemmas.Result.{on_err_weaker}
use Rattle.step_code.specs.declared.base.Base.{Base}
use Rattle.step_code.specs.Content.{MayReplay}
use Rattle.step_code.specs.Fits.{Fits}
use Rattle.core_state.specs.State.{state_of}
use Rattle.ack_steps.specs.Core.{reload_of}
use Rattle.ack_steps.proofs.Hands.{held_after_call}
use Rattle.ack_steps.proofs.pipeline_core.Core.apply.Goals as goal

pub invariant_of-self : goal.invariant_of-self
invariant_of-self g c =
    let m = g.R.Rules.meaning in
    let s = state_of c.self.inside.state in
    let now = c.args.step.now.moment in
    let bots = g.R.Rules.bots_of c.self.inside.plan in
    let call = c.put_in_force.ensures in
    let may = subst (λ (b : Base). Fits m b c.args.step.now → MayReplay m b c.args.step.now) (sym (ap (λ v. v.state) c.self.view_is)) c.requires.replay in
    let held = held_after_call m s (state_of c.put_in_force.new.state) (reload_of c.in-Reload.bundle now) bots c.put_in_force.result call.fits call.ok (on_err_weaker c.put_in_force.result (λ both. both.0) call.err)
    (subst (λ w. Fits m s (record { moment = now; what = w }) → MayReplay m s (record { moment = now; what = w })) c.in-Reload.is may)
    c.self.invariant.1 (g.met.R.Rules.bots_are_sound s.bundle bots c.self.invariant.1) c.self.invariant.4 c.self.invariant.5 in
    (call.bundle, call.plan, call.lengths c.self.invariant.2, call.orderly, held.0, held.1, call.few, call.marks)
