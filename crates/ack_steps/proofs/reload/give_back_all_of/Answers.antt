use Rattle.std.proofs.Common.{◌-◌, ◌<◌, ℕ, List, map, sym, ◌∙◌, ap, arith}
use Rattle.step_code.specs.After.{all_given_back, falling}
use Rattle.core_state.specs.declared.state.State.{State}
use Rattle.core_state.specs.State.{state_of}
use Rattle.ack_steps.proofs.Back.{falling_more}
use Rattle.ack_steps.proofs.reload.give_back_all_of.Goals as goal

pub instances-preserved : goal.instances-preserved
instances-preserved c =
    let i = c.instances.instance in
    let bots = c.args.bots.now in
    let named : ℕ → List ℕ × ℕ = λ instance. (c.args.bot.now, instance) in
    let some : 0 < i = omega (arith, c.instances-test.true) in (
      ap (all_given_back bots (map named (falling (i - 1)))) c.give_back.ensures.given_back
          ∙ sym (ap (λ l. all_given_back bots (map named l) (state_of c.instances.state)) (falling_more i some)) ∙ c.instances.invariant.0,
      c.give_back.ensures.same ∙ ap (λ (s : State). record s { broker = c.give_back.new.state.broker }) c.instances.invariant.1,
      c.give_back.ensures.pushed ∙ c.instances.invariant.2,
    )
