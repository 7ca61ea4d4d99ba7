use Rattle.std.proofs.Common.{◌≡◌, map}
use Rattle.step_code.specs.After.{all_given_back, falling}
use Rattle.core_state.specs.State.{state_of}
use Rattle.ack_steps.proofs.reload.give_back_all_of.Given as goal

abbrev pub invariant-instances : goal.invariant-instances
invariant-instances l =
    (all_given_back l.fn.bots (map (λ instance. (l.fn.bot, instance)) (falling l.instance)) (state_of l.state)
    ≡ all_given_back l.fn.bots (map (λ instance. (l.fn.bot, instance)) (falling l.fn.instances)) (state_of l.fn.state))
    × (l.state ≡ record l.fn.state { broker = l.state.broker })
    × (l.state.broker.pushed ≡ l.fn.state.broker.pushed)

abbrev pub decreases-instances : goal.decreases-instances
decreases-instances l = l.instance
