use Rattle.std.proofs.Common.{◌≡◌, drop}
use Rattle.step_code.specs.After.{all_given_back, instances_of}
use Rattle.core_state.specs.State.{state_of}
use Rattle.ack_steps.proofs.reload.give_back_all.Given as goal

abbrev pub invariant-bots : goal.invariant-bots
invariant-bots l =
    (all_given_back l.fn.bots (instances_of (drop l.facts-index l.fn.before)) (state_of l.state) ≡ all_given_back l.fn.bots (instances_of l.fn.before) (state_of l.fn.state))
    × (l.state ≡ record l.fn.state { broker = l.state.broker })
    × (l.state.broker.pushed ≡ l.fn.state.broker.pushed)
