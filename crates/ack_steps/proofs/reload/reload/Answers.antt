use Rattle.std.proofs.Common.{ap, arith}
use Rattle.core_state.specs.declared.state.State.{State}
use Rattle.ack_steps.proofs.reload.reload.Goals as goal

pub returns-clause-few : goal.returns-clause-few
returns-clause-few c = λ few.
    omega (arith, c.make_entries.ensures.few few, c.give_back_all.ensures.pushed, ap (λ (t : State). t.next_message) c.give_back_all.ensures.same, ap (λ (t : State). t.steps) c.give_back_all.ensures.same)
