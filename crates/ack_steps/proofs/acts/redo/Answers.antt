use Rattle.std.proofs.Common.{sym, ◌∙◌, ap}
use Rattle.dump_store.specs.Dumps.{DumpsView}
use Rattle.step_code.specs.After.{redone}
use Rattle.step_code.specs.State.{is_dump}
use Rattle.core_state.specs.State.{state_of}
use Rattle.step_code.proofs.Lists.{without_none}
use Rattle.ack_steps.proofs.acts.redo.Goals as goal

pub returns-in_default-clause-ok : goal.returns-in_default-clause-ok
returns-in_default-clause-ok c =
    let b = state_of c.args.state.now in
    let same = c.in_ok-make_message_room.ensures.same in
    let none = sym c.take_out.ensures.dump ∙ c.in_default.is in
    let dumps = ap (λ (v : DumpsView). v.dumps) c.in_default.ensures.left ∙ without_none (is_dump c.args.dump) b.dumps none in
    (λ i. record b { queues = same.queues i; hands = same.hands i; dumps = dumps i }) ∙ ap (λ o. redone c.args.dump o b) (sym none)
