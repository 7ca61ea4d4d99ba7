use Rattle.std.proofs.Common.{◌+◌, ◌∷◌, [], drop, sym, ◌∙◌, ap}
use Rattle.std.proofs.lemmas.List.{drop_more}
use Rattle.step_code.specs.After.{all_given_back, instances_of}
use Rattle.core_state.specs.declared.state.State.{State}
use Rattle.core_state.specs.State.{state_of}
use Rattle.ack_steps.proofs.Back.{back-append, instances-first}
use Rattle.ack_steps.proofs.reload.give_back_all.Goals as goal

pub bots-preserved : goal.bots-preserved
bots-preserved c =
    let bots = c.args.bots.now in
    let before = c.args.before.now in
    let i = c.bots.facts-index in
    let f = c.facts-item.result in
    let rest = drop (i + 1) before in
    let s = state_of c.bots.state in
    let next = drop_more before i f c.bots-test.true ∙ ap (λ x. x ∷ rest) (sym c.facts-item.is) in (
      ap (all_given_back bots (instances_of rest)) c.give_back_bot.ensures.given_back
          ∙ sym (ap (λ l. all_given_back bots (instances_of l) s) next ∙ ap (λ l. all_given_back bots l s) (instances-first f rest) ∙ back-append bots (instances_of (f ∷ [])) (instances_of rest) s)
          ∙ c.bots.invariant.0,
      c.give_back_bot.ensures.same ∙ ap (λ (s : State). record s { broker = c.give_back_bot.new.state.broker }) c.bots.invariant.1,
      c.give_back_bot.ensures.pushed ∙ c.bots.invariant.2,
    )
