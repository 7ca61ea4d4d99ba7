use Rattle.std.proofs.Common.{◌+◌, ℕ, length, sym, ap, ◌∙◌}
use Rattle.drain_loop.specs.Calls.{outside}
use Rattle.run_command.proofs.Lapping.{lapped_on, steps_worked}
use Rattle.run_command.proofs.following.stay_on.Goals as goal

pub returns-in-Err-Idle-clause-lapped : goal.returns-in-Err-Idle-clause-lapped
returns-in-Err-Idle-clause-lapped g c = λ first told.
    let o = outside g.R.Rules.meaning first (g.C.Clock.told c.args.clock.now) c.args.book.limit in
    let old = c.args.book in let new = c.lap-book.result.0 in
    let done = (c.lap-book.ensures.lapped first told).worked in
    lapped_on o c.args.until.left c.left_after-left.result old new done
    (c.left_after-left.ensures (length done.made)
    (c.steps.ensures ∙ ap (λ k. k.state.steps) c.state-in-Err-Idle.ensures.core ∙ steps_worked o c.args.until.left old new done ∙ ap (λ (n : ℕ). n + length done.made) (sym (c.steps-before.ensures ∙ ap (λ k. k.state.steps) c.state.ensures.core))))
