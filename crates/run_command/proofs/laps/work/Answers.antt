use Rattle.std.proofs.Common.{◌+◌, ℕ, length, sym, ap, ◌∙◌}
use Rattle.drain_loop.specs.Calls.{outside}
use Rattle.run_command.proofs.Lapping.{lapped_off, lapped_on, steps_worked, still_worked}
use Rattle.run_command.proofs.laps.work.Goals as goal

pub returns-in-Ok-clause-lapped : goal.returns-in-Ok-clause-lapped
returns-in-Ok-clause-lapped g c = λ first told.
    let o = outside g.R.Rules.meaning first (g.C.Clock.told c.args.clock.now) c.args.book.limit in
    let old = c.args.book in let mid = c.work_round-book.result in let new = c.make_durable.new.book in
    let done = still_worked o c.args.until.left old mid new (c.work_round-book.ensures.worked first told) c.make_durable.ensures.goes_on in
    lapped_on o c.args.until.left c.left_after-left.result old new done
    (c.left_after-left.ensures (length done.made)
    (c.steps.ensures ∙ ap (λ k. k.state.steps) c.state-in-Ok.ensures.core ∙ steps_worked o c.args.until.left old new done ∙ ap (λ (n : ℕ). n + length done.made) (sym (c.steps-before.ensures ∙ ap (λ k. k.state.steps) c.state.ensures.core))))

pub returns-in-Err-clause-lapped : goal.returns-in-Err-clause-lapped
returns-in-Err-clause-lapped g c = λ first told.
    let o = outside g.R.Rules.meaning first (g.C.Clock.told c.args.clock.now) c.args.book.limit in
    let old = c.args.book in let mid = c.work_round-book.result in let new = c.make_durable.new.book in
    lapped_off o c.args.until.left old new (still_worked o c.args.until.left old mid new (c.work_round-book.ensures.worked first told) c.make_durable.ensures.goes_on)
