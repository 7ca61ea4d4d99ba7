use Rattle.std.proofs.Common.{◌+◌, ℕ, Option, length, sym, ap, subst, ◌∙◌}
use Rattle.step_code.specs.Rules.{AreSound}
use Rattle.step_code.specs.State.{bots_in_force}
use Rattle.drain_loop.specs.Calls.{outside, IsDrained}
use Rattle.run_command.proofs.Ending.{one_turned, turned_off}
use Rattle.run_command.proofs.Lapping.{lapped_on, steps_worked}
use Rattle.run_command.proofs.laps.one_turn.Goals as goal

pub returns-then-goes_on-clause-lapped : goal.returns-then-goes_on-clause-lapped
returns-then-goes_on-clause-lapped g c = λ first told.
    let m = g.R.Rules.meaning in let clock = g.C.Clock.told c.args.clock.now in let seen = g.H.Shelf.shelf c.args.shelf.now in
    let old = c.args.book.now in let new = c.drain_book-end.new.book in let o = outside m first clock old.limit in
    let sound = subst AreSound (c.bots.ensures.bots ∙ ap (λ k. bots_in_force m k.state) c.state.ensures.core) c.bots.ensures.sound in
    let turned = one_turned o seen (sym told) c.args.left old new c.drain_book-end.result sound
    (subst (λ (l : Option ℕ). IsDrained g.D.Disk.disk (outside m seen clock old.limit) l old new c.drain_book-end.result) c.one_at_most.ensures c.drain_book-end.ensures.drained) in
    lapped_on o c.args.left c.left_after-left.result old new turned.worked
    (c.left_after-left.ensures (length turned.worked.made)
    (c.steps.ensures ∙ ap (λ k. k.state.steps) c.state-3.ensures.core ∙ steps_worked o c.args.left old new turned.worked ∙ ap (λ (n : ℕ). n + length turned.worked.made) (sym (c.steps-before.ensures ∙ ap (λ k. k.state.steps) c.state-2.ensures.core))))

pub returns-else-goes_on-clause-lapped : goal.returns-else-goes_on-clause-lapped
returns-else-goes_on-clause-lapped g c = λ first told.
    let m = g.R.Rules.meaning in let clock = g.C.Clock.told c.args.clock.now in let seen = g.H.Shelf.shelf c.args.shelf.now in
    let old = c.args.book.now in let new = c.drain_book-end.new.book in let o = outside m first clock old.limit in
    let sound = subst AreSound (c.bots.ensures.bots ∙ ap (λ k. bots_in_force m k.state) c.state.ensures.core) c.bots.ensures.sound in
    let turned = one_turned o seen (sym told) c.args.left old new c.drain_book-end.result sound
    (subst (λ (l : Option ℕ). IsDrained g.D.Disk.disk (outside m seen clock old.limit) l old new c.drain_book-end.result) c.one_at_most.ensures c.drain_book-end.ensures.drained) in
    let left = c.left_after-left.ensures (length turned.worked.made)
    (c.steps.ensures ∙ ap (λ k. k.state.steps) c.state-3.ensures.core ∙ steps_worked o c.args.left old new turned.worked ∙ ap (λ (n : ℕ). n + length turned.worked.made) (sym (c.steps-before.ensures ∙ ap (λ k. k.state.steps) c.state-2.ensures.core))) in
    turned_off o c.args.left old new c.drain_book-end.result turned (λ is. sym left ∙ c.goes_on.ensures.ends c.if-goes_on.false is)
