use Rattle.std.proofs.Common.{ℕ, Option, sym, subst, ◌∙◌}
use Rattle.drain_loop.specs.Calls.{outside}
use Rattle.run_command.specs.Laps.{HasLapped}
use Rattle.run_command.proofs.Lapping.{laps_more}
use Rattle.run_command.proofs.laps.lap.Goals as goal

pub returns-in-Ok-clause-lapped : goal.returns-in-Ok-clause-lapped
returns-in-Ok-clause-lapped g c = λ first told.
    let m = g.R.Rules.meaning in let clock = g.C.Clock.told c.args.clock.now in
    let o = outside m first clock c.args.book.limit in
    let old = c.args.book in let mid = c.one_turn.new.book in
    let turned = c.in-Ok.ensures.lapped first told in
    laps_more o c.args.until.left old mid c.work.result.0 c.work.result.1 turned.worked
    (subst (λ (l : Option ℕ). HasLapped g.D.Disk.disk o l mid c.work.result.0 c.work.result.1) turned.ends
    (subst (λ (n : ℕ). HasLapped g.D.Disk.disk (outside m first clock n) c.in-Ok.left mid c.work.result.0 c.work.result.1) turned.worked.goes_on.same.1 (c.work.ensures.lapped first (told ∙ sym c.one_turn.ensures.told))))
