use Rattle.std.proofs.Common.{sym, subst}
use Rattle.drain_loop.specs.Calls.{outside}
use Rattle.run_command.specs.Laps.{IsWorkedOn}
use Rattle.run_command.proofs.Fetched.{all_read_on}
use Rattle.run_command.proofs.Lapping.{works_nothing}
use Rattle.run_command.proofs.Worked.{round_worked}
use Rattle.run_command.proofs.rounds.round.Goals as goal

pub returns-then-len-gt-MOST_WORKERS-clause-worked : goal.returns-then-len-gt-MOST_WORKERS-clause-worked
returns-then-len-gt-MOST_WORKERS-clause-worked g c = λ first told.
    works_nothing (outside g.R.Rules.meaning first (g.C.Clock.told c.args.clock.now) c.args.book.limit) c.args.until.left c.args.book ((g.met.D.Disk g.world.𝓛 g.world.𝓜 g.world.𝓡 ((λ s x. x), (λ x. x), (λ x. x), (λ x. x))).only_now c.args.book.disk)

pub give_back_ends-requires : goal.give_back_ends-requires
give_back_ends-requires g c = all_read_on g.H.Src.Source.source (g.H.Shelf.shelf c.args.shelf.now) g.R.Rules.meaning (g.C.Clock.told c.args.clock.now) c.args.until.left c.args.book.state _ _ c.args.workers.items _ c.requires.fetched c.in-Ok.ensures.ok.each

pub returns-in-Ok-clause-worked : goal.returns-in-Ok-clause-worked
returns-in-Ok-clause-worked g c = λ first told.
    round_worked g.D.Disk.disk g.H.Src.Source.source (outside g.R.Rules.meaning first (g.C.Clock.told c.args.clock.now) c.args.book.limit) (g.H.Shelf.shelf c.args.shelf.now) told c.args.until.left c.args.book _ c.args.workers.items _ c.requires.fetched c.in-Ok.ensures.ok

pub returns-in-Err-clause-worked : goal.returns-in-Err-clause-worked
returns-in-Err-clause-worked g c = λ first told.
    let o = outside g.R.Rules.meaning first (g.C.Clock.told c.args.clock.now) c.args.book.limit in
    subst (λ b. IsWorkedOn g.D.Disk.disk o c.args.until.left c.args.book b) (sym c.in-Err.ensures.err.0)
    (works_nothing {disk = g.D.Disk.disk} o c.args.until.left c.args.book ((g.met.D.Disk g.world.𝓛 g.world.𝓜 g.world.𝓡 ((λ s x. x), (λ x. x), (λ x. x), (λ x. x))).only_now c.args.book.disk))
