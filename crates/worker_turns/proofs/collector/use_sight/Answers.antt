use Rattle.std.proofs.Common.{◌≡◌, None, MatchOption, sym, subst}
use Rattle.worker_turns.specs.Collecting.{IsLooked}
use Rattle.worker_turns.proofs.Collecting.{ended_if}
use Rattle.worker_turns.proofs.Holding.{adds_none}
use Rattle.worker_turns.proofs.collector.use_sight.Goals as goal

pub returns-in-None-clause-adds : goal.returns-in-None-clause-adds
returns-in-None-clause-adds g c = λ content stands. adds_none c.args.locked.now c.args.worker.now.steps.items c.requires.unmarked

pub returns-in-Some-clause-ends : goal.returns-in-Some-clause-ends
returns-in-Some-clause-ends g c =
    let old = c.args.locked.now in let new = c.collect.new.locked in let worker = c.args.worker.now in
    subst (λ o. MatchOption c.collect.result (new.mark ≡ None) (IsLooked g.R.Rules.meaning c.args.left old new worker.bot worker.file o)) (sym c.in-Some.is)
    (ended_if g.R.Rules.meaning c.args.left old new worker.bot worker.file c.in-Some.sight c.collect.result c.collect.ensures.ends)
