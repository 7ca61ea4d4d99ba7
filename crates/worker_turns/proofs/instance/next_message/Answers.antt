use Rattle.std.proofs.Common.{IfSome, sym, ap, subst}
use Rattle.worker_turns.specs.Holds.{IsReadyFor}
use Rattle.worker_turns.proofs.Holding.{ready_later}
use Rattle.worker_turns.proofs.instance.next_message.Goals as goal

pub returns-in-Err-clause-ready : goal.returns-in-Err-clause-ready
returns-in-Err-clause-ready g c =
    subst (λ ready. IfSome ready (IsReadyFor g.R.Rules.meaning g.R.Rules.task_of c.take_next.new.locked c.args.worker.now.bot)) (sym (ap (λ w. w.ready) c.take_next.ensures.worker))
    (ready_later g.R.Rules.task_of c.args.locked.now c.take_next.new.locked c.args.worker.now.steps.items c.take_next.new.worker.steps.items c.args.worker.now.bot c.args.worker.now.ready c.take_next.ensures.adds c.requires.ready)
