use Rattle.worker_turns.proofs.Holding.{adds_none}
use Rattle.worker_turns.proofs.instance.end_work.Goals as goal

pub returns-in-None-clause-adds : goal.returns-in-None-clause-adds
returns-in-None-clause-adds g c = adds_none c.args.locked.now c.args.worker.now.steps.items c.requires.unmarked
