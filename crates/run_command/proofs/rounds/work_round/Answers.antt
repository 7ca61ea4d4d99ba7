use Rattle.std.proofs.Common.{sym, ◌∙◌}
use Rattle.run_command.proofs.Fetched.{keeps_on}
use Rattle.run_command.proofs.rounds.work_round.Goals as goal

pub returns-clause-worked : goal.returns-clause-worked
returns-clause-worked g c = λ first told. c.round.ensures.worked first (told ∙ sym c.workers_of-workers.ensures.keeps.told)

pub returns-clause-keeps : goal.returns-clause-keeps
returns-clause-keeps g c = keeps_on (g.H.Shelf.shelf c.args.shelf.now) (g.H.Shelf.shelf c.workers_of-workers.new.shelf) (g.H.Shelf.shelf c.round.new.shelf) c.workers_of-workers.ensures.keeps c.round.ensures.keeps
