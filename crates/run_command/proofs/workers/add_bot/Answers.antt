use Rattle.run_command.proofs.workers.add_bot.Goals as goal

pub returns-in-None-clause-fetched : goal.returns-in-None-clause-fetched
returns-in-None-clause-fetched g c = c.add_instances.ensures (g.H.Shelf.shelf c.args.shelf.now)
