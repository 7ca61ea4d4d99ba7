use Rattle.run_command.proofs.workers.+add_instances.Given as goal

abbrev pub decreases-add_instances : goal.decreases-add_instances
decreases-add_instances g l = l.instances
