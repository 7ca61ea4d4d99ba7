use Rattle.tests_orders.proofs.tests.+add_orders.Given as goal

abbrev pub decreases-add_orders : goal.decreases-add_orders
decreases-add_orders g l = l.many
