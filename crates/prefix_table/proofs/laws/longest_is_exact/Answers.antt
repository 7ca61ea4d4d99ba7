use Rattle.prefix_table.proofs.Greatest.{longest-Some, longest-None, longest_is, longest_is_none}
use Rattle.prefix_table.proofs.laws.longest_is_exact.Goals as goal

pub returns-clause-found : goal.returns-clause-found
returns-clause-found c = λ i. (longest-Some c.args.rows.now c.args.ip.now i, longest_is c.args.rows.now c.args.ip.now i)

pub returns-clause-none : goal.returns-clause-none
returns-clause-none c = (longest-None c.args.rows.now c.args.ip.now, longest_is_none c.args.rows.now c.args.ip.now)
