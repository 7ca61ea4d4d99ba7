use Rattle.std.proofs.Common.{rules}
use Rattle.bot_runner.proofs.Calling.{left_so}
use Rattle.bot_runner.proofs.calls.call_each_beside.Goals as goal

pub returns-clause-beside : goal.returns-clause-beside
returns-clause-beside g c = left_so g.G.Fn c.args.beside.now c.args.mine.now c.join_mut.new.g.1.now _ c.args.other.now c.join_mut.new.g.2.now _ c.join_mut.ensures.1.met.1 (search rules) (search rules)
