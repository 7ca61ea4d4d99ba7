use Rattle.std.proofs.Common.{nat_le}
use Rattle.edge_memory.proofs.Numbers.{take_counted}
use Rattle.edge_memory.proofs.log.Log.past.Goals as goal

pub returns : goal.returns
returns c =
    take_counted (λ e. nat_le e.number c.args.call) c.args.self.now.entries.items c.deref-2.result.now c.deref.result.now c.count_until.result c.deref-2.ensures.value c.deref.ensures.value c.count_until.ensures
