use Rattle.std.proofs.Common.{◌+◌, arith}
use Rattle.edge_memory.proofs.Numbers.{numbered_up}
use Rattle.edge_memory.proofs.log.Log.count.Goals as goal

pub invariant_of-self : goal.invariant_of-self
invariant_of-self c = record {
  numbered = numbered_up c.args.self.now.calls (c.args.self.now.calls + 1) c.args.self.now.entries.items (omega arith) c.args.self.now.numbered;
  present = c.args.self.now.present;
}
