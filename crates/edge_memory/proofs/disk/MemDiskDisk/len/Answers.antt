use Rattle.edge_memory.proofs.Steps.{elapses}
use Rattle.edge_memory.proofs.disk.MemDiskDisk.len.Goals as goal

pub returns-in_err-look-clause-time : goal.returns-in_err-look-clause-time
returns-in_err-look-clause-time c = elapses c.args.self.now c.look.new.self c.look.ensures.time

pub returns-clause-time : goal.returns-clause-time
returns-clause-time c = elapses c.args.self.now c.look.new.self c.look.ensures.time
