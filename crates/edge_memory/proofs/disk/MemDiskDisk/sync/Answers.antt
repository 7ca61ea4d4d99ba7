use Rattle.edge_memory.proofs.Outcomes.{sync_adds}
use Rattle.edge_memory.proofs.Steps.{elapses, keeps_past}
use Rattle.edge_memory.proofs.disk.MemDiskDisk.sync.Goals as goal

pub returns-clause-time : goal.returns-clause-time
returns-clause-time c = elapses c.args.self.now c.change.new.self c.change.ensures.time

pub returns-clause-past : goal.returns-clause-past
returns-clause-past c = keeps_past _ _ c.change.ensures.time

pub returns-clause-crash : goal.returns-clause-crash
returns-clause-crash c = sync_adds c.change.result c.args.file c.change.new.self.log.calls c.args.self.now.log.entries.items c.change.new.self.log.entries.items c.change.ensures.ok c.change.ensures.err
