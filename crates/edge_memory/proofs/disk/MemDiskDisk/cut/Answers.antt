use Rattle.std.proofs.Common.{refl}
use Rattle.std.proofs.lemmas.Result.{on_err_weaker}
use Rattle.edge_memory.proofs.Outcomes.{part_left}
use Rattle.edge_memory.proofs.Steps.{elapses, keeps_past}
use Rattle.edge_memory.proofs.disk.MemDiskDisk.cut.Goals as goal

pub returns-clause-time : goal.returns-clause-time
returns-clause-time c = elapses c.args.self.now c.change.new.self c.change.ensures.time

pub returns-clause-past : goal.returns-clause-past
returns-clause-past c = keeps_past _ _ c.change.ensures.time

pub returns-clause-noted : goal.returns-clause-noted
returns-clause-noted c =
    on_err_weaker c.change.result (λ noted whole d left was cut. part_left c.args.file c.change.new.self.log.calls c.args.self.now.log.entries.items c.change.new.self.log.entries.items _ left (noted _ refl whole) (d, was, cut)) c.change.ensures.noted
