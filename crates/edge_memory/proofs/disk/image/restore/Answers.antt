use Rattle.std.proofs.Common.{reverse}
use Rattle.edge_memory.proofs.Restored.{found_pushed}
use Rattle.edge_memory.proofs.disk.image.restore.Goals as goal

pub returns-clause-found : goal.returns-clause-found
returns-clause-found c =
    found_pushed c.push.result c.args.choice.now (reverse c.args.past.now) c.args.log.now.entries.items c.push.new.self.entries.items c.args.log.now.calls c.args.file c.in_ok-bytes.bytes c.in_ok-bytes.ensures c.push.ensures.ok
