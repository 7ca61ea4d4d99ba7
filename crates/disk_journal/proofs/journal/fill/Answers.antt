use Rattle.std.proofs.Common.{◌∙◌, ap}
use Rattle.edge_traits.specs.Disk.{overwritten}
use Rattle.disk_journal.proofs.Appends.{filled}
use Rattle.disk_journal.proofs.journal.fill.Goals as goal

pub returns-clause-record : goal.returns-clause-record
returns-clause-record c =
    filled c.args.buffer.now c.put.new.buffer c.put-2.new.buffer c.put-3.new.buffer c.args.body.now c.requires (c.put.ensures.put ∙ ap (overwritten c.args.buffer.now 0) c.to_be_bytes.ensures) c.put.ensures.len c.put-2.ensures.put c.put-2.ensures.len c.put-3.ensures.put
