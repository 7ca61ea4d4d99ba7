use Rattle.disk_journal.proofs.Reopening.{read_bodies_of}
use Rattle.disk_journal.proofs.Walking.{records_of}
use Rattle.disk_journal.proofs.reading.read_records.Goals as goal

pub returns-then-found-clause-records : goal.returns-then-found-clause-records
returns-then-found-clause-records g c = λ files told.
    records_of c.args.heading c.in-Ok.found.bodies c.in-Ok.found.at c.in-Ok.found.is_cut (files c.args.file) (c.in-Ok.ensures.records files told) c.if-found.true

pub returns-else-found-clause-records : goal.returns-else-found-clause-records
returns-else-found-clause-records g c = λ files told.
    let is = c.in-Ok.ensures.records files told in
    read_bodies_of c.args.heading c.in-Ok.found.bodies c.in-Ok.found.at (files c.args.file) is.to (is.closed c.if-found.false)
