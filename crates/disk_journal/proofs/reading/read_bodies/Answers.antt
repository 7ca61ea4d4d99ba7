use Rattle.std.proofs.Common.{inr}
use Rattle.disk_journal.proofs.Walking.{cut_at, head_is_damage}
use Rattle.disk_journal.proofs.reading.read_bodies.Goals as goal

pub returns-then-found-clause-fault : goal.returns-then-found-clause-fault
returns-then-found-clause-fault g c = λ files told.
    let is = c.in-Ok.ensures.records files told in
    inr (inr (cut_at c.args.heading c.in-Ok.found.bodies c.in-Ok.found.at (files c.args.file) is.to (is.cut c.if-found.true)))

pub returns-else-found-clause-bodies : goal.returns-else-found-clause-bodies
returns-else-found-clause-bodies g c = λ files told.
    let is = c.in-Ok.ensures.records files told in
    (is.to, is.closed c.if-found.false)

pub returns-in-Err-clause-fault : goal.returns-in-Err-clause-fault
returns-in-Err-clause-fault g c = λ files told. head_is_damage c.in-Err.fault c.args.heading (files c.args.file) (c.in-Err.ensures.fault files told)
