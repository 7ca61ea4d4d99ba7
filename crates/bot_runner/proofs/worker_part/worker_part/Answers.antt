use Rattle.std.proofs.Common.{refl, Some, None}
use Rattle.book_lock.specs.Seats.{knows, opening}
use Rattle.bot_runner.proofs.Worked.{collector_worked, instance_worked}
use Rattle.bot_runner.proofs.worker_part.worker_part.Goals as goal

pub returns-in-None-clause-worked : goal.returns-in-None-clause-worked
returns-in-None-clause-worked g c =
    let r = c.instance_part-seat.result in
    let w = c.args.worker in
    instance_worked g.S.Source.source g.R.Rules.meaning (g.C.Clock.told c.args.outside.now.clock.now) c.args.outside.now.left (opening c.args.lock.now).opening w (knows r.0)
    (record { steps = r.1; why = r.2; worker = Some (record { bot = w.bot; instance = w.instance; feed = None }) }) c.in-None.is refl c.instance_part-seat.ensures.ended

pub returns-in-Some-clause-worked : goal.returns-in-Some-clause-worked
returns-in-Some-clause-worked g c =
    let r = c.collector_part-seat.result in
    let w = c.args.worker in
    collector_worked g.S.Source.source g.R.Rules.meaning (g.C.Clock.told c.args.outside.now.clock.now) c.args.outside.now.left (opening c.args.lock.now).opening w (knows r.0)
    (record { steps = r.2; why = r.3; worker = Some (record { bot = w.bot; instance = w.instance; feed = Some r.1 }) }) c.in-Some.feed r.1 c.in-Some.is refl c.collector_part-seat.ensures.feed c.collector_part-seat.ensures.failures c.collector_part-seat.ensures.ended
