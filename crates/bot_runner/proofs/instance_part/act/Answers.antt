use Rattle.std.proofs.Common.{◌≡◌, sym, subst, refl, Option, Some, None, IfSome}
use Rattle.book_lock.specs.Seats.{knows, opening}
use Rattle.worker_turns.specs.Holds.{IsDone}
use Rattle.worker_turns.specs.declared.job.Done.{Done}
use Rattle.worker_turns.specs.declared.turned.HoldEnd.TheVariants as end
use Rattle.bot_runner.specs.Parts.{HasHeld}
use Rattle.bot_runner.specs.Round.{InstanceEnds, IsWhy}
use Rattle.bot_runner.proofs.Instances.{acted, acted_worked, gave_ok, idle, rests, why_is}
use Rattle.bot_runner.proofs.instance_part.act.Goals as goal

pub returns-in-Some-clause-acted : goal.returns-in-Some-clause-acted
returns-in-Some-clause-acted g c =
    let m = g.R.Rules.meaning in
    let a = c.args.work.now.worker in
    let left = c.args.outside.now.left in
    let o = (opening c.args.lock.now).opening in
    let clock = g.C.Clock.told c.args.outside.now.clock.now in
    let l = c.look-seat.ensures.looked clock left (idle m g.R.Rules.task_of clock left o a.bot a.number _ a _ c.requires.at_work) in
    let mark = subst (λ x. IfSome x (λ mark. l.at.v.mark ≡ Some mark)) c.in-Some.is l.mark in
    acted m g.R.Rules.task_of clock left o a.bot a.number _ (record { worker = a; done = None; quiet = c.args.work.now.quiet; waits = _ }) l.at refl (Some c.why_of.result)
    (subst (IsWhy m left (InstanceEnds m a.bot a.number) o.state l.at.v.made l.at.v.mark) (sym c.why_of.ensures) (why_is m left (InstanceEnds m a.bot a.number) o.state l.at.v (end.Found c.in-Some.mark) mark))

pub returns-in-None-clause-acted : goal.returns-in-None-clause-acted
returns-in-None-clause-acted g c =
    let m = g.R.Rules.meaning in
    let a = c.args.work.now.worker in
    let left = c.args.outside.now.left in
    let o = (opening c.args.lock.now).opening in
    let clock = g.C.Clock.told c.args.outside.now.clock.now in
    let l = c.look-seat.ensures.looked clock left (idle m g.R.Rules.task_of clock left o a.bot a.number _ a _ c.requires.at_work) in
    acted m g.R.Rules.task_of clock left o a.bot a.number _ (record { worker = a; done = None; quiet = c.args.work.now.quiet; waits = _ }) l.at refl None tt

pub returns-then-work-ge-QUIET_LOOKS-clause-acted : goal.returns-then-work-ge-QUIET_LOOKS-clause-acted
returns-then-work-ge-QUIET_LOOKS-clause-acted g c =
    let m = g.R.Rules.meaning in
    let a = c.args.work.now.worker in
    let left = c.args.outside.now.left in
    let o = (opening c.args.lock.now).opening in
    let clock = g.C.Clock.told c.args.outside.now.clock.now in
    let h = subst (HasHeld m g.R.Rules.task_of clock left o a.bot a.number (knows c.hold-seat.result.0) c.hold-seat.new.worker) c.in-Nothing.is c.hold-seat.ensures.held in
    acted m g.R.Rules.task_of clock left o a.bot a.number _ (record { worker = c.hold-seat.new.worker; done = c.take.new.self; quiet = c.saturating_add-work.result; waits = c.args.work.now.waits }) h.at c.take.ensures.after _
    (rests m g.R.Rules.task_of clock left o a.bot a.number (knows c.hold-seat.result.0) c.hold-seat.new.worker c.in-Nothing.at c.in-Nothing.idle h)

pub returns-in-Ok-clause-acted : goal.returns-in-Ok-clause-acted
returns-in-Ok-clause-acted g c =
    let m = g.R.Rules.meaning in
    let a = c.args.work.now.worker in
    let left = c.args.outside.now.left in
    let o = (opening c.args.lock.now).opening in
    let clock = g.C.Clock.told c.args.outside.now.clock.now in
    let h = subst (HasHeld m g.R.Rules.task_of clock left o a.bot a.number (knows c.hold-seat.result.0) c.hold-seat.new.worker) c.in-Holds.is c.hold-seat.ensures.held in
    acted_worked m g.R.Rules.task_of clock left o a.bot a.number (knows c.hold-seat.result.0) (record { worker = c.work_on.new.worker; done = Some c.in-Ok.done; quiet = 0; waits = c.args.work.now.waits }) c.hold-seat.new.worker c.in-Holds.job c.work_on.result h
    c.work_on.ensures.worker c.work_on.ensures.ready
    (gave_ok m g.R.Rules.task_of clock left o a.bot a.number (knows c.hold-seat.result.0) c.hold-seat.new.worker c.work_on.new.worker.ready c.in-Holds.job c.work_on.result h c.work_on.ensures.ready c.in-Ok.done c.in-Ok.is) None tt

pub returns-in-Err-clause-acted : goal.returns-in-Err-clause-acted
returns-in-Err-clause-acted g c =
    let m = g.R.Rules.meaning in
    let a = c.args.work.now.worker in
    let left = c.args.outside.now.left in
    let o = (opening c.args.lock.now).opening in
    let clock = g.C.Clock.told c.args.outside.now.clock.now in
    let h = subst (HasHeld m g.R.Rules.task_of clock left o a.bot a.number (knows c.hold-seat.result.0) c.hold-seat.new.worker) c.in-Holds.is c.hold-seat.ensures.held in
    acted_worked m g.R.Rules.task_of clock left o a.bot a.number (knows c.hold-seat.result.0) (record { worker = c.work_on.new.worker; done = c.take.new.self; quiet = 0; waits = c.args.work.now.waits }) c.hold-seat.new.worker c.in-Holds.job c.work_on.result h
    c.work_on.ensures.worker c.work_on.ensures.ready (subst (λ (d : Option Done). IfSome d (IsDone m h.at.v a.bot)) (sym c.take.ensures.after) tt) _ tt

pub returns-in-Ended-clause-acted : goal.returns-in-Ended-clause-acted
returns-in-Ended-clause-acted g c =
    let m = g.R.Rules.meaning in
    let a = c.args.work.now.worker in
    let left = c.args.outside.now.left in
    let o = (opening c.args.lock.now).opening in
    let clock = g.C.Clock.told c.args.outside.now.clock.now in
    let h = subst (HasHeld m g.R.Rules.task_of clock left o a.bot a.number (knows c.hold-seat.result.0) c.hold-seat.new.worker) c.in-Ended.is c.hold-seat.ensures.held in
    acted m g.R.Rules.task_of clock left o a.bot a.number _ (record { worker = c.hold-seat.new.worker; done = c.take.new.self; quiet = c.args.work.now.quiet; waits = c.args.work.now.waits }) h.at c.take.ensures.after (Some c.why_of-in-Ended.result)
    (subst (IsWhy m left (InstanceEnds m a.bot a.number) o.state h.at.v.made h.at.v.mark) (sym c.why_of-in-Ended.ensures) (why_is m left (InstanceEnds m a.bot a.number) o.state h.at.v c.in-Ended.end h.came))
