use Rattle.std.proofs.Common.{IfSome, sym, ap, subst}
use Rattle.worker_turns.specs.Holds.{Adds, IsInstanceStep, IsReadyFor}
use Rattle.worker_turns.proofs.Holding.{adds_on, more_still, ready_later}
use Rattle.worker_turns.proofs.instance.instance_turn.Goals as goal

pub returns-in-Ok-Some-next_message-clause-adds : goal.returns-in-Ok-Some-next_message-clause-adds
returns-in-Ok-Some-next_message-clause-adds g c = λ unmarked.
    let old = c.args.worker.now in let mid = c.end_work.new.worker in let new = c.next_message.new.worker in
    let rest =
    subst (λ w. Adds g.R.Rules.meaning (IsInstanceStep (g.C.Clock.told c.args.clock.now) w.bot w.number) c.end_work.new.locked c.next_message.new.locked mid.steps.items new.steps.items) c.end_work.ensures.worker c.next_message.ensures.adds in
    adds_on c.args.locked.now c.end_work.new.locked c.next_message.new.locked old.steps.items mid.steps.items new.steps.items c.end_work.ensures.adds c.in-Ok-None.ensures.unmarked rest

pub returns-in-Ok-None-next_message-clause-adds : goal.returns-in-Ok-None-next_message-clause-adds
returns-in-Ok-None-next_message-clause-adds g c = λ unmarked.
    let old = c.args.worker.now in let mid = c.end_work.new.worker in let new = c.next_message.new.worker in
    let rest =
    subst (λ w. Adds g.R.Rules.meaning (IsInstanceStep (g.C.Clock.told c.args.clock.now) w.bot w.number) c.end_work.new.locked c.next_message.new.locked mid.steps.items new.steps.items) c.end_work.ensures.worker c.next_message.ensures.adds in
    adds_on c.args.locked.now c.end_work.new.locked c.next_message.new.locked old.steps.items mid.steps.items new.steps.items c.end_work.ensures.adds c.in-Ok-None.ensures.unmarked rest

pub returns-in-Err-next_message-clause-adds : goal.returns-in-Err-next_message-clause-adds
returns-in-Err-next_message-clause-adds g c = λ unmarked.
    let old = c.args.worker.now in let mid = c.end_work.new.worker in let new = c.next_message.new.worker in
    let rest =
    subst (λ w. Adds g.R.Rules.meaning (IsInstanceStep (g.C.Clock.told c.args.clock.now) w.bot w.number) c.end_work.new.locked c.next_message.new.locked mid.steps.items new.steps.items) c.end_work.ensures.worker c.next_message.ensures.adds in
    adds_on c.args.locked.now c.end_work.new.locked c.next_message.new.locked old.steps.items mid.steps.items new.steps.items c.end_work.ensures.adds c.in-Ok-None.ensures.unmarked rest

pub returns-in-Err-clause-ready : goal.returns-in-Err-clause-ready
returns-in-Err-clause-ready g c =
    subst (λ ready. IfSome ready (IsReadyFor g.R.Rules.meaning g.R.Rules.task_of c.end_work.new.locked c.args.worker.now.bot)) (sym (ap (λ w. w.ready) c.end_work.ensures.worker))
    (ready_later g.R.Rules.task_of c.args.locked.now c.end_work.new.locked c.args.worker.now.steps.items c.end_work.new.worker.steps.items c.args.worker.now.bot c.args.worker.now.ready c.end_work.ensures.adds c.requires.ready)

pub returns-in-Ok-Some-next_message-clause-moves : goal.returns-in-Ok-Some-next_message-clause-moves
returns-in-Ok-Some-next_message-clause-moves g c = λ unmarked. more_still c.args.locked.now c.end_work.new.locked c.next_message.new.locked _ _ c.args.done _ c.next_message.ensures.adds c.in-Ok-None.ensures.moves

pub returns-in-Ok-None-next_message-clause-moves : goal.returns-in-Ok-None-next_message-clause-moves
returns-in-Ok-None-next_message-clause-moves g c = λ unmarked. more_still c.args.locked.now c.end_work.new.locked c.next_message.new.locked _ _ c.args.done _ c.next_message.ensures.adds c.in-Ok-None.ensures.moves
