use Rattle.std.proofs.Common.{◌≡◌, true, ap, subst}
use Rattle.step_code.specs.declared.base.Base.{Base}
use Rattle.turn_order.specs.Turn.{may_take}
use Rattle.worker_turns.proofs.Holding.{adds_mark, adds_none, adds_one, carried, full_after, take_is_own}
use Rattle.worker_turns.proofs.instance.take_next.Goals as goal

pub returns-then-is_some-clause-adds : goal.returns-then-is_some-clause-adds
returns-then-is_some-clause-adds g c = adds_none c.args.locked.now c.args.worker.now.steps.items c.requires.unmarked

pub returns-then-not-may_take-clause-adds : goal.returns-then-not-may_take-clause-adds
returns-then-not-may_take-clause-adds g c = adds_none c.args.locked.now c.args.worker.now.steps.items c.requires.unmarked

pub commit_own-requires-clause-carries : goal.commit_own-requires-clause-carries
commit_own-requires-clause-carries g c = carried g.R.Rules.meaning c.core-core.result.now.state c.args.locked.now.book.state _ c.take_move-what.result (ap (λ k. k.state) c.core-core.ensures.core) c.take_move-what.ensures.is

pub returns-in-Ok-clause-full : goal.returns-in-Ok-clause-full
returns-in-Ok-clause-full g c =
    let free = c.may_take.ensures.free c.if-not-may_take.false in
    let state = ap (λ k. k.state) c.core-core.ensures.core in
    λ full. full_after c.args.worker.now.bot c.args.worker.now.number c.in-Ok.ensures.ok c.take_move-what.ensures.is.is (subst (λ (s : Base). may_take s c.args.worker.now.bot ≡ true) state free.takes)

pub returns-in-Ok-clause-adds : goal.returns-in-Ok-clause-adds
returns-in-Ok-clause-adds g c =
    adds_one c.args.locked.now c.commit_own.new.locked c.args.worker.now.steps.items c.commit_own.new.steps.items c.in-Ok.ensures.ok (take_is_own c.args.worker.now.bot c.args.worker.now.number c.in-Ok.ensures.ok c.take_move-what.ensures.is.is)

pub returns-in-Err-clause-adds : goal.returns-in-Err-clause-adds
returns-in-Err-clause-adds g c = adds_mark c.args.locked.now c.commit_own.new.locked c.args.worker.now.steps.items c.commit_own.new.steps.items c.in-Err.ensures.err
