use Rattle.std.proofs.Common.{sym, ap, subst}
use Rattle.step_code.specs.declared.base.Base.{Base}
use Rattle.worker_turns.specs.Collecting.{IsInSight}
use Rattle.worker_turns.proofs.Collecting.{found_step}
use Rattle.worker_turns.proofs.Holding.{adds_mark, adds_none, adds_one, one_more}
use Rattle.worker_turns.proofs.collector.collect.Goals as goal

pub returns-in-Err-clause-adds : goal.returns-in-Err-clause-adds
returns-in-Err-clause-adds g c = λ content stands. adds_none c.args.locked.now c.args.worker.now.steps.items c.requires.unmarked

pub returns-in-Ok-commit_own-clause-adds : goal.returns-in-Ok-commit_own-clause-adds
returns-in-Ok-commit_own-clause-adds g c = λ content stands.
    let committed = c.in-Ok-commit_own.ensures.ok in
    let in_sight = subst (λ (s : Base). IsInSight g.R.Rules.meaning s c.args.worker.now.bot c.args.sight.place) (ap (λ k. k.state) c.core.ensures.core) (c.is_in_sight.ensures.there c.if-not-is_in_sight.false) in
    adds_one c.args.locked.now c.commit_own.new.locked c.args.worker.now.steps.items c.commit_own.new.steps.items committed
    (found_step content c.args.worker.now.bot c.args.worker.now.file c.args.sight committed c.core.ensures.round c.requires.sight in_sight stands c.in-Ok.ensures.is)

pub returns-in-Err-commit_own-clause-adds : goal.returns-in-Err-commit_own-clause-adds
returns-in-Err-commit_own-clause-adds g c = λ content stands. adds_mark c.args.locked.now c.commit_own.new.locked c.args.worker.now.steps.items c.commit_own.new.steps.items c.in-Err-commit_own.ensures.err

pub returns-then-not-is_in_sight-clause-moves : goal.returns-then-not-is_in_sight-clause-moves
returns-then-not-is_in_sight-clause-moves g c = λ in_sight. absurd (c.is_in_sight.ensures.other c.if-not-is_in_sight.true (subst (λ (s : Base). IsInSight g.R.Rules.meaning s c.args.worker.now.bot c.args.sight.place) (sym (ap (λ k. k.state) c.core.ensures.core)) in_sight))

pub returns-in-Ok-commit_own-clause-moves : goal.returns-in-Ok-commit_own-clause-moves
returns-in-Ok-commit_own-clause-moves g c = λ in_sight. one_more c.in-Ok-commit_own.ensures.ok
