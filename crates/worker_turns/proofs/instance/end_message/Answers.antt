use Rattle.std.proofs.Common.{sym, ap, subst}
use Rattle.step_code.specs.declared.base.Base.{Base}
use Rattle.worker_turns.specs.Holds.{IsInHand}
use Rattle.worker_turns.proofs.Holding.{adds_mark, adds_none, adds_one, carried, given_in_hand, one_more, work_is_own}
use Rattle.worker_turns.proofs.instance.end_message.Goals as goal

pub given_move-requires-clause-gave : goal.given_move-requires-clause-gave
given_move-requires-clause-gave g c =
    given_in_hand c.args.locked.now c.core-core.result.now.state c.args.worker.now.bot c.args.worker.now.number c.args.done c.core-core.ensures.round (sym (ap (λ k. k.state) c.core-core.ensures.core)) c.requires.done (c.is_in_hand.ensures.there c.if-not-is_in_hand.false)

pub returns-in-Err-clause-adds : goal.returns-in-Err-clause-adds
returns-in-Err-clause-adds g c = adds_none c.args.locked.now c.args.worker.now.steps.items c.requires.unmarked

pub commit_own-requires-clause-carries : goal.commit_own-requires-clause-carries
commit_own-requires-clause-carries g c = carried g.R.Rules.meaning c.core-core.result.now.state c.args.locked.now.book.state _ c.in-Ok.what (ap (λ k. k.state) c.core-core.ensures.core) c.in-Ok.ensures.is

pub returns-in-Ok-commit_own-clause-adds : goal.returns-in-Ok-commit_own-clause-adds
returns-in-Ok-commit_own-clause-adds g c =
    let committed = c.in-Ok-commit_own.ensures.ok in
    adds_one c.args.locked.now c.commit_own.new.locked c.args.worker.now.steps.items c.commit_own.new.steps.items committed (work_is_own c.args.worker.now.bot c.args.worker.now.number committed c.in-Ok.ensures.is.is)

pub returns-clause-adds : goal.returns-clause-adds
returns-clause-adds g c = adds_mark c.args.locked.now c.commit_own.new.locked c.args.worker.now.steps.items c.commit_own.new.steps.items c.in-Err-commit_own.ensures.err

pub returns-then-not-is_in_hand-clause-moves : goal.returns-then-not-is_in_hand-clause-moves
returns-then-not-is_in_hand-clause-moves g c = λ holds. absurd (c.is_in_hand.ensures.other c.if-not-is_in_hand.true (subst (λ (s : Base). IsInHand s c.args.worker.now.bot c.args.worker.now.number c.args.done.job) (sym (ap (λ k. k.state) c.core-core.ensures.core)) holds))

pub returns-in-Ok-commit_own-clause-moves : goal.returns-in-Ok-commit_own-clause-moves
returns-in-Ok-commit_own-clause-moves g c = λ holds. one_more c.in-Ok-commit_own.ensures.ok
