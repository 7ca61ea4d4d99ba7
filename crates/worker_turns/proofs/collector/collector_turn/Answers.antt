use Rattle.std.proofs.Common.{sym, ap, subst, ◌∙◌}
use Rattle.step_code.specs.declared.base.Base.{Base}
use Rattle.worker_turns.specs.Collecting.{IsNextLook}
use Rattle.worker_turns.proofs.Collecting.{looks_on, looks_or_adds}
use Rattle.worker_turns.proofs.collector.collector_turn.Goals as goal

pub returns-in-None-clause-looked : goal.returns-in-None-clause-looked
returns-in-None-clause-looked g c =
    let m = g.R.Rules.meaning in let new = c.use_sight.new.locked in
    let next =
    subst (λ w. IsNextLook m new.book.state w.bot w.file c.next_look.result) c.use_sight.ensures.worker
    (subst (λ (s : Base). IsNextLook m s c.use_sight.new.worker.bot c.use_sight.new.worker.file c.next_look.result) (ap (λ k. k.state) c.core.ensures.core) c.next_look.ensures) in
    looks_on c.args.left c.args.locked.now new c.args.worker.now.bot c.args.worker.now.file c.args.sight c.next_look.result c.core.ensures.round (sym c.mark.ensures ∙ c.in_default.is) c.in-None.ensures.ends next

pub returns-in-None-clause-moves : goal.returns-in-None-clause-moves
returns-in-None-clause-moves g c = λ unmarked.
    looks_or_adds g.R.Rules.meaning _ _ _ c.args.locked.now c.use_sight.new.locked c.args.sight _ c.next_look.result c.next_look.ensures c.in-None.ensures.moves
