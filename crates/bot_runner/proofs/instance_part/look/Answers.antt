use Rattle.std.proofs.Common.{sym, ap, subst, ◌∙◌, refl, [], None}
use Rattle.std.proofs.lemmas.List.{append-nil}
use Rattle.book_lock.specs.Seats.{found, grown, opening, Known}
use Rattle.locked_book.specs.Entries.{entries_of}
use Rattle.bot_runner.specs.Parts.{HasLooked}
use Rattle.bot_runner.proofs.Instances.{looked_on, state_of}
use Rattle.bot_runner.proofs.instance_part.look.Goals as goal

pub unlock-requires : goal.unlock-requires
unlock-requires g c =
    let is = c.take_turn-held.ensures.turn.2 ∙ ap (entries_of g.R.Rules.meaning) (sym c.value-locked.ensures.value) in
    ([], append-nil (found c.take_turn-held.result) ∙ is)

pub returns-clause-looked : goal.returns-clause-looked
returns-clause-looked g c = λ clock left at.
    let h = c.take_turn-held in
    let m = g.R.Rules.meaning in
    let o = (opening c.args.lock.now).opening in
    let old = c.value-locked.result.now in
    let is = h.ensures.turn.2 ∙ ap (entries_of m) (sym c.value-locked.ensures.value) in
    subst (λ (k : Known _). HasLooked m g.R.Rules.task_of clock left o c.args.worker.now.bot c.args.worker.now.number k c.args.worker.now c.mark-mark.result)
    (sym (c.unlock.ensures.seat ∙ ap (λ (k : Known _). grown k (found h.result) (entries_of m old)) h.ensures.turn.1))
    (looked_on m g.R.Rules.task_of clock left o c.args.worker.now.bot c.args.worker.now.number _ c.args.worker.now None at old _ is h.ensures.seen c.mark-mark.result h.ensures.mine (state_of old c.core.ensures.round) c.mark-mark.ensures refl)

pub returns-clause-lock : goal.returns-clause-lock
returns-clause-lock g c = c.unlock.ensures.lock c.take_turn-held.result.here ∙ (sym c.take_turn-held.result.here ∙ c.take_turn-held.ensures.turn.0)
