use Rattle.std.proofs.Common.{[], None, Err, sym, ap, subst, ◌∙◌}
use Rattle.book_lock.specs.Seats.{found, grown, opening, Known}
use Rattle.locked_book.specs.Entries.{entries_of}
use Rattle.worker_turns.specs.declared.turned.HoldEnd.TheVariants as end
use Rattle.bot_runner.specs.Parts.{HasWaited}
use Rattle.bot_runner.proofs.Instances.{grows_prefix, state_of}
use Rattle.bot_runner.proofs.Waiting.{stopped_on, waits_grow, Nothing}
use Rattle.bot_runner.proofs.caller_part.stop_hold.Goals as goal

pub unlock-requires : goal.unlock-requires
unlock-requires g c =
    let m = g.R.Rules.meaning in
    let is = c.take_turn-held.ensures.turn.2 ∙ ap (entries_of m) (sym c.value-locked.ensures.value) in
    let t = c.stop_turn-mark in
    grows_prefix {left = None} {Is = Nothing} c.value-locked.result.now t.new.locked [] [] _ is (waits_grow m c.value-locked.result.now t.new.locked t.ensures.still t.ensures.marks)

pub returns-clause-waited : goal.returns-clause-waited
returns-clause-waited g c =
    let h = c.take_turn-held in
    let t = c.stop_turn-mark in
    let m = g.R.Rules.meaning in
    let o = (opening c.args.lock.now).opening in
    let old = c.value-locked.result.now in
    let is = h.ensures.turn.2 ∙ ap (entries_of m) (sym c.value-locked.ensures.value) in
    subst (λ (k : Known _). HasWaited m o k (Err (end.Found t.result)))
    (sym (c.unlock.ensures.seat ∙ ap (λ (k : Known _). grown k (found h.result) (entries_of m t.new.locked)) h.ensures.turn.1))
    (stopped_on m o _ old t.new.locked _ t.result c.requires.waiting is h.ensures.seen h.ensures.mine (state_of old c.core.ensures.round) t.ensures.still t.ensures.marks t.ensures.mark)

pub returns-clause-lock : goal.returns-clause-lock
returns-clause-lock g c = c.unlock.ensures.lock c.take_turn-held.result.here ∙ (sym c.take_turn-held.result.here ∙ c.take_turn-held.ensures.turn.0)
