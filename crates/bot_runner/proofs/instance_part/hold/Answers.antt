use Rattle.std.proofs.Common.{sym, ap, subst, ◌∙◌}
use Rattle.book_lock.specs.Seats.{found, grown, opening, Known}
use Rattle.locked_book.specs.Entries.{entries_of}
use Rattle.worker_turns.specs.Holds.{IsInstanceStep}
use Rattle.worker_turns.specs.declared.instance.Instance.{Instance}
use Rattle.bot_runner.specs.Parts.{HasHeld}
use Rattle.bot_runner.proofs.Instances.{finds_done, finds_ready, grows_prefix, held_on, state_of}
use Rattle.bot_runner.proofs.Parts.{grows}
use Rattle.bot_runner.proofs.instance_part.hold.Goals as goal

pub instance_turn-turned-requires-clause-ready : goal.instance_turn-turned-requires-clause-ready
instance_turn-turned-requires-clause-ready g c =
    let is = c.take_turn-held.ensures.turn.2 ∙ ap (entries_of g.R.Rules.meaning) (sym c.value-locked.ensures.value) in
    finds_ready _ _ _ _ _ _ _ _ _ _ c.requires.at_work _ _ is c.take_turn-held.ensures.seen

pub instance_turn-turned-requires-clause-done : goal.instance_turn-turned-requires-clause-done
instance_turn-turned-requires-clause-done g c =
    let is = c.take_turn-held.ensures.turn.2 ∙ ap (entries_of g.R.Rules.meaning) (sym c.value-locked.ensures.value) in
    finds_done _ _ _ _ _ _ _ _ _ _ c.requires.at_work _ _ is c.take_turn-held.ensures.seen

pub unlock-seat-requires : goal.unlock-seat-requires
unlock-seat-requires g c =
    let is = c.take_turn-held.ensures.turn.2 ∙ ap (entries_of g.R.Rules.meaning) (sym c.value-locked.ensures.value) in
    let t = c.instance_turn-turned in
    let clock = g.C.Clock.told c.args.outside.now.clock.now in
    let own = IsInstanceStep clock c.args.worker.now.bot c.args.worker.now.number in
    grows_prefix {m = g.R.Rules.meaning} {left = c.args.outside.now.left} {Is = own} c.value-locked.result.now t.new.locked c.args.worker.now.steps.items t.new.worker.steps.items _ is
    (grows c.value-locked.result.now t.new.locked c.args.worker.now.steps.items t.new.worker.steps.items (λ some. let s = t.ensures.still some in (s.0, ap (λ (w : Instance _). w.steps.items) s.1)) t.ensures.adds t.ensures.few)

pub returns-clause-lock : goal.returns-clause-lock
returns-clause-lock g c = c.unlock-seat.ensures.lock c.take_turn-held.result.here ∙ (sym c.take_turn-held.result.here ∙ c.take_turn-held.ensures.turn.0)

pub returns-clause-held : goal.returns-clause-held
returns-clause-held g c =
    let h = c.take_turn-held in
    let t = c.instance_turn-turned in
    let m = g.R.Rules.meaning in
    let o = (opening c.args.lock.now).opening in
    let clock = g.C.Clock.told c.args.outside.now.clock.now in
    let is = h.ensures.turn.2 ∙ ap (entries_of m) (sym c.value-locked.ensures.value) in
    subst (λ (k : Known _). HasHeld m g.R.Rules.task_of clock c.args.outside.now.left o c.args.worker.now.bot c.args.worker.now.number k t.new.worker t.result)
    (sym (c.unlock-seat.ensures.seat ∙ ap (λ (k : Known _). grown k (found h.result) (entries_of m t.new.locked)) h.ensures.turn.1))
    (held_on m g.R.Rules.task_of clock c.args.outside.now.left o c.args.worker.now.bot c.args.worker.now.number _ c.args.worker.now c.args.done c.requires.at_work c.value-locked.result.now _ is h.ensures.seen
    t.new.locked t.new.worker t.result h.ensures.mine (state_of c.value-locked.result.now c.core.ensures.round) t.ensures.still t.ensures.adds t.ensures.few t.ensures.worker t.ensures.ready t.ensures.turned)
