use Rattle.std.proofs.Common.{◌∙◌, refl, ap}
use Rattle.book_lock.specs.Seats.{Known}
use Rattle.bot_runner.proofs.Joining.{each_snoc}
use Rattle.bot_runner.proofs.slots.+fill.Goals as goal

pub returns-in-Some-clause-slots : goal.returns-in-Some-clause-slots
returns-in-Some-clause-slots g t c =
    let new = c.split-left.ensures.new in
    rw (c.in-Some.ensures.items, c.push_reserved.ensures.items) (
    each_snoc _ c.pop.new.self.items c.fill-seat.new.slots.items c.in-Some.worker _ c.fill-seat.ensures.slots
    (refl, refl, (c.split-left.ensures.lock.1, ap (λ (k : Known _). k.parts) new, record { seen = ap (λ (k : Known _). k.seen) new ∙ c.requires.new.seen; mine = ap (λ (k : Known _). k.mine) new })))
