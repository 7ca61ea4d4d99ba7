use Rattle.std.proofs.Common.{sym, ap, subst, ◌∙◌, refl}
use Rattle.book_lock.specs.Seats.{found, grown, opening, Known}
use Rattle.locked_book.specs.Entries.{entries_of}
use Rattle.bot_runner.specs.Feeds.{HasHeldFeed}
use Rattle.bot_runner.proofs.Feeds.{feed_grows, feed_held, finds_sight}
use Rattle.bot_runner.proofs.Instances.{grows_prefix}
use Rattle.bot_runner.proofs.collector_part.feed_hold.Goals as goal

pub collector_turn-looked-requires : goal.collector_turn-looked-requires
collector_turn-looked-requires g c =
    let is = c.take_turn-held.ensures.turn.2 ∙ ap (entries_of g.R.Rules.meaning) (sym c.value-locked.ensures.value) in
    let r = c.args.reading.now in
    record { sight = finds_sight g.R.Rules.meaning (g.C.Clock.told c.args.outside.now.clock.now) c.args.outside.now.left (opening c.args.lock.now).opening c.args.read.now.told r.worker.bot r.worker.file _ r c.requires.at_feed c.value-locked.result.now _ is c.take_turn-held.ensures.seen c.take-sight.result c.take-sight.ensures.value }

pub unlock-seat-requires : goal.unlock-seat-requires
unlock-seat-requires g c =
    let is = c.take_turn-held.ensures.turn.2 ∙ ap (entries_of g.R.Rules.meaning) (sym c.value-locked.ensures.value) in
    let t = c.collector_turn-looked in
    grows_prefix c.value-locked.result.now t.new.locked _ _ _ is
    (feed_grows g.R.Rules.meaning (g.C.Clock.told c.args.outside.now.clock.now) c.args.outside.now.left (opening c.args.lock.now).opening c.args.read.now.told c.args.reading.now.worker.bot c.args.reading.now.worker.file _ c.args.reading.now c.requires.at_feed c.value-locked.result.now _ is c.take_turn-held.ensures.seen t.new.locked t.new.worker c.take-sight.result c.take-sight.ensures.value t.ensures.still t.ensures.adds t.ensures.few)

pub returns-clause-lock : goal.returns-clause-lock
returns-clause-lock g c = c.unlock-seat.ensures.lock c.take_turn-held.result.here ∙ (sym c.take_turn-held.result.here ∙ c.take_turn-held.ensures.turn.0)

pub returns-clause-held : goal.returns-clause-held
returns-clause-held g c =
    let h = c.take_turn-held in
    let t = c.collector_turn-looked in
    let m = g.R.Rules.meaning in
    let o = (opening c.args.lock.now).opening in
    let clock = g.C.Clock.told c.args.outside.now.clock.now in
    let r = c.args.reading.now in
    let is = h.ensures.turn.2 ∙ ap (entries_of m) (sym c.value-locked.ensures.value) in
    subst (λ (k : Known _). HasHeldFeed m clock c.args.outside.now.left o c.args.read.now.told r.worker.bot r.worker.file k (record { worker = t.new.worker; sight = c.take-sight.new.self; failed = r.failed; quiet = r.quiet }) t.result)
    (sym (c.unlock-seat.ensures.seat ∙ ap (λ (k : Known _). grown k (found h.result) (entries_of m t.new.locked)) h.ensures.turn.1))
    (feed_held m clock c.args.outside.now.left o c.args.read.now.told r.worker.bot r.worker.file _ r c.requires.at_feed c.value-locked.result.now _ is h.ensures.seen t.new.locked t.new.worker c.take-sight.result c.take-sight.ensures.value t.ensures.still t.ensures.adds t.ensures.few
    (record { worker = t.new.worker; sight = c.take-sight.new.self; failed = r.failed; quiet = r.quiet }) t.result refl c.take-sight.ensures.after h.ensures.mine c.core.ensures.round t.ensures.worker t.ensures.looked)
