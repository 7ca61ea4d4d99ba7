use Rattle.std.proofs.Common.{ap, subst, ◌∙◌}
use Rattle.book_lock.specs.Seats.{knows, opening}
use Rattle.bot_runner.specs.Feeds.{HasHeldFeed}
use Rattle.bot_runner.specs.declared.collector_part.Reading.{Reading}
use Rattle.bot_runner.proofs.Feeds.{has_found, has_nothing, has_read, has_stopped, has_waited}
use Rattle.bot_runner.proofs.collector_part.look_on.Goals as goal

pub returns-in-Looks-clause-looked : goal.returns-in-Looks-clause-looked
returns-in-Looks-clause-looked g c =
    let m = g.R.Rules.meaning in
    let clock = g.C.Clock.told c.args.outside.now.clock.now in
    let left = c.args.outside.now.left in
    let o = (opening c.args.lock.now).opening in
    let w = c.args.reading.now.worker in
    let k = knows c.feed_hold-seat.result.0 in
    let r = c.feed_hold-seat.new.reading in
    let h = subst (HasHeldFeed m clock left o c.args.read.told w.bot w.file k r) c.in-Looks.is c.feed_hold-seat.ensures.held in
    has_read m clock left o c.args.read.told w.bot w.file k r c.read_at-read.new.reading c.in-Looks.place c.read_at-read.result.1 h c.read_at-read.ensures.worker c.read_at-read.ensures.sight c.read_at-read.ensures.why

pub returns-in-Waits-clause-looked : goal.returns-in-Waits-clause-looked
returns-in-Waits-clause-looked g c =
    let m = g.R.Rules.meaning in
    let clock = g.C.Clock.told c.args.outside.now.clock.now in
    let left = c.args.outside.now.left in
    let o = (opening c.args.lock.now).opening in
    let w = c.args.reading.now.worker in
    let k = knows c.feed_hold-seat.result.0 in
    let r = c.feed_hold-seat.new.reading in
    let h = subst (HasHeldFeed m clock left o c.args.read.told w.bot w.file k r) c.in-Waits.is c.feed_hold-seat.ensures.held in
    has_waited m clock left o c.args.read.told w.bot w.file k r c.rest.new.reading c.in-Waits.at c.in-Waits.sight c.rest.result h (ap (λ (x : Reading). x.worker) c.rest.ensures.reading) (ap (λ (x : Reading). x.sight) c.rest.ensures.reading) c.rest.ensures.why

pub returns-in-Nothing-clause-looked : goal.returns-in-Nothing-clause-looked
returns-in-Nothing-clause-looked g c =
    let m = g.R.Rules.meaning in
    let clock = g.C.Clock.told c.args.outside.now.clock.now in
    let left = c.args.outside.now.left in
    let o = (opening c.args.lock.now).opening in
    let w = c.args.reading.now.worker in
    let k = knows c.feed_hold-seat.result.0 in
    let r = c.feed_hold-seat.new.reading in
    let h = subst (HasHeldFeed m clock left o c.args.read.told w.bot w.file k r) c.in-Nothing.is c.feed_hold-seat.ensures.held in
    let e = c.rest-in-Nothing.ensures in
    has_nothing m clock left o c.args.read.told w.bot w.file k r c.rest-in-Nothing.new.reading c.in-Nothing.at c.in-Nothing.idle c.rest-in-Nothing.result h (ap (λ (x : Reading). x.worker) e.reading)
    (ap (λ (x : Reading). x.sight) e.reading ∙ ap (λ (x : Reading). x.sight) c.feed_hold-seat.ensures.reading) e.why

pub returns-in-Ended-clause-looked : goal.returns-in-Ended-clause-looked
returns-in-Ended-clause-looked g c =
    let m = g.R.Rules.meaning in
    let clock = g.C.Clock.told c.args.outside.now.clock.now in
    let left = c.args.outside.now.left in
    let o = (opening c.args.lock.now).opening in
    let w = c.args.reading.now.worker in
    let k = knows c.feed_hold-seat.result.0 in
    let r = c.feed_hold-seat.new.reading in
    let h = subst (HasHeldFeed m clock left o c.args.read.told w.bot w.file k r) c.in-Ended.is c.feed_hold-seat.ensures.held in
    has_stopped m clock left o c.args.read.told w.bot w.file k r c.in-Ended.end c.why_of.result c.why_of.ensures h

pub returns-in-Unreadable-clause-looked : goal.returns-in-Unreadable-clause-looked
returns-in-Unreadable-clause-looked g c =
    let m = g.R.Rules.meaning in
    let clock = g.C.Clock.told c.args.outside.now.clock.now in
    let left = c.args.outside.now.left in
    let o = (opening c.args.lock.now).opening in
    let w = c.args.reading.now.worker in
    let k = knows c.feed_hold-seat.result.0 in
    let r = c.feed_hold-seat.new.reading in
    let h = subst (HasHeldFeed m clock left o c.args.read.told w.bot w.file k r) c.in-Unreadable.is c.feed_hold-seat.ensures.held in
    has_found m clock left o c.args.read.told w.bot w.file k r c.in-Unreadable.cause h
