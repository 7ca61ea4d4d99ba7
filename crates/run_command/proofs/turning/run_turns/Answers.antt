use Rattle.std.proofs.Common.{◌≡◌, ℕ, [], subst}
use Rattle.drain_command.proofs.Made.{undamaged_on}
use Rattle.drain_loop.specs.Calls.{outside}
use Rattle.run_command.specs.Laps.{HasEnded}
use Rattle.run_command.proofs.Begun.{worked_off, worked_on}
use Rattle.run_command.proofs.turning.run_turns.Goals as goal

pub returns-in-Ok-clause-turned : goal.returns-in-Ok-clause-turned
returns-in-Ok-clause-turned g c =
    let m = g.R.Rules.meaning in
    let shelf = g.H.Shelf.shelf c.args.shelf.now in let clock = g.C.Clock.told c.args.clock.now in
    let old = c.args.book in let mid = c.open_turns.new.book in let new = c.run_on.result.0 in
    let control = (g.K.Source.source c.args.control.now).told in
    let seen = g.H.Shelf.shelf c.run_on.new.shelf in
    let before = g.S.Sink.sink c.args.out.now in let after = g.S.Sink.sink c.run_on.new.out in
    let by = c.run_on.new.live.end in let why = c.run_on.result.1 in
    let opened = c.in-Ok.ensures.opened shelf in
    let same : mid.limit ≡ old.limit = opened.goes_on.same.1 in
    worked_on (outside m shelf clock old.limit) c.args.asked old mid new c.in-Ok.left control seen before after by why opened
    (subst (λ (n : ℕ). HasEnded g.D.Disk.disk (outside m shelf clock n) c.in-Ok.left mid new control seen before after by [] why) same c.run_on.ensures.ended)

pub returns-in-Err-clause-turned : goal.returns-in-Err-clause-turned
returns-in-Err-clause-turned g c =
    let shelf = g.H.Shelf.shelf c.args.shelf.now in
    let o = outside g.R.Rules.meaning shelf (g.C.Clock.told c.args.clock.now) c.args.book.limit in
    worked_off o c.args.asked c.args.book c.open_turns.new.book (g.K.Source.source c.args.control.now).told (g.S.Sink.sink c.args.out.now) c.args.live.now.end c.in-Err.end c.requires.open (c.in-Err.ensures.opened shelf)

pub returns-in-Ok-clause-undamaged : goal.returns-in-Ok-clause-undamaged
returns-in-Ok-clause-undamaged g c = λ files told.
    let opened = c.in-Ok.ensures.opened (g.H.Shelf.shelf c.args.shelf.now) in
    undamaged_on g.R.Rules.meaning files c.args.book c.open_turns.new.book opened.made c.run_on.result.1 told opened.goes_on c.run_on.ensures.undamaged
