use Rattle.std.proofs.Common.{◌≡◌, ℕ, subst}
use Rattle.drain_loop.specs.Calls.{outside, IsDrained}
use Rattle.drain_command.proofs.Made.{turned_off, turned_on, undamaged_on}
use Rattle.drain_command.proofs.turning.make_turns.Goals as goal

pub returns-in-Ok-clause-turned : goal.returns-in-Ok-clause-turned
returns-in-Ok-clause-turned g c =
    let m = g.R.Rules.meaning in
    let shelf = g.H.Shelf.shelf c.args.shelf.now in let clock = g.C.Clock.told c.args.clock.now in
    let old = c.args.book.now in let mid = c.open_turns.new.book in let new = c.drain_book.new.book in
    let o = outside m shelf clock old.limit in
    let opened = c.in-Ok.ensures.opened shelf in
    let same : mid.limit ≡ old.limit = opened.goes_on.same.1 in
    turned_on o c.args.asked old mid new c.in-Ok.left c.drain_book.result opened
    (subst (λ (n : ℕ). IsDrained g.D.Disk.disk (outside m shelf clock n) c.in-Ok.left mid new c.drain_book.result) same c.drain_book.ensures.drained)

pub returns-in-Err-clause-turned : goal.returns-in-Err-clause-turned
returns-in-Err-clause-turned g c =
    let shelf = g.H.Shelf.shelf c.args.shelf.now in
    let o = outside g.R.Rules.meaning shelf (g.C.Clock.told c.args.clock.now) c.args.book.now.limit in
    turned_off o c.args.asked c.args.book.now c.open_turns.new.book c.in-Err.end (c.in-Err.ensures.opened shelf)

pub returns-in-Ok-clause-undamaged : goal.returns-in-Ok-clause-undamaged
returns-in-Ok-clause-undamaged g c = λ files told.
    let opened = c.in-Ok.ensures.opened (g.H.Shelf.shelf c.args.shelf.now) in
    undamaged_on g.R.Rules.meaning files c.args.book.now c.open_turns.new.book opened.made c.drain_book.result told opened.goes_on c.drain_book.ensures.undamaged
