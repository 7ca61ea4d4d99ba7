use Rattle.std.proofs.Common.{◌++◌, ℕ, List, Option, Ok, sym, subst}
use Rattle.drain_loop.specs.Calls.{outside, place_with, reload_of, IsOpened}
use Rattle.drain_loop.proofs.Begun.{opens_none, rounds_behind}
use Rattle.drain_loop.proofs.begin.reload.Goals as goal

pub returns-in-Some-clause-rounds : goal.returns-in-Some-clause-rounds
returns-in-Some-clause-rounds g c = λ asked. rounds_behind g.R.Rules.meaning c.args.book.now.state c.open_by.new.book.state c.args.bundle c.in-Some.bundle asked c.open_by.result c.in-Some.is c.open_by.ensures.step

pub returns-in-None-clause-opened : goal.returns-in-None-clause-opened
returns-in-None-clause-opened g c = λ first later.
    let book = c.args.book.now in
    let o = outside g.R.Rules.meaning first (g.C.Clock.told c.args.clock.now) book.limit in
    subst (λ (b : Option (List ℕ)). IsOpened g.D.Disk.disk o (place_with (reload_of b ++ later) book c.args.left) later book book (Ok c.args.left)) (sym c.in-None.is)
    (opens_none o later c.args.left book (g.met.D.Disk.only_now book.disk))
