use Rattle.std.proofs.Common.{[], true}
use Rattle.book_runs.proofs.Going.{goes_nowhere}
use Rattle.drain_turns.specs.declared.end.TurnsEnd.TheVariants as end
use Rattle.drain_loop.specs.Calls.{outside, place_with, rounds_of}
use Rattle.drain_loop.proofs.Begun.{ends_opening}
use Rattle.drain_loop.proofs.begin.open_rounds.Goals as goal

pub returns-in-Err-clause-opened : goal.returns-in-Err-clause-opened
returns-in-Err-clause-opened g c = λ first.
    let m = g.R.Rules.meaning in let book = c.args.book.now in
    ends_opening (outside m first (g.C.Clock.told c.args.clock.now) book.limit) (place_with (rounds_of m book.state true) book c.args.left) [] book book end.Memory tt (goes_nowhere book (g.met.D.Disk.only_now book.disk))
