use Rattle.std.proofs.Common.{OnOk, subst}
use Rattle.turn_order.specs.Turn.{collectors}
use Rattle.base_types.proofs.Everywhere.{all_wider}
use Rattle.collector_feeds.specs.Standing.{IsReady}
use Rattle.book_runs.proofs.Going.{goes_nowhere}
use Rattle.drain_turns.specs.declared.end.TurnsEnd.TheVariants as end
use Rattle.drain_loop.specs.Calls.{outside, place_of}
use Rattle.drain_loop.specs.Feeds.{AreOf, IsClosed}
use Rattle.drain_loop.proofs.Looked.{closed_ready, none_looked}
use Rattle.drain_loop.proofs.Turning.{run_ends, run_none}
use Rattle.drain_loop.proofs.drain.drain_feeds.Goals as goal

pub turns-requires : goal.turns-requires
turns-requires g c = record { whole = c.requires.whole; of = subst (λ r. OnOk r (AreOf (collectors g.R.Rules.meaning c.args.book.now.state) c.args.feeds.now)) c.in-Ok.is c.requires.of; ready = all_wider IsClosed (IsReady (g.H.Shelf.shelf c.args.shelf.now)) c.args.feeds.now (closed_ready (g.H.Shelf.shelf c.args.shelf.now)) c.requires.closed }

pub returns-in-Err-clause-drained : goal.returns-in-Err-clause-drained
returns-in-Err-clause-drained g c =
    let book = c.args.book.now in
    let o = outside g.R.Rules.meaning (g.H.Shelf.shelf c.args.shelf.now) (g.C.Clock.told c.args.clock.now) book.limit in
    run_ends o c.args.left c.args.left book book book end.Memory (run_none o (place_of book c.args.left) book (g.met.D.Disk.only_now book.disk)) tt (goes_nowhere book (g.met.D.Disk.only_now book.disk))

pub returns-in-Err-clause-looked : goal.returns-in-Err-clause-looked
returns-in-Err-clause-looked g c = none_looked c.args.feeds.now (g.H.Shelf.shelf c.args.shelf.now) (all_wider IsClosed (IsReady (g.H.Shelf.shelf c.args.shelf.now)) c.args.feeds.now (closed_ready (g.H.Shelf.shelf c.args.shelf.now)) c.requires.closed)
