use Rattle.std.proofs.Common.{◌≡◌, ◌≤◌, ◌-◌, false, None}
use Rattle.edge_traits.specs.Shelf.{ShelfView}
use Rattle.step_code.specs.Spent.{last_given}
use Rattle.bot_works.specs.Works.{AreReady}
use Rattle.drain_loop.specs.Calls.{outside, place_of}
use Rattle.drain_loop.specs.Feeds.{AreLookedAt}
use Rattle.drain_loop.specs.Turning.{Running}
use Rattle.drain_loop.proofs.drain.turns.Given as goal

abbrev pub invariant-turns : goal.invariant-turns
invariant-turns g l = record {
  run : (first : ShelfView) → first.told ≡ (g.H.Shelf.shelf l.initial.shelf).told
      → Running g.D.Disk.disk (outside g.R.Rules.meaning first (g.C.Clock.told l.clock) l.initial.book.limit) (place_of l.initial.book l.initial.left) (place_of l.book l.left) l.initial.book l.book;
  whole : l.book.broken ≡ false;
  bundle : l.book.state.bundle ≡ l.initial.book.state.bundle;
  limit : l.book.limit ≡ l.initial.book.limit;
  looked : AreLookedAt l.initial.feeds l.feeds (g.H.Shelf.shelf l.initial.shelf) (g.H.Shelf.shelf l.shelf);
  works : AreReady g.R.Rules.task_of l.initial.book.state.bundle l.works.items;
  untold : (g.D.Disk.disk l.initial.book.disk).told ≡ None → (g.D.Disk.disk l.book.disk).told ≡ None;
  count : (g.D.Disk.disk l.initial.book.disk).faults ≤ (g.D.Disk.disk l.book.disk).faults;
}

abbrev pub decreases-turns : goal.decreases-turns
decreases-turns g l = last_given - l.book.state.steps
