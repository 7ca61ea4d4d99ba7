use Rattle.std.proofs.Common.{◌≡◌, ◌≤◌, ℕ, List, [], false, None}
use Rattle.edge_traits.specs.Shelf.{count_on}
use Rattle.live_reload.specs.Live.{Follows}
use Rattle.drain_loop.specs.Calls.{outside}
use Rattle.run_command.specs.Laps.{HasGoneOn}
use Rattle.run_command.proofs.following.run_on.Given as goal

abbrev pub invariant-steps : goal.invariant-steps
invariant-steps g l =
    (goal.iterator-steps g).can_next l.iterator' × (goal.iterator-steps g).is_finite l.iterator'
    × HasGoneOn g.D.Disk.disk (outside g.R.Rules.meaning (g.H.Shelf.shelf l.initial.shelf) (g.C.Clock.told l.fn.clock) l.initial.book.limit) l.initial.left l.initial.book l.book (g.K.Source.source l.initial.control).told (g.H.Shelf.shelf l.shelf)
    (g.S.Sink.sink l.initial.out) (g.S.Sink.sink l.out) l.live.taken [] l.left
    × (l.book.broken ≡ false)
    × Follows (g.K.Source.source l.control) l.live
    × ((g.K.Source.source l.control).told ≡ (g.K.Source.source l.initial.control).told)
    × ((g.K.Source.source l.initial.control).faults ≤ (g.K.Source.source l.control).faults)
    × ((g.H.Shelf.shelf l.shelf).told ≡ (g.H.Shelf.shelf l.initial.shelf).told)
    × ((name : List ℕ) → count_on (g.H.Shelf.shelf l.initial.shelf) name ≤ count_on (g.H.Shelf.shelf l.shelf) name)
    × ((g.S.Sink.sink l.initial.out).faults ≤ (g.S.Sink.sink l.out).faults)
    × ((g.D.Disk.disk l.initial.book.disk).told ≡ None → (g.D.Disk.disk l.book.disk).told ≡ None)
    × ((g.D.Disk.disk l.initial.book.disk).faults ≤ (g.D.Disk.disk l.book.disk).faults)
