use Rattle.std.proofs.Common.{rules, ◌≡◌, ◌≢◌, refl, sym, ◌∙◌, arith}
use Rattle.live_reload.specs.Live.{live_at, LiveView}
use Rattle.live_reload.specs.declared.end.OrdersEnd.TheVariants as end
use Rattle.live_reload.specs.declared.order.Order.TheVariants as order
use Rattle.drain_loop.specs.Calls.{outside}
use Rattle.run_command.proofs.Lapping.{failed_since}
use Rattle.run_command.proofs.Parts.{obeyed}
use Rattle.run_command.proofs.Stepping.{follows_still, steps_lapped, steps_left, steps_nothing, steps_order, steps_starved}
use Rattle.run_command.proofs.following.step_on.Goals as goal

-- no further line is whole

pub returns-then-eq-clause-stepped : goal.returns-then-eq-clause-stepped
returns-then-eq-clause-stepped g c = λ first before lines told was followed.
    let o = outside g.R.Rules.meaning first (g.C.Clock.told c.args.clock.now) c.args.book.limit in
    let control = g.K.Source.source c.args.control.now in
    let old : LiveView = live_at control (g.H.Shelf.shelf c.args.shelf.now) (g.S.Sink.sink c.args.out.now) c.args.live.now in
    let new : LiveView = live_at (g.K.Source.source c.next.new.control) (g.H.Shelf.shelf c.next.new.shelf) (g.S.Sink.sink c.next.new.out) c.next.new.self in
    let stays = c.next.ensures.stays in
    let at : c.next.new.self.end ≡ end.AtEnd = search rules in
    steps_lapped o control.told before lines old new refl (sym told) was stays followed {disk = g.D.Disk.disk} c.args.left c.args.book c.stay_on.result.0 (g.H.Shelf.shelf c.stay_on.new.shelf) c.stay_on.result.1 at c.in-Nothing.ensures.turns c.stay_on.ensures.counts
    (c.stay_on.ensures.lapped first (told ∙ sym stays.shelf))

pub returns-then-eq-clause-follows : goal.returns-then-eq-clause-follows
returns-then-eq-clause-follows g c = follows_still (g.K.Source.source c.next.new.control) (g.K.Source.source c.stay_on.new.control) c.next.new.self c.stay_on.ensures.control.told c.next.ensures.follows

pub returns-then-eq-clause-failed : goal.returns-then-eq-clause-failed
returns-then-eq-clause-failed g c = λ name is.
    failed_since _ (g.H.Shelf.shelf c.args.shelf.now) (g.H.Shelf.shelf c.next.new.shelf) (g.H.Shelf.shelf c.stay_on.new.shelf) name (c.next.ensures.stays.shelf_counts name) (c.stay_on.ensures.failed name is)

pub returns-then-eq-clause-counts : goal.returns-then-eq-clause-counts
returns-then-eq-clause-counts g c = λ name. let a = c.next.ensures.stays.shelf_counts name in let b = c.stay_on.ensures.counts name in omega (arith, a, b)

pub returns-then-eq-clause-same : goal.returns-then-eq-clause-same
returns-then-eq-clause-same g c = c.stay_on.ensures.control.told ∙ c.next.ensures.stays.control

-- a line that gives nothing

pub returns-else-eq-clause-stepped : goal.returns-else-eq-clause-stepped
returns-else-eq-clause-stepped g c = λ first before lines told was followed.
    let o = outside g.R.Rules.meaning first (g.C.Clock.told c.args.clock.now) c.args.book.limit in
    let control = g.K.Source.source c.args.control.now in
    let old : LiveView = live_at control (g.H.Shelf.shelf c.args.shelf.now) (g.S.Sink.sink c.args.out.now) c.args.live.now in
    let new : LiveView = live_at (g.K.Source.source c.next.new.control) (g.H.Shelf.shelf c.next.new.shelf) (g.S.Sink.sink c.next.new.out) c.next.new.self in
    let more : c.next.new.self.end ≢ end.AtEnd = search rules in
    steps_nothing o control.told before lines old new refl (sym told) was c.next.ensures.stays followed {disk = g.D.Disk.disk} c.args.left c.args.book
    ((g.met.D.Disk g.world.𝓛 g.world.𝓜 g.world.𝓡 ((λ s x. x), (λ x. x), (λ x. x), (λ x. x))).only_now c.args.book.disk) more c.in-Nothing.ensures.turns

-- an order is carried out

pub returns-in-Reload-clause-stepped : goal.returns-in-Reload-clause-stepped
returns-in-Reload-clause-stepped g c = λ first before lines told was followed.
    let o = outside g.R.Rules.meaning first (g.C.Clock.told c.args.clock.now) c.args.book.limit in
    let control = g.K.Source.source c.args.control.now in
    let old : LiveView = live_at control (g.H.Shelf.shelf c.args.shelf.now) (g.S.Sink.sink c.args.out.now) c.args.live.now in
    let new : LiveView = live_at (g.K.Source.source c.next.new.control) (g.H.Shelf.shelf c.next.new.shelf) (g.S.Sink.sink c.next.new.out) c.next.new.self in
    let given = order.Reload c.in-Reload.code in
    steps_order o control.told before lines old new refl (sym told) was c.next.ensures.stays followed {disk = g.D.Disk.disk} c.args.left c.args.book c.reload-came.new.book given c.reload-came.result tt c.in-Reload.ensures.turns
    (obeyed o c.args.left c.args.book c.reload-came.new.book given _ c.reload-came.result refl (c.reload-came.ensures.opened first _))

pub returns-in-Round-clause-stepped : goal.returns-in-Round-clause-stepped
returns-in-Round-clause-stepped g c = λ first before lines told was followed.
    let o = outside g.R.Rules.meaning first (g.C.Clock.told c.args.clock.now) c.args.book.limit in
    let control = g.K.Source.source c.args.control.now in
    let old : LiveView = live_at control (g.H.Shelf.shelf c.args.shelf.now) (g.S.Sink.sink c.args.out.now) c.args.live.now in
    let new : LiveView = live_at (g.K.Source.source c.next.new.control) (g.H.Shelf.shelf c.next.new.shelf) (g.S.Sink.sink c.next.new.out) c.next.new.self in
    steps_order o control.told before lines old new refl (sym told) was c.next.ensures.stays followed {disk = g.D.Disk.disk} c.args.left c.args.book c.open_rounds-came.new.book order.Round c.open_rounds-came.result tt c.in-Round.ensures.turns
    (obeyed o c.args.left c.args.book c.open_rounds-came.new.book order.Round _ c.open_rounds-came.result refl (c.open_rounds-came.ensures.opened first))

-- the run ends

pub returns-in-Stop-clause-stepped : goal.returns-in-Stop-clause-stepped
returns-in-Stop-clause-stepped g c = λ first before lines told was followed.
    let o = outside g.R.Rules.meaning first (g.C.Clock.told c.args.clock.now) c.args.book.limit in
    let control = g.K.Source.source c.args.control.now in
    let old : LiveView = live_at control (g.H.Shelf.shelf c.args.shelf.now) (g.S.Sink.sink c.args.out.now) c.args.live.now in
    let new : LiveView = live_at (g.K.Source.source c.next.new.control) (g.H.Shelf.shelf c.next.new.shelf) (g.S.Sink.sink c.next.new.out) c.next.new.self in
    steps_left o control.told before lines old new refl (sym told) was c.next.ensures.stays followed {disk = g.D.Disk.disk} c.args.left c.args.book
    ((g.met.D.Disk g.world.𝓛 g.world.𝓜 g.world.𝓡 ((λ s x. x), (λ x. x), (λ x. x), (λ x. x))).only_now c.args.book.disk) c.next.result c.in-Stop.is c.next.ensures.turns

pub returns-in-OutOfMemory-clause-stepped : goal.returns-in-OutOfMemory-clause-stepped
returns-in-OutOfMemory-clause-stepped g c = λ first before lines told was followed.
    let o = outside g.R.Rules.meaning first (g.C.Clock.told c.args.clock.now) c.args.book.limit in
    let control = g.K.Source.source c.args.control.now in
    let old : LiveView = live_at control (g.H.Shelf.shelf c.args.shelf.now) (g.S.Sink.sink c.args.out.now) c.args.live.now in
    let new : LiveView = live_at (g.K.Source.source c.next.new.control) (g.H.Shelf.shelf c.next.new.shelf) (g.S.Sink.sink c.next.new.out) c.next.new.self in
    steps_starved o control.told before lines old new refl (sym told) was c.next.ensures.stays followed {disk = g.D.Disk.disk} c.args.left c.args.book
    ((g.met.D.Disk g.world.𝓛 g.world.𝓜 g.world.𝓡 ((λ s x. x), (λ x. x), (λ x. x), (λ x. x))).only_now c.args.book.disk) c.in-OutOfMemory.ensures.turns
