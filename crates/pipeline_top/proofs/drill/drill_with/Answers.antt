use Rattle.std.proofs.Common.{◌≡◌, ◌≢◌, ℕ, List, [], ◌∷◌, None, refl, sym, ap, subst, ◌∙◌, arith}
use Rattle.edge_traits.specs.Shelf.{ShelfView, count_on}
use Rattle.edge_traits.proofs.Outputs.{Took-nothing}
use Rattle.bot_rules.specs.Intel.{intel}
use Rattle.feed_maker.specs.Drill.{drill_shelf, feed_name}
use Rattle.store_commands.specs.Begun.{IsBegun, IsNewStore}
use Rattle.store_commands.specs.declared.end.StoreEnd.{StoreEnd}
use Rattle.store_commands.specs.declared.end.StoreEnd.TheVariants as end
use Rattle.pipeline_top.specs.Commands.{no_ask, IsDrainedBy, IsDrillEnd}
use Rattle.pipeline_top.proofs.Still.{ends_sink, no_rise, not_drilled}
use Rattle.pipeline_top.proofs.drill.drill_with.Goals as goal

pub returns-then-lacks_store-clause-drilled : goal.returns-then-lacks_store-clause-drilled
returns-then-lacks_store-clause-drilled g c = λ other other_now lines number is.
    let making = c.make_store-end.result.0 in
    let mid = c.make_store-end.result.1 in
    let sink = g.S.Sink.sink c.args.out.now in
    let lacks : making ≢ end.Done = λ same. cc (c.lacks_store.ensures.1 same, c.if-lacks_store.true) in
    record {
      mid = mid;
      making = making;
      made = λ files told. subst (λ (code : List ℕ). IsNewStore intel files code making) c.requires.bundle (c.make_store-end.ensures.made files told);
      begun = λ files told done. subst (λ (code : List ℕ). IsBegun intel code (g.D.Disk.disk mid)) c.requires.bundle (c.make_store-end.ensures.stands files told done);
      left_alone = λ origin steps more was. c.make_store-end.ensures.left_alone origin steps more was;
      others = λ files told. c.make_store-end.ensures.others files told;
      done = not_drilled g.D.Disk.disk lines number (record { shelf = other; shelf_now = other_now; sink = sink; sink_now = sink; clock = g.C.Clock.told c.args.clock.now }) mid mid c.store_status.result making lacks
          (c.store_status.ensures, refl, Took-nothing sink);
    }

pub returns-then-lacks_store-clause-sink : goal.returns-then-lacks_store-clause-sink
returns-then-lacks_store-clause-sink g c = record { fails = λ sink. absurd (c.make_store-end.ensures.unprinted (ends_sink c.make_store-end.result.0 c.store_status.result c.store_status.ensures sink)); count = omega arith }

pub returns-clause-drilled : goal.returns-clause-drilled
returns-clause-drilled g c = λ other other_now lines number is.
    let making = c.make_store-end.result.0 in
    let mid = c.make_store-end.result.1 in
    let drained = c.drain_with-drained in
    let made_one : making ≡ end.Done = c.lacks_store.ensures.0 c.if-lacks_store.false in
    record {
      mid = mid;
      making = making;
      made = λ files told. subst (λ (code : List ℕ). IsNewStore intel files code making) c.requires.bundle (c.make_store-end.ensures.made files told);
      begun = λ files told done. subst (λ (code : List ℕ). IsBegun intel code (g.D.Disk.disk mid)) c.requires.bundle (c.make_store-end.ensures.stands files told done);
      left_alone = λ origin steps more was. c.make_store-end.ensures.left_alone origin steps more was;
      others = λ files told. c.make_store-end.ensures.others files told;
      done = subst (λ (e : StoreEnd). IsDrillEnd g.D.Disk.disk lines number
          (record { shelf = other; shelf_now = other_now; sink = g.S.Sink.sink c.args.out.now; sink_now = g.S.Sink.sink drained.new.out; clock = g.C.Clock.told c.args.clock.now }) mid drained.result.1 drained.result.0 e) (sym made_one)
          (subst (λ (now : ShelfView). IsDrainedBy g.D.Disk.disk no_ask (record { shelf = drill_shelf lines number; shelf_now = now; sink = g.S.Sink.sink c.args.out.now; sink_now = g.S.Sink.sink drained.new.out; clock = g.C.Clock.told c.args.clock.now })
          drained.result.0 (g.D.Disk.disk mid) (g.D.Disk.disk drained.result.1) None)
          (ap (λ t. record { counts = (feed_name, 0) ∷ []; told = t }) (drained.ensures.shelf.told ∙ ap (λ v. v.told) is))
          (drained.ensures.drained (drill_shelf lines number) (ap (λ v. v.told) is) (λ name. omega (arith, ap (λ (v : ShelfView). count_on v name) is))));
    }

pub returns-clause-feed : goal.returns-clause-feed
returns-clause-feed g c = λ name is. no_rise _ _ (c.drills_never_fail.ensures name) (c.drain_with-drained.ensures.shelf.counts name) (c.drain_with-drained.ensures.failed name is)
