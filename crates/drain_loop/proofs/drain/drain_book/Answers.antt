use Rattle.std.proofs.Common.{◌≡◌, ◌≢◌, List, sym, ap, subst, ◌∙◌, arith}
use Rattle.std.specs.List.{AllByRecursion}
use Rattle.base_types.specs.Lists.{IsIn}
use Rattle.base_types.proofs.Everywhere.{all_wider}
use Rattle.step_code.specs.declared.base.Base.{Base}
use Rattle.step_code.specs.declared.rules.Facts.{Facts}
use Rattle.ack_steps.specs.Core.{CoreView}
use Rattle.collector_feeds.specs.Standing.{FeedView, IsOf, IsReady}
use Rattle.turn_order.specs.Turn.{collectors}
use Rattle.drain_turns.specs.declared.end.TurnsEnd.TheVariants as end
use Rattle.drain_loop.specs.Calls.{outside, IsDrained, IsUndamaged}
use Rattle.drain_loop.specs.Feeds.{AreOfFirst, FailedBeyond, IsClosed, IsCounted, IsFailedByOne}
use Rattle.drain_loop.proofs.Bundles.{same_collectors, still_bundle}
use Rattle.drain_loop.proofs.Looked.{closed_counted, failed_beyond, no_feed, of_first_stays, same_files, written_back}
use Rattle.drain_loop.proofs.Turning.{cut_short, ended_as, still_drained}
use Rattle.drain_loop.proofs.drain.drain_book.Goals as goal

pub give_all_back-requires : goal.give_all_back-requires
give_all_back-requires g c =
    let mid = g.H.Shelf.shelf c.drain_feeds-end.new.shelf in
    let looked = c.drain_feeds-end.ensures.looked in
    let back = written_back c.feeds_of-feeds.result.0.items c.deref_mut.result.now c.drain_feeds-end.new.feeds c.feeds_of-feeds.result.0.len c.deref_mut.ensures.value c.deref_mut.ensures.len looked.same in
    subst (AllByRecursion (IsOf mid)) (sym back) (all_wider (IsReady mid) (IsOf mid) c.drain_feeds-end.new.feeds (λ feed ready. ready.of) looked.ready)

pub returns-clause-drained : goal.returns-clause-drained
returns-clause-drained g c =
    let o = outside g.R.Rules.meaning (g.H.Shelf.shelf c.args.shelf.now) (g.C.Clock.told c.args.clock.now) c.args.book.now.limit in
    let all = still_drained o c.args.left c.args.book.now c.drain_feeds-end.new.book c.close.new.book c.drain_feeds-end.result c.drain_feeds-end.ensures.drained c.close.ensures.goes_on in
    ended_as (IsDrained g.D.Disk.disk o c.args.left c.args.book.now c.close.new.book) c.drain_feeds-end.result c.close.result c.close.ensures.same all
    (cut_short o c.args.left c.args.book.now c.close.new.book c.drain_feeds-end.result all)

pub returns-clause-failed : goal.returns-clause-failed
returns-clause-failed g c = λ name is.
    let first = g.H.Shelf.shelf c.args.shelf.now in let mid = g.H.Shelf.shelf c.drain_feeds-end.new.shelf in let new = g.H.Shelf.shelf c.give_all_back.new.shelf in
    let looked = c.drain_feeds-end.ensures.looked in
    let last : c.drain_feeds-end.result ≡ end.Failed name = sym (c.close.ensures.same (λ disk. cc (is, disk))) ∙ is in
    let failed = subst (IsFailedByOne c.drain_feeds-end.new.feeds) last c.drain_feeds-end.ensures.end in
    let back = written_back c.feeds_of-feeds.result.0.items c.deref_mut.result.now c.drain_feeds-end.new.feeds c.feeds_of-feeds.result.0.len c.deref_mut.ensures.value c.deref_mut.ensures.len looked.same in
    let all = collectors g.R.Rules.meaning c.args.book.now.state in
    let same = ap (λ (v : CoreView _). v.state) c.state.ensures.core in
    let of = subst (AreOfFirst all) (sym c.deref_mut.ensures.value) (subst (λ (b : Base). AreOfFirst (collectors g.R.Rules.meaning b) c.feeds_of-feeds.result.0.items) same c.feeds_of-feeds.ensures.first) in
    let closed = subst (AllByRecursion IsClosed) (sym c.deref_mut.ensures.value) c.feeds_of-feeds.ensures.closed in
    let behind = same_collectors g.R.Rules.meaning c.args.book.now.state c.close.new.book.state (still_bundle c.close.ensures.goes_on ∙ c.drain_feeds-end.ensures.bundle) in
    subst (λ (fs : List Facts). FailedBeyond fs first new name) (sym behind)
    (subst (FailedBeyond all first new) (sym failed.2)
    (failed_beyond all c.drain_feeds-end.new.feeds failed.0 first mid new (of_first_stays all c.deref_mut.result.now c.drain_feeds-end.new.feeds of looked.same) failed.1 failed.3
    (looked.counted first (all_wider IsClosed (IsCounted first first) c.deref_mut.result.now (closed_counted first) closed))
    (λ n count rose. c.give_all_back.ensures.counted failed.0 n count (subst (IsIn failed.0) (sym back) failed.1) rose)))

pub returns-clause-counts : goal.returns-clause-counts
returns-clause-counts g c = λ name. omega (arith, c.drain_feeds-end.ensures.looked.shelf.counts name, c.give_all_back.ensures.count name)

pub returns-clause-other_counts : goal.returns-clause-other_counts
returns-clause-other_counts g c = λ name none.
    let looked = c.drain_feeds-end.ensures.looked in
    let back = written_back c.feeds_of-feeds.result.0.items c.deref_mut.result.now c.drain_feeds-end.new.feeds c.feeds_of-feeds.result.0.len c.deref_mut.ensures.value c.deref_mut.ensures.len looked.same in
    let all = collectors g.R.Rules.meaning c.args.book.now.state in
    let same = ap (λ (v : CoreView _). v.state) c.state.ensures.core in
    let of = subst (AreOfFirst all) (sym c.deref_mut.ensures.value) (subst (λ (b : Base). AreOfFirst (collectors g.R.Rules.meaning b) c.feeds_of-feeds.result.0.items) same c.feeds_of-feeds.ensures.first) in
    let differ = no_feed all c.deref_mut.result.now name of none in
    c.give_all_back.ensures.other_counts name (subst (AllByRecursion (λ (f : FeedView). name ≢ f.facts.file)) (sym back) (same_files c.deref_mut.result.now c.drain_feeds-end.new.feeds name looked.same differ))
    ∙ looked.shelf.others name differ

pub returns-clause-undamaged : goal.returns-clause-undamaged
returns-clause-undamaged g c = λ files told. ended_as IsUndamaged c.drain_feeds-end.result c.close.result c.close.ensures.same (c.drain_feeds-end.ensures.undamaged files told) tt
