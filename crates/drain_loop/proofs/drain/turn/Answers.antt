use Rattle.std.proofs.Common.{◌≡◌, [], false, None, Err, refl, sym, ap, subst, ◌∙◌, arith}
use Rattle.step_code.specs.declared.base.Base.{Base}
use Rattle.ack_steps.specs.Core.{CoreView}
use Rattle.store_image.proofs.Numbers.{number_small}
use Rattle.journal_book.specs.Staged.{staged, stamp}
use Rattle.book_runs.specs.Commit.{readied}
use Rattle.book_runs.proofs.Going.{goes_nowhere}
use Rattle.turn_order.specs.Turn.{is_idle}
use Rattle.drain_turns.proofs.Screened.{screened_fits}
use Rattle.drain_turns.specs.Drained.{Ends}
use Rattle.bot_works.specs.Works.{AreReady}
use Rattle.drain_loop.specs.Calls.{outside, place_of, IsUndamaged}
use Rattle.drain_loop.specs.Feeds.{IsFailedByOne}
use Rattle.drain_loop.specs.Turning.{EndsTurn, IsNextMove}
use Rattle.drain_loop.proofs.Bundles.{still_bundle}
use Rattle.drain_loop.proofs.Moving.{never_disk}
use Rattle.drain_loop.proofs.Turning.{IsGoingOn, broken_by, disk_by, due_is, ends_here, is_late, late_not_failed, made_is, made_keeps, never_broken, not_made, screened_act, turn_undamaged, undamaged_by}
use Rattle.drain_loop.proofs.drain.turn.Goals as goal

pub returns-then-is_idle-clause-still : goal.returns-then-is_idle-clause-still
returns-then-is_idle-clause-still g c = goes_nowhere c.args.book.now (g.met.D.Disk.only_now c.args.book.now.disk)

pub returns-then-is_none_left-clause-still : goal.returns-then-is_none_left-clause-still
returns-then-is_none_left-clause-still g c = goes_nowhere c.args.book.now (g.met.D.Disk.only_now c.args.book.now.disk)

pub returns-in-Err-clause-still : goal.returns-in-Err-clause-still
returns-in-Err-clause-still g c = goes_nowhere c.args.book.now (g.met.D.Disk.only_now c.args.book.now.disk)

pub returns-in-Err-clause-ends : goal.returns-in-Err-clause-ends
returns-in-Err-clause-ends g c = λ first told.
    let m = g.R.Rules.meaning in let s = c.args.book.now.state in
    let o = outside m first (g.C.Clock.told c.args.clock.now) c.args.book.now.limit in
    let same = ap (λ (v : CoreView _). v.state) c.state-core.ensures.core in
    let on : IsGoingOn o (place_of c.args.book.now c.args.left) = record {
      opened = refl;
      busy = λ opened. subst (λ (b : Base). is_idle m b ≡ false) same (sym c.is_idle.ensures ∙ c.if-is_idle.false);
      left = c.is_none_left.ensures.some c.if-is_none_left.false;
      latest = c.state-core.ensures.latest;
    } in
    ends_here o (place_of c.args.book.now c.args.left) c.in-Err.end on
    (subst (λ (b : Base). EndsTurn o b c.in-Err.end) same (c.in-Err.ensures.next first (g.C.Clock.told c.args.clock.now) c.args.book.now.limit told))

pub returns-in-Err-clause-broken : goal.returns-in-Err-clause-broken
returns-in-Err-clause-broken g c =
    let m = g.R.Rules.meaning in let shelf = g.H.Shelf.shelf c.args.shelf.now in (
      λ disk. absurd (never_disk (outside m shelf None 0) c.state-core.result.now.state c.in-Err.end (c.in-Err.ensures.next shelf None 0 refl) disk),
      λ broken. absurd (never_broken c.args.book.now.broken c.requires.whole broken),
    )

pub returns-in-Err-clause-disk : goal.returns-in-Err-clause-disk
returns-in-Err-clause-disk g c = λ disk.
    let m = g.R.Rules.meaning in let shelf = g.H.Shelf.shelf c.args.shelf.now in
    absurd (never_disk (outside m shelf None 0) c.state-core.result.now.state c.in-Err.end (c.in-Err.ensures.next shelf None 0 refl) (cc (disk)))

pub commit-requires : goal.commit-requires
commit-requires g c =
    let m = g.R.Rules.meaning in let s = c.args.book.now.state in let shelf = g.H.Shelf.shelf c.args.shelf.now in
    let same = ap (λ (v : CoreView _). v.state) c.state-core.ensures.core in
    let next = subst (λ (b : Base). IsNextMove (outside m shelf None 0) b c.in-Ok.what) same (c.in-Ok.ensures.next shelf None 0 refl) in
    record { content = λ whole fits. next.2.carries (readied c.args.book.now).format (stamp s c.now.result).0 }

pub end_of-requires : goal.end_of-requires
end_of-requires g c =
    let m = g.R.Rules.meaning in let book = c.args.book.now in let shelf = g.H.Shelf.shelf c.args.shelf.now in
    let same = ap (λ (v : CoreView _). v.state) c.state-core.ensures.core in
    let next = subst (λ (b : Base). IsNextMove (outside m shelf None 0) b c.in-Ok.what) same (c.in-Ok.ensures.next shelf None 0 refl) in
    let step = staged m book.state c.now.result c.in-Ok.what in
    is_late (outside m shelf None book.limit) [] book None step book.state.outs (g.D.Disk.disk book.disk).told c.in-Err-commit.fault refl c.requires.whole (screened_fits m book.state (stamp book.state c.now.result).0 c.in-Ok.what next.2.fits) c.in-Err-commit.ensures.refused

pub returns-in-Ok-commit-clause-made : goal.returns-in-Ok-commit-clause-made
returns-in-Ok-commit-clause-made g c = λ first told.
    let m = g.R.Rules.meaning in let book = c.args.book.now in
    let o = outside m first (g.C.Clock.told c.args.clock.now) book.limit in
    let p = place_of book c.args.left in
    let same = ap (λ (v : CoreView _). v.state) c.state-core.ensures.core in
    let next = subst (λ (b : Base). IsNextMove o b c.in-Ok.what) same (c.in-Ok.ensures.next first (g.C.Clock.told c.args.clock.now) book.limit told) in
    let step = staged m book.state c.now.result c.in-Ok.what in
    let on : IsGoingOn o p = record { opened = refl; busy = λ opened. subst (λ (b : Base). is_idle m b ≡ false) same (sym c.is_idle.ensures ∙ c.if-is_idle.false); left = c.is_none_left.ensures.some c.if-is_none_left.false; latest = c.state-core.ensures.latest } in
    record {
      step = step;
      is_made = made_is o [] book c.args.left step refl c.requires.whole (due_is o p next.0 c.in-Ok.what c.now.result on next.1 next.2 c.now.ensures) c.in-Ok-commit.ensures.causes;
      goes_on = c.in-Ok-commit.ensures.ok;
      book = c.in-Ok-commit.ensures.book;
    }

pub returns-in-Ok-commit-clause-works : goal.returns-in-Ok-commit-clause-works
returns-in-Ok-commit-clause-works g c =
    let same = ap (λ (v : CoreView _). v.state) c.state-core.ensures.core in
    subst (λ (b : Base). AreReady g.R.Rules.task_of b.bundle c.next_move.new.works.items) same c.next_move.ensures.works

pub returns-in-Err-commit-clause-works : goal.returns-in-Err-commit-clause-works
returns-in-Err-commit-clause-works g c =
    let same = ap (λ (v : CoreView _). v.state) c.state-core.ensures.core in
    subst (λ (b : Base). AreReady g.R.Rules.task_of b.bundle c.next_move.new.works.items) same c.next_move.ensures.works

pub returns-in-Ok-commit-clause-bundle : goal.returns-in-Ok-commit-clause-bundle
returns-in-Ok-commit-clause-bundle g c =
    let m = g.R.Rules.meaning in let s = c.args.book.now.state in let shelf = g.H.Shelf.shelf c.args.shelf.now in
    let same = ap (λ (v : CoreView _). v.state) c.state-core.ensures.core in
    let next = subst (λ (b : Base). IsNextMove (outside m shelf None 0) b c.in-Ok.what) same (c.in-Ok.ensures.next shelf None 0 refl) in
    let step = staged m s c.now.result c.in-Ok.what in
    ap (λ (b : Base). b.bundle) c.in-Ok-commit.ensures.ok.state.same ∙ (made_keeps m s next.0 step (screened_act m s (stamp s c.now.result).0 next.0 c.in-Ok.what next.2.is)).bundle

pub returns-in-Ok-commit-clause-fewer : goal.returns-in-Ok-commit-clause-fewer
returns-in-Ok-commit-clause-fewer g c =
    let m = g.R.Rules.meaning in let book = c.args.book.now in let s = book.state in let shelf = g.H.Shelf.shelf c.args.shelf.now in
    let same = ap (λ (v : CoreView _). v.state) c.state-core.ensures.core in
    let next = subst (λ (b : Base). IsNextMove (outside m shelf None 0) b c.in-Ok.what) same (c.in-Ok.ensures.next shelf None 0 refl) in
    let step = staged m s c.now.result c.in-Ok.what in
    let kept = made_keeps m s next.0 step (screened_act m s (stamp s c.now.result).0 next.0 c.in-Ok.what next.2.is) in
    let small = number_small m s step c.in-Ok-commit.ensures.ok.small.0 in
    omega (arith, kept.steps, small, ap (λ (b : Base). b.steps) c.in-Ok-commit.ensures.ok.state.same)

pub returns-in-Err-commit-clause-ends : goal.returns-in-Err-commit-clause-ends
returns-in-Err-commit-clause-ends g c = λ first told.
    let m = g.R.Rules.meaning in let book = c.args.book.now in
    let o = outside m first (g.C.Clock.told c.args.clock.now) book.limit in
    let p = place_of book c.args.left in
    let same = ap (λ (v : CoreView _). v.state) c.state-core.ensures.core in
    let next = subst (λ (b : Base). IsNextMove o b c.in-Ok.what) same (c.in-Ok.ensures.next first (g.C.Clock.told c.args.clock.now) book.limit told) in
    let step = staged m book.state c.now.result c.in-Ok.what in
    let on : IsGoingOn o p = record { opened = refl; busy = λ opened. subst (λ (b : Base). is_idle m b ≡ false) same (sym c.is_idle.ensures ∙ c.if-is_idle.false); left = c.is_none_left.ensures.some c.if-is_none_left.false; latest = c.state-core.ensures.latest } in
    subst (Ends o p) (sym c.end_of.ensures)
    (not_made o [] book c.args.left step book.state.outs (g.D.Disk.disk book.disk).told c.in-Err-commit.fault refl c.requires.whole (due_is o p next.0 c.in-Ok.what c.now.result on next.1 next.2 c.now.ensures) c.in-Err-commit.ensures.refused)

pub returns-in-Err-commit-clause-end : goal.returns-in-Err-commit-clause-end
returns-in-Err-commit-clause-end g c = subst (IsFailedByOne c.next_move.new.feeds) (sym c.end_of.ensures) (late_not_failed c.next_move.new.feeds c.in-Err-commit.fault)

pub returns-in-Err-commit-clause-broken : goal.returns-in-Err-commit-clause-broken
returns-in-Err-commit-clause-broken g c =
    broken_by c.in-Err-commit.fault c.end_of.result c.commit.new.book.broken c.end_of.ensures (λ is. c.in-Err-commit.ensures.broken (ap (λ f. Err f) is))
    (λ other. c.in-Err-commit.ensures.whole (λ is. other (cc (is))) ∙ c.requires.whole)

pub returns-in-Err-commit-clause-disk : goal.returns-in-Err-commit-clause-disk
returns-in-Err-commit-clause-disk g c = λ disk. c.in-Err-commit.ensures.failed (ap (λ f. Err f) (disk_by c.in-Err-commit.fault c.end_of.result c.end_of.ensures (cc (disk))))

pub returns-in-Err-clause-undamaged : goal.returns-in-Err-clause-undamaged
returns-in-Err-clause-undamaged g c = λ files told.
    let m = g.R.Rules.meaning in let shelf = g.H.Shelf.shelf c.args.shelf.now in
    turn_undamaged (outside m shelf None 0) c.state-core.result.now.state c.in-Err.end (c.in-Err.ensures.next shelf None 0 refl)

pub returns-in-Err-commit-clause-undamaged : goal.returns-in-Err-commit-clause-undamaged
returns-in-Err-commit-clause-undamaged g c = λ files told. subst IsUndamaged (sym c.end_of.ensures) (undamaged_by c.in-Err-commit.fault (c.in-Err-commit.ensures.undamaged files told))

pub returns-in-Err-commit-clause-bundle : goal.returns-in-Err-commit-clause-bundle
returns-in-Err-commit-clause-bundle g c = still_bundle c.in-Err-commit.ensures.err
