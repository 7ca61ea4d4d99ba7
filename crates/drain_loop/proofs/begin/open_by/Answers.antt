use Rattle.std.proofs.Common.{[], ◌∷◌, None, refl, sym, subst}
use Rattle.journal_book.specs.Staged.{staged}
use Rattle.book_runs.proofs.Going.{goes_nowhere}
use Rattle.drain_turns.specs.Drained.{Ends}
use Rattle.drain_turns.specs.declared.end.TurnsEnd.TheVariants as end
use Rattle.drain_loop.specs.Calls.{outside, place_with, IsUndamaged}
use Rattle.drain_loop.proofs.Begun.{ends_opening, never_none, opening_due, opens_one, plain_fits, plain_staged}
use Rattle.drain_loop.proofs.Turning.{is_late, made_is, not_made, undamaged_by}
use Rattle.drain_loop.proofs.begin.open_by.Goals as goal

pub returns-then-is_none_left-clause-opened : goal.returns-then-is_none_left-clause-opened
returns-then-is_none_left-clause-opened g c = λ first later.
    let book = c.args.book.now in
    let o = outside g.R.Rules.meaning first (g.C.Clock.told c.args.clock.now) book.limit in
    ends_opening o (place_with (c.args.what ∷ later) book c.args.left) later book book end.Left (λ none. absurd (never_none c.args.what later none), c.is_none_left.ensures.none c.if-is_none_left.true)
    (goes_nowhere book (g.met.D.Disk.only_now book.disk))

pub end_of-requires : goal.end_of-requires
end_of-requires g c =
    let m = g.R.Rules.meaning in let book = c.args.book.now in
    let step = staged m book.state c.now.result c.args.what in
    is_late (outside m (record { counts = []; told = None }) None book.limit) [] book None step book.state.outs (g.D.Disk.disk book.disk).told c.in-Err.fault refl c.requires.whole (plain_fits m book.state c.now.result c.args.what c.requires.plain c.requires.fits) c.in-Err.ensures.refused

pub returns-in-Ok-clause-opened : goal.returns-in-Ok-clause-opened
returns-in-Ok-clause-opened g c = λ first later.
    let m = g.R.Rules.meaning in let book = c.args.book.now in
    let o = outside m first (g.C.Clock.told c.args.clock.now) book.limit in
    let p = place_with (c.args.what ∷ later) book c.args.left in
    let step = staged m book.state c.now.result c.args.what in
    let due = opening_due o p c.args.what later c.now.result refl (c.is_none_left.ensures.some c.if-is_none_left.false) c.state.ensures.latest c.requires.plain c.requires.fits c.now.ensures in
    opens_one o c.args.what later c.args.left c.one_less.result book c.commit.new.book step refl
    (made_is o (c.args.what ∷ later) book c.args.left step refl c.requires.whole due c.in-Ok.ensures.causes) c.in-Ok.ensures.ok c.in-Ok.ensures.book c.one_less.ensures

pub returns-in-Ok-clause-step : goal.returns-in-Ok-clause-step
returns-in-Ok-clause-step g c =
    let m = g.R.Rules.meaning in let s = c.args.book.now.state in
    (staged m s c.now.result c.args.what, plain_staged m s c.now.result c.args.what c.requires.plain, c.in-Ok.ensures.ok.state)

pub returns-in-Err-clause-opened : goal.returns-in-Err-clause-opened
returns-in-Err-clause-opened g c = λ first later.
    let m = g.R.Rules.meaning in let book = c.args.book.now in
    let o = outside m first (g.C.Clock.told c.args.clock.now) book.limit in
    let p = place_with (c.args.what ∷ later) book c.args.left in
    let step = staged m book.state c.now.result c.args.what in
    let due = opening_due o p c.args.what later c.now.result refl (c.is_none_left.ensures.some c.if-is_none_left.false) c.state.ensures.latest c.requires.plain c.requires.fits c.now.ensures in
    ends_opening o p later book c.commit.new.book c.end_of.result
    (subst (Ends o p) (sym c.end_of.ensures)
    (not_made o (c.args.what ∷ later) book c.args.left step book.state.outs (g.D.Disk.disk book.disk).told c.in-Err.fault refl c.requires.whole due c.in-Err.ensures.refused))
    c.in-Err.ensures.err

pub returns-in-Err-clause-undamaged : goal.returns-in-Err-clause-undamaged
returns-in-Err-clause-undamaged g c = λ files told. subst IsUndamaged (sym c.end_of.ensures) (undamaged_by c.in-Err.fault (c.in-Err.ensures.undamaged files told))
