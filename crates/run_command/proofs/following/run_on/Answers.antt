use Rattle.std.proofs.Common.{◌≡◌, ℕ, List, Option, Result, Err, IfErr, OnOk, false, refl, sym, ap, subst, ◌∙◌, arith}
use Rattle.drain_turns.specs.declared.end.TurnsEnd.{TurnsEnd}
use Rattle.drain_loop.specs.Calls.{outside, IsUndamaged}
use Rattle.live_reload.specs.Followed.{HasFollowed}
use Rattle.run_command.specs.Laps.{HasStepped}
use Rattle.run_command.proofs.Lapping.{failed_since}
use Rattle.run_command.proofs.Stepping.{ended_more, gone_more, gone_none}
use Rattle.run_command.proofs.following.run_on.Goals as goal

pub steps-init : goal.steps-init
steps-init g c = (
  tt,
  tt,
  subst (λ (n : ℕ). Rattle.run_command.specs.Laps.HasGoneOn g.D.Disk.disk (outside g.R.Rules.meaning (g.H.Shelf.shelf c.args.shelf.now) (g.C.Clock.told c.args.clock.now) c.args.book.limit) c.args.left c.args.book c.args.book
      (g.K.Source.source c.args.control.now).told (g.H.Shelf.shelf c.args.shelf.now) (g.S.Sink.sink c.args.out.now) (g.S.Sink.sink c.args.out.now) n Rattle.std.specs.Prelude.[] c.args.left) (sym c.requires.none)
      (gone_none {disk = g.D.Disk.disk} (outside g.R.Rules.meaning (g.H.Shelf.shelf c.args.shelf.now) (g.C.Clock.told c.args.clock.now) c.args.book.limit) (g.K.Source.source c.args.control.now).told (g.S.Sink.sink c.args.out.now) c.args.left c.args.book
      ((g.met.D.Disk g.world.𝓛 g.world.𝓜 g.world.𝓡 ((λ s x. x), (λ x. x), (λ x. x), (λ x. x))).only_now c.args.book.disk)),
  c.requires.whole,
  c.requires.follows,
  refl,
  omega arith,
  refl,
  (λ name. omega arith),
  omega arith,
  (λ none. none),
  omega arith,
)

pub steps-preserved : goal.steps-preserved
steps-preserved g c =
    let inv = c.steps.invariant in
    let m = g.R.Rules.meaning in let clock = g.C.Clock.told c.args.clock.now in
    let first = g.H.Shelf.shelf c.args.shelf.now in let before = g.S.Sink.sink c.args.out.now in
    let control = g.K.Source.source c.args.control.now in
    let o = outside m first clock c.args.book.limit in
    let after = c.step_on-back.result.0 in
    let later = g.H.Shelf.shelf c.step_on-back.new.shelf in let out = g.S.Sink.sink c.step_on-back.new.out in
    let taken = c.step_on-back.new.live.taken in let by = c.step_on-back.new.live.end in
    let front = inv.2 in
    let stepped =
    subst (λ (t : Option (List ℕ)). HasStepped g.D.Disk.disk o c.steps.left c.steps.book after t later before out taken by front.more c.step_on-back.result.1) inv.5
    (subst (λ (n : ℕ). HasStepped g.D.Disk.disk (outside m first clock n) c.steps.left c.steps.book after (g.K.Source.source c.steps.control).told later before out taken by front.more c.step_on-back.result.1) front.goes_on.same.1
    (c.step_on-back.ensures.stepped first before front.more (sym inv.7) inv.8
    (subst (λ (t : Option (List ℕ)). HasFollowed t first (g.H.Shelf.shelf c.steps.shelf) before (g.S.Sink.sink c.steps.out) c.steps.live.taken front.more) (sym inv.5) front.follows))) in (
      tt,
      tt,
      gone_more {disk = g.D.Disk.disk} o control.told before c.args.left c.steps.left c.args.book c.steps.book after (g.H.Shelf.shelf c.steps.shelf) later (g.S.Sink.sink c.steps.out) out c.steps.live.taken front c.in-Ok.now taken
          (subst (λ (r : Result (Option ℕ) TurnsEnd). HasStepped g.D.Disk.disk o c.steps.left c.steps.book after control.told later before out taken by front.more r) c.in-Ok.is stepped),
      subst (λ (r : Result (Option ℕ) TurnsEnd). OnOk r (after.broken ≡ false)) c.in-Ok.is c.step_on-back.ensures.whole,
      c.step_on-back.ensures.follows,
      c.step_on-back.ensures.same ∙ inv.5,
      omega (arith, inv.6, c.step_on-back.ensures.control),
      c.step_on-back.ensures.told ∙ inv.7,
      (λ name. let a = inv.8 name in let b = c.step_on-back.ensures.counts name in omega (arith, a, b)),
      omega (arith, inv.9, c.step_on-back.ensures.out),
      (λ none. c.step_on-back.ensures.untold (inv.10 none)),
      omega (arith, inv.11, c.step_on-back.ensures.disk_count),
    )

pub returns-in-Err-clause-ended : goal.returns-in-Err-clause-ended
returns-in-Err-clause-ended g c =
    let inv = c.steps.invariant in
    let m = g.R.Rules.meaning in let clock = g.C.Clock.told c.args.clock.now in
    let first = g.H.Shelf.shelf c.args.shelf.now in let before = g.S.Sink.sink c.args.out.now in
    let control = g.K.Source.source c.args.control.now in
    let o = outside m first clock c.args.book.limit in
    let after = c.step_on-back.result.0 in
    let later = g.H.Shelf.shelf c.step_on-back.new.shelf in let out = g.S.Sink.sink c.step_on-back.new.out in
    let taken = c.step_on-back.new.live.taken in let by = c.step_on-back.new.live.end in
    let front = inv.2 in
    let stepped =
    subst (λ (t : Option (List ℕ)). HasStepped g.D.Disk.disk o c.steps.left c.steps.book after t later before out taken by front.more c.step_on-back.result.1) inv.5
    (subst (λ (n : ℕ). HasStepped g.D.Disk.disk (outside m first clock n) c.steps.left c.steps.book after (g.K.Source.source c.steps.control).told later before out taken by front.more c.step_on-back.result.1) front.goes_on.same.1
    (c.step_on-back.ensures.stepped first before front.more (sym inv.7) inv.8
    (subst (λ (t : Option (List ℕ)). HasFollowed t first (g.H.Shelf.shelf c.steps.shelf) before (g.S.Sink.sink c.steps.out) c.steps.live.taken front.more) (sym inv.5) front.follows))) in
    ended_more {disk = g.D.Disk.disk} o control.told before c.args.left c.steps.left c.args.book c.steps.book after (g.H.Shelf.shelf c.steps.shelf) later (g.S.Sink.sink c.steps.out) out c.steps.live.taken front by c.in-Err.end
    (subst (λ (r : Result (Option ℕ) TurnsEnd). HasStepped g.D.Disk.disk o c.steps.left c.steps.book after control.told later before out taken by front.more r) c.in-Err.is stepped)

pub returns-in-Err-clause-undamaged : goal.returns-in-Err-clause-undamaged
returns-in-Err-clause-undamaged g c = λ files told.
    let now = (c.steps.invariant.2.goes_on.others files told).told files told in
    subst (λ (r : Result (Option ℕ) TurnsEnd). IfErr r IsUndamaged) c.in-Err.is (c.step_on-back.ensures.undamaged now.0 now.1)

pub returns-in-Err-clause-failed : goal.returns-in-Err-clause-failed
returns-in-Err-clause-failed g c = λ name is.
    failed_since _ (g.H.Shelf.shelf c.args.shelf.now) (g.H.Shelf.shelf c.steps.shelf) (g.H.Shelf.shelf c.step_on-back.new.shelf) name (c.steps.invariant.8 name) (c.step_on-back.ensures.failed name (c.in-Err.is ∙ ap Err is))

pub returns-in-Err-clause-counts : goal.returns-in-Err-clause-counts
returns-in-Err-clause-counts g c = λ name. let a = c.steps.invariant.8 name in let b = c.step_on-back.ensures.counts name in omega (arith, a, b)
