use Rattle.std.proofs.Common.{◌≡◌, Some, None, IsSomeAnd, sym, ap, subst, ◌∙◌}
use Rattle.std.specs.List.{AllByRecursion}
use Rattle.std.specs.Prelude.{◌≢◌}
use Rattle.journal_book.specs.Book.{BookView}
use Rattle.book_lock.specs.Seats.{knows, opening, IsSeatOf}
use Rattle.locked_book.specs.Locked.{LockedView}
use Rattle.bot_runner.specs.Parts.{AreEach, HasWorked, IsNew}
use Rattle.bot_runner.specs.Round.{HasRun}
use Rattle.bot_runner.proofs.Joining.{each_map}
use Rattle.bot_runner.proofs.Slotted.{all_done, and_on, each_at, inner_some, refilled, some_not, spliced}
use Rattle.bot_runner.proofs.round.run_round.Goals as goal

pub run_all-requires-clause-worker : goal.run_all-requires-clause-worker
run_all-requires-clause-worker g c κs within = λ i d less.
    let r =
    each_at (λ worker slot. (slot.worker ≡ Some worker) × (slot.end ≡ None) × IsSomeAnd slot.seat (λ s. IsSeatOf c.in-Ok-start.made.0 s × ((knows s).parts ≡ 1) × IsNew g.R.Rules.meaning (opening c.in-Ok-start.made.0) (knows s)))
    c.args.workers.items c.as_mut_slice.result.now (subst (λ l. AreEach (λ worker slot. (slot.worker ≡ Some worker) × (slot.end ≡ None) × IsSomeAnd slot.seat (λ s. IsSeatOf c.in-Ok-start.made.0 s × ((knows s).parts ≡ 1) × IsNew g.R.Rules.meaning (opening c.in-Ok-start.made.0) (knows s))) c.args.workers.items l) (sym c.as_mut_slice.ensures.value) c.fill-seat.ensures.slots) i d less in
    some_not _ r.0 r.1.0

pub run_all-requires-clause-unended : goal.run_all-requires-clause-unended
run_all-requires-clause-unended g c κs within = λ i d less.
    let r =
    each_at (λ worker slot. (slot.worker ≡ Some worker) × (slot.end ≡ None) × IsSomeAnd slot.seat (λ s. IsSeatOf c.in-Ok-start.made.0 s × ((knows s).parts ≡ 1) × IsNew g.R.Rules.meaning (opening c.in-Ok-start.made.0) (knows s)))
    c.args.workers.items c.as_mut_slice.result.now (subst (λ l. AreEach (λ worker slot. (slot.worker ≡ Some worker) × (slot.end ≡ None) × IsSomeAnd slot.seat (λ s. IsSeatOf c.in-Ok-start.made.0 s × ((knows s).parts ≡ 1) × IsNew g.R.Rules.meaning (opening c.in-Ok-start.made.0) (knows s))) c.args.workers.items l) (sym c.as_mut_slice.ensures.value) c.fill-seat.ensures.slots) i d less in
    r.1.1

pub run_all-requires-clause-seat : goal.run_all-requires-clause-seat
run_all-requires-clause-seat g c κs within = λ i d less.
    let r =
    each_at (λ worker slot. (slot.worker ≡ Some worker) × (slot.end ≡ None) × IsSomeAnd slot.seat (λ s. IsSeatOf c.in-Ok-start.made.0 s × ((knows s).parts ≡ 1) × IsNew g.R.Rules.meaning (opening c.in-Ok-start.made.0) (knows s)))
    c.args.workers.items c.as_mut_slice.result.now (subst (λ l. AreEach (λ worker slot. (slot.worker ≡ Some worker) × (slot.end ≡ None) × IsSomeAnd slot.seat (λ s. IsSeatOf c.in-Ok-start.made.0 s × ((knows s).parts ≡ 1) × IsNew g.R.Rules.meaning (opening c.in-Ok-start.made.0) (knows s))) c.args.workers.items l) (sym c.as_mut_slice.ensures.value) c.fill-seat.ensures.slots) i d less in
    r.1.2

pub finish-requires-clause-each : goal.finish-requires-clause-each
finish-requires-clause-each g c =
    let each =
    spliced (λ worker slot. (slot.worker ≡ Some worker) × (slot.end ≡ None) × IsSomeAnd slot.seat (λ s. IsSeatOf c.in-Ok-start.made.0 s × ((knows s).parts ≡ 1) × IsNew g.R.Rules.meaning (opening c.in-Ok-start.made.0) (knows s)))
    (λ slot. slot.worker) (λ worker slot. IsSomeAnd slot.seat (λ s. IsSeatOf c.in-Ok-start.made.0 s × ((knows s).parts ≡ 1) × IsSomeAnd slot.end (HasWorked g.S.Source.source g.R.Rules.meaning (g.C.Clock.told c.args.clock.now) c.args.until.left (opening c.in-Ok-start.made.0).opening worker (knows s))))
    (λ slot. slot.worker ≡ None) (λ worker slot is. is.0) c.args.workers.items c.as_mut_slice.result.now c.run_all.new.slots
    (subst (λ l. AreEach (λ worker slot. (slot.worker ≡ Some worker) × (slot.end ≡ None) × IsSomeAnd slot.seat (λ s. IsSeatOf c.in-Ok-start.made.0 s × ((knows s).parts ≡ 1) × IsNew g.R.Rules.meaning (opening c.in-Ok-start.made.0) (knows s))) c.args.workers.items l) (sym c.as_mut_slice.ensures.value) c.fill-seat.ensures.slots) c.run_all.auto.slots c.run_all.ensures.worked in
    let back = refilled c.fill-seat.new.slots.len c.run_all.new.slots c.fill-seat.new.slots.items (c.run_all.auto.slots ∙ c.as_mut_slice.ensures.len) in
    subst (AllByRecursion (λ slot. IsSomeAnd slot.seat (λ s. IsSeatOf c.in-Ok-start.made.0 s × ((knows s).parts ≡ 1)) × (slot.worker ≡ None) × (slot.end ≢ None))) back
    (all_done (λ worker slot. IsSomeAnd slot.seat (λ s. IsSeatOf c.in-Ok-start.made.0 s × ((knows s).parts ≡ 1) × IsSomeAnd slot.end (HasWorked g.S.Source.source g.R.Rules.meaning (g.C.Clock.told c.args.clock.now) c.args.until.left (opening c.in-Ok-start.made.0).opening worker (knows s))) × (slot.worker ≡ None))
    (λ slot. IsSomeAnd slot.seat (λ s. IsSeatOf c.in-Ok-start.made.0 s × ((knows s).parts ≡ 1)) × (slot.worker ≡ None) × (slot.end ≢ None))
    (λ worker slot is. (and_on slot.seat (λ s p. (p.0, p.1)) is.0, is.1, inner_some (λ s. HasWorked g.S.Source.source g.R.Rules.meaning (g.C.Clock.told c.args.clock.now) c.args.until.left (opening c.in-Ok-start.made.0).opening worker (knows s)) slot.seat slot.end (and_on slot.seat (λ s p. p.2) is.0))) c.args.workers.items c.run_all.new.slots each)

pub returns-clause-ok : goal.returns-clause-ok
returns-clause-ok g c =
    let each =
    spliced (λ worker slot. (slot.worker ≡ Some worker) × (slot.end ≡ None) × IsSomeAnd slot.seat (λ s. IsSeatOf c.in-Ok-start.made.0 s × ((knows s).parts ≡ 1) × IsNew g.R.Rules.meaning (opening c.in-Ok-start.made.0) (knows s)))
    (λ slot. slot.worker) (λ worker slot. IsSomeAnd slot.seat (λ s. IsSeatOf c.in-Ok-start.made.0 s × ((knows s).parts ≡ 1) × IsSomeAnd slot.end (HasWorked g.S.Source.source g.R.Rules.meaning (g.C.Clock.told c.args.clock.now) c.args.until.left (opening c.in-Ok-start.made.0).opening worker (knows s))))
    (λ slot. slot.worker ≡ None) (λ worker slot is. is.0) c.args.workers.items c.as_mut_slice.result.now c.run_all.new.slots
    (subst (λ l. AreEach (λ worker slot. (slot.worker ≡ Some worker) × (slot.end ≡ None) × IsSomeAnd slot.seat (λ s. IsSeatOf c.in-Ok-start.made.0 s × ((knows s).parts ≡ 1) × IsNew g.R.Rules.meaning (opening c.in-Ok-start.made.0) (knows s))) c.args.workers.items l) (sym c.as_mut_slice.ensures.value) c.fill-seat.ensures.slots) c.run_all.auto.slots c.run_all.ensures.worked in
    let is = ap (λ (v : LockedView _ _). v.opening) (c.in-Ok-start.ensures.ok.1 ∙ c.open.ensures) in
    let worked =
    each_map (λ worker slot. IsSomeAnd slot.seat (λ s. IsSeatOf c.in-Ok-start.made.0 s × ((knows s).parts ≡ 1) × IsSomeAnd slot.end (HasWorked g.S.Source.source g.R.Rules.meaning (g.C.Clock.told c.args.clock.now) c.args.until.left (opening c.in-Ok-start.made.0).opening worker (knows s))) × (slot.worker ≡ None)) (λ worker slot. IsSomeAnd slot.seat (λ s. IsSomeAnd slot.end (HasWorked g.S.Source.source g.R.Rules.meaning (g.C.Clock.told c.args.clock.now) c.args.until.left (opening c.in-Ok-start.made.0).opening worker (knows s))))
    (λ worker slot is. and_on slot.seat (λ s p. p.2) is.0) c.args.workers.items c.run_all.new.slots each in
    let back = refilled c.fill-seat.new.slots.len c.run_all.new.slots c.fill-seat.new.slots.items (c.run_all.auto.slots ∙ c.as_mut_slice.ensures.len) in
    subst (λ (b : BookView _ _). HasRun g.D.Disk.disk g.S.Source.source g.R.Rules.meaning (g.C.Clock.told c.args.clock.now) c.args.until.left b c.finish.result.book c.args.workers.items c.finish.result.ends.items) is
    (c.finish.ensures (g.C.Clock.told c.args.clock.now) c.args.until.left c.args.workers.items (subst (AreEach (λ worker slot. IsSomeAnd slot.seat (λ s. IsSomeAnd slot.end (HasWorked g.S.Source.source g.R.Rules.meaning (g.C.Clock.told c.args.clock.now) c.args.until.left (opening c.in-Ok-start.made.0).opening worker (knows s)))) c.args.workers.items) back worked))
