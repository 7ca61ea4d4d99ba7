use Rattle.std.proofs.Common.{◌≡◌, ◌+◌, ◌*◌, ◌++◌, [], ℕ, suc, length, map, None, Result, Ok, Err, OnOk, sym, ◌∙◌, ap, subst, arith}
use Rattle.edge_traits.specs.Disk.{Leaves}
use Rattle.edge_traits.proofs.Moments.{run_on}
use Rattle.core_state.specs.Sealing.{sealed_out}
use Rattle.store_image.specs.Opens.{AreLong}
use Rattle.store_image.specs.Stands.{StandsFor}
use Rattle.journal_book.specs.Book.{BookView, IsKept}
use Rattle.journal_book.specs.Outputs.{AreWritten}
use Rattle.journal_book.specs.Renewing.{renew_cause, spent_by_renewal, IsRenewFault}
use Rattle.journal_book.specs.declared.renew_fault.RenewFault.{RenewFault}
use Rattle.journal_book.proofs.Alone.{alone_narrower, alone_on}
use Rattle.journal_book.proofs.Long.{long_sealed}
use Rattle.journal_book.proofs.Renewed.{nothing_refuses, outs_fault, refused_no_disk, refused_undamaged, stands_narrowed, stands_now, stands_still, still_written}
use Rattle.journal_book.proofs.book.Book.renew.Goals as goal

pub returns-then-self-clause-any_moment : goal.returns-then-self-clause-any_moment
returns-then-self-clause-any_moment g c = λ origin past kept. stands_still g.D.Disk.disk g.R.Rules.meaning c.args.self.now origin past c.requires.durable (g.met.D.Disk.only_now c.args.self.now.disk) kept

pub returns-in-Err-clause-disk : goal.returns-in-Err-clause-disk
returns-in-Err-clause-disk g c = λ is. absurd (refused_no_disk c.in-Err.fault c.in-Err.ensures.refused is)

pub returns-in-Err-clause-undamaged : goal.returns-in-Err-clause-undamaged
returns-in-Err-clause-undamaged g c = λ files told. refused_undamaged c.in-Err.fault c.in-Err.ensures.refused

pub returns-in-Err-clause-any_moment : goal.returns-in-Err-clause-any_moment
returns-in-Err-clause-any_moment g c = λ origin past kept. stands_still g.D.Disk.disk g.R.Rules.meaning c.args.self.now origin past c.requires.durable (g.met.D.Disk.only_now c.args.self.now.disk) kept

pub returns-in-Err-clause-failed : goal.returns-in-Err-clause-failed
returns-in-Err-clause-failed g c = λ is. absurd (refused_no_disk c.in-Err.fault c.in-Err.ensures.refused is)

pub returns-in-Err-next_base-clause-any_moment : goal.returns-in-Err-next_base-clause-any_moment
returns-in-Err-next_base-clause-any_moment g c = λ origin past kept. stands_still g.D.Disk.disk g.R.Rules.meaning c.args.self.now origin past c.requires.durable (g.met.D.Disk.only_now c.args.self.now.disk) kept

pub begin_next-requires-clause-long : goal.begin_next-requires-clause-long
begin_next-requires-clause-long g c = λ files told.
    subst (λ (b : BookView g.row.D.Denot g.row.R.Denot). AreLong 0 (map sealed_out b.state.outs) files) (sym c.in-Ok-complete_outputs.ensures.ok)
    (long_sealed (g.D.Disk.disk c.args.self.now.disk).told (g.D.Disk.disk c.complete_outputs.new.self.disk).told (g.D.Disk.disk c.complete_outputs.new.self.disk).may_leave c.args.self.now.state.outs files c.complete_outputs.ensures.untold told
    (λ before after was now. c.in-Ok-complete_outputs.ensures.completed before after was now))

on_any : {P : Type 0} (result : Result ℕ RenewFault) → P → OnOk result P
on_any (Ok number) p = p
on_any (Err fault) p = tt

pub returns-in-Ok-complete_outputs-clause-written : goal.returns-in-Ok-complete_outputs-clause-written
returns-in-Ok-complete_outputs-clause-written g c = λ origin past kept.
    let m = g.R.Rules.meaning in
    let mid = c.complete_outputs.new.self in
    let ok = c.in-Ok-complete_outputs.ensures.ok in
    let all : mid.kept ≡ length mid.steps = subst (λ (b : BookView g.row.D.Denot g.row.R.Denot). b.kept ≡ length b.steps) (sym ok) c.requires.durable in
    let lines = c.in-Ok-complete_outputs.ensures.written origin (past ++ mid.steps) c.requires.durable (stands_now g.D.Disk.disk m mid origin past all (c.complete_outputs.ensures.kept origin past kept)) in
    on_any c.begin_next.result
    (subst (λ (b : BookView g.row.D.Denot g.row.R.Denot). AreWritten m origin.first (past ++ b.steps) (g.D.Disk.disk c.begin_next.new.self.disk)) ok
    (still_written m origin.first (past ++ mid.steps) (g.D.Disk.disk mid.disk) (g.D.Disk.disk c.begin_next.new.self.disk) (λ k. ((λ same. omega (arith, same)), (λ same. omega (arith, same)))) c.begin_next.ensures.alone lines))

pub returns-in-Ok-complete_outputs-clause-kept : goal.returns-in-Ok-complete_outputs-clause-kept
returns-in-Ok-complete_outputs-clause-kept g c = λ origin past kept.
    let m = g.R.Rules.meaning in
    let mid = c.complete_outputs.new.self in
    let ok = c.in-Ok-complete_outputs.ensures.ok in
    let now = c.complete_outputs.ensures.kept origin past kept in
    let all : mid.kept ≡ length mid.steps = subst (λ (b : BookView g.row.D.Denot g.row.R.Denot). b.kept ≡ length b.steps) (sym ok) c.requires.durable in
    let lines = c.in-Ok-complete_outputs.ensures.written origin (past ++ mid.steps) c.requires.durable (stands_now g.D.Disk.disk m mid origin past all now) in
    subst (λ (b : BookView g.row.D.Denot g.row.R.Denot). OnOk c.begin_next.result (IsKept g.D.Disk.disk m origin (past ++ b.steps) c.begin_next.new.self)) ok (c.begin_next.ensures.kept origin past now lines)

pub returns-in-Ok-complete_outputs-clause-kept_err : goal.returns-in-Ok-complete_outputs-clause-kept_err
returns-in-Ok-complete_outputs-clause-kept_err g c = λ origin past kept.
    let m = g.R.Rules.meaning in
    let mid = c.complete_outputs.new.self in
    let ok = c.in-Ok-complete_outputs.ensures.ok in
    let now = c.complete_outputs.ensures.kept origin past kept in
    let all : mid.kept ≡ length mid.steps = subst (λ (b : BookView g.row.D.Denot g.row.R.Denot). b.kept ≡ length b.steps) (sym ok) c.requires.durable in
    let lines = c.in-Ok-complete_outputs.ensures.written origin (past ++ mid.steps) c.requires.durable (stands_now g.D.Disk.disk m mid origin past all now) in
    c.begin_next.ensures.kept_err origin past now lines

pub returns-in-Ok-complete_outputs-clause-any_moment : goal.returns-in-Ok-complete_outputs-clause-any_moment
returns-in-Ok-complete_outputs-clause-any_moment g c = λ origin past kept.
    let m = g.R.Rules.meaning in
    let mid = c.complete_outputs.new.self in
    let ok = c.in-Ok-complete_outputs.ensures.ok in
    let now = c.complete_outputs.ensures.kept origin past kept in
    let all : mid.kept ≡ length mid.steps = subst (λ (b : BookView g.row.D.Denot g.row.R.Denot). b.kept ≡ length b.steps) (sym ok) c.requires.durable in
    let lines = c.in-Ok-complete_outputs.ensures.written origin (past ++ mid.steps) c.requires.durable (stands_now g.D.Disk.disk m mid origin past all now) in
    run_on (stands_narrowed g.D.Disk.disk m c.args.self.now mid.disk origin past c.requires.durable (c.complete_outputs.ensures.any_moment origin past kept))
    (subst (λ (b : BookView g.row.D.Denot g.row.R.Denot). Leaves (g.D.Disk.disk mid.disk) (g.D.Disk.disk c.begin_next.new.self.disk) (StandsFor m origin (past ++ b.steps) [])) ok (c.begin_next.ensures.any_moment origin past now lines))

pub returns-in-Ok-complete_outputs-clause-others : goal.returns-in-Ok-complete_outputs-clause-others
returns-in-Ok-complete_outputs-clause-others g c = λ files told.
    let ok = c.in-Ok-complete_outputs.ensures.ok in
    let between = c.complete_outputs.ensures.others.told files told in
    alone_on (alone_narrower (λ file beside. beside.2) c.complete_outputs.ensures.others)
    (alone_narrower (λ file beside. (beside.0, (λ same. beside.1 (same ∙ ap (λ (b : BookView g.row.D.Denot g.row.R.Denot). 17 + 2 * suc b.generation) ok)))) (c.begin_next.ensures.alone between.0 between.1))

pub returns-in-Err-complete_outputs-clause-fault : goal.returns-in-Err-complete_outputs-clause-fault
returns-in-Err-complete_outputs-clause-fault g c =
    let i = c.self.inside in
    let none = subst (λ (b : BookView g.row.D.Denot g.row.R.Denot). renew_cause b ≡ None) c.self.view_is
    (nothing_refuses i.broken i.generation i.root.length i.core.state c.if-self.false (ap (λ n. spent_by_renewal i.generation n) (sym c.len.ensures) ∙ c.in-Ok.ensures.ok) c.in-Ok-next_base.ensures.ok) in
    subst (IsRenewFault (renew_cause c.args.self.now) c.args.self.now.state.outs (g.D.Disk.disk c.args.self.now.disk).told) (sym c.renew_fault.ensures)
    (outs_fault (renew_cause c.args.self.now) c.args.self.now.state.outs (g.D.Disk.disk c.args.self.now.disk).told c.in-Err-complete_outputs.fault none c.in-Err-complete_outputs.ensures.fault)

pub returns-in-Err-complete_outputs-clause-any_moment : goal.returns-in-Err-complete_outputs-clause-any_moment
returns-in-Err-complete_outputs-clause-any_moment g c = λ origin past kept. stands_narrowed g.D.Disk.disk g.R.Rules.meaning c.args.self.now c.complete_outputs.new.self.disk origin past c.requires.durable (c.complete_outputs.ensures.any_moment origin past kept)

pub returns-in-Err-complete_outputs-clause-others : goal.returns-in-Err-complete_outputs-clause-others
returns-in-Err-complete_outputs-clause-others g c = λ files told. alone_narrower (λ file beside. beside.2) c.complete_outputs.ensures.others
