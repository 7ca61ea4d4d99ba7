use Rattle.std.proofs.Common.{◌≡◌, ◌++◌, List, [], length, Bool, false, take, take_all, refl, sym, ◌∙◌, ap, subst, arith}
use Rattle.std.proofs.Math.Seq.{take-nil}
use Rattle.std.proofs.lemmas.List.{append-nil}
use Rattle.std.proofs.lemmas.Bool.{false_from_ne_true}
use Rattle.edge_traits.specs.Disk.{Leaves}
use Rattle.step_code.specs.declared.step.Step.{Step}
use Rattle.store_image.specs.Stands.{Stands, StandsFor}
use Rattle.store_image.specs.Stored.{IsStored}
use Rattle.journal_book.specs.Alone.{IsNoOut, LeavesAlone}
use Rattle.journal_book.specs.Book.{BookView, durable_steps, waiting_steps, IsKept}
use Rattle.journal_book.specs.Outputs.{AreCompleted, IsBringUpFault}
use Rattle.journal_book.proofs.Completing.{fault_is_one}
use Rattle.journal_book.proofs.Long.{long_completed, no_damage}
use Rattle.journal_book.proofs.Flushing.{stored_now}
use Rattle.journal_book.proofs.Sealing.{kept_later, outs_leave, rest_completed}
use Rattle.journal_book.proofs.WholeFiles.{before_told, whole_files}
use Rattle.journal_book.proofs.book.Book.complete_outputs.Goals as goal

pub invariant_of-self : goal.invariant_of-self
invariant_of-self g c =
    let i = c.self.inside in (
      c.self.invariant.0,
      c.self.invariant.1,
      c.self.invariant.2,
      c.self.invariant.3,
      c.self.invariant.4,
      λ whole after told.
          rest_completed (g.D.Disk.disk i.disk) (g.D.Disk.disk c.complete_all.new.disk) i.core.state.outs i.root i.journal i.generation i.base.value (take i.durable i.steps) after (g.D.Disk.disk i.disk).told
          refl told c.self.invariant.0 c.complete_all.ensures.run (c.self.invariant.5 whole),
      λ whole after told. long_completed (g.D.Disk.disk i.disk).told (g.D.Disk.disk c.complete_all.new.disk).told _ i.core.state.outs after c.complete_all.ensures.run.untold told c.in-Ok.ensures.completed,
      c.self.invariant.7,
    )

pub invariant_of-self-in-Err : goal.invariant_of-self-in-Err
invariant_of-self-in-Err g c =
    let i = c.self.inside in
    let before : i.broken ≡ false = ap (λ b. b.broken) c.self.view_is ∙ c.requires.whole in (
      c.self.invariant.0,
      c.self.invariant.1,
      c.self.invariant.2,
      c.self.invariant.3,
      λ whole. c.self.invariant.4 before,
      λ whole after told.
          rest_completed (g.D.Disk.disk i.disk) (g.D.Disk.disk c.complete_all.new.disk) i.core.state.outs i.root i.journal i.generation i.base.value (take i.durable i.steps) after (g.D.Disk.disk i.disk).told
          refl told c.self.invariant.0 c.complete_all.ensures.run (c.self.invariant.5 before),
      λ whole after told.
          let was = before_told (g.D.Disk.disk i.disk).told (g.D.Disk.disk c.complete_all.new.disk).told after c.complete_all.ensures.run.untold told in
          c.in-Err.ensures.long was.0 after was.1 told (c.self.invariant.6 before was.0 was.1) (λ is. absurd (cc (c.is_disk-self-inside.ensures.1 is, whole))),
      λ whole. c.self.invariant.7 before,
    )

pub returns-in-Ok-clause-completed : goal.returns-in-Ok-clause-completed
returns-in-Ok-clause-completed g c = λ files after told now.
    subst (λ (b : BookView g.row.D.Denot g.row.R.Denot). AreCompleted (g.D.Disk.disk c.complete_all.new.disk).may_leave b.state.outs files after) c.self.view_is
    (c.in-Ok.ensures.completed files after (ap (λ b. (g.D.Disk.disk b.disk).told) c.self.view_is ∙ told) now)

pub returns-in-Ok-clause-written : goal.returns-in-Ok-clause-written
returns-in-Ok-clause-written g c = λ origin history durable now.
    let m = g.R.Rules.meaning in
    let i = c.self.inside in
    let disk = c.complete_all.new.disk in
    let leaves = (g.D.Disk.disk disk).may_leave in
    let honest = g.met.D.Disk.honest disk now.files now.tells in
    let rest =
    rest_completed (g.D.Disk.disk i.disk) (g.D.Disk.disk disk) i.core.state.outs i.root i.journal i.generation i.base.value (take i.durable i.steps) now.files (g.D.Disk.disk i.disk).told
    refl now.tells c.self.invariant.0 c.complete_all.ensures.run (c.self.invariant.5 (ap (λ b. b.broken) c.self.view_is ∙ c.requires.whole)) in
    let all : take i.durable i.steps ≡ i.steps =
    take_all i.durable i.steps (omega (arith, ap (λ b. b.kept) c.self.view_is, ap (λ b. length b.steps) c.self.view_is, durable)) in
    let stored = subst (λ (ss : List Step). IsStored now.files i.generation i.base.value ss) all
    (stored_now leaves i.root i.journal i.generation i.base.value (take i.durable i.steps) now.files honest c.self.invariant.0 c.self.invariant.1.writable rest now.files honest) in
    let told_before = before_told (g.D.Disk.disk i.disk).told (g.D.Disk.disk disk).told now.files c.complete_all.ensures.run.untold now.tells in
    let stands = now.each now.files honest in
    let history_is : history ++ take stands.count [] ≡ history = ap (λ ss. history ++ ss) (take-nil stands.count) ∙ append-nil history in (
      now.files,
      now.tells,
      whole_files m origin history i.generation i.base.value i.steps i.core.state leaves told_before.0 now.files
          (subst (λ (h : List Step). Stands m origin now.files h) history_is stands.stands) stored c.self.invariant.1.behind
          (c.in-Ok.ensures.completed told_before.0 now.files told_before.1 now.tells),
    )

pub returns-in-Ok-clause-kept : goal.returns-in-Ok-clause-kept
returns-in-Ok-clause-kept g c = λ origin past kept.
    let i = c.self.inside in
    let here = subst (λ (b : BookView g.row.D.Denot g.row.R.Denot). IsKept g.D.Disk.disk g.R.Rules.meaning origin past b) (sym c.self.view_is) kept in
    let rest = c.self.invariant.5 (ap (λ b. b.broken) c.self.view_is ∙ c.requires.whole) here.files here.tells in
    let run = outs_leave g.D.Disk.disk g.R.Rules.meaning _ i.root i.journal here.files (g.met.D.Disk.honest i.disk here.files here.tells) c.self.invariant.0 c.self.invariant.1.writable rest
    origin past here c.complete_all.new.disk i.core.state i.steps here.tells c.self.invariant.1.behind c.complete_all.ensures.run in
    let changes = c.complete_all.ensures.run.elsewhere here.files here.tells in
    kept_later g.D.Disk.disk g.R.Rules.meaning origin past _ c.complete_all.new.disk i.broken changes.0 here changes.1 (λ image le left. g.met.D.Disk.counts_now c.complete_all.new.disk _ image le left) run

pub returns-in-Ok-clause-any_moment : goal.returns-in-Ok-clause-any_moment
returns-in-Ok-clause-any_moment g c = λ origin past kept.
    let i = c.self.inside in
    let here = subst (λ (b : BookView g.row.D.Denot g.row.R.Denot). IsKept g.D.Disk.disk g.R.Rules.meaning origin past b) (sym c.self.view_is) kept in
    let rest = c.self.invariant.5 (ap (λ b. b.broken) c.self.view_is ∙ c.requires.whole) here.files here.tells in
    let run = outs_leave g.D.Disk.disk g.R.Rules.meaning _ i.root i.journal here.files (g.met.D.Disk.honest i.disk here.files here.tells) c.self.invariant.0 c.self.invariant.1.writable rest
    origin past here c.complete_all.new.disk i.core.state i.steps here.tells c.self.invariant.1.behind c.complete_all.ensures.run in
    subst (λ (b : BookView g.row.D.Denot g.row.R.Denot). Leaves (g.D.Disk.disk b.disk) (g.D.Disk.disk c.complete_all.new.disk) (StandsFor g.R.Rules.meaning origin (past ++ durable_steps b) (waiting_steps b))) c.self.view_is run

pub returns-in-Err-clause-disk : goal.returns-in-Err-clause-disk
returns-in-Err-clause-disk g c = λ is.
    let yes = c.is_disk-self-inside.ensures.1 (fault_is_one c.in-Err.fault _ is) in
    ap (λ (b : BookView g.row.D.Denot g.row.R.Denot). record b { disk = c.complete_all.new.disk; broken = c.is_disk-self-inside.result }) c.self.view_is
    ∙ ap (λ (x : Bool). record c.args.self.now { disk = c.complete_all.new.disk; broken = x }) yes

pub returns-in-Err-clause-still : goal.returns-in-Err-clause-still
returns-in-Err-clause-still g c = λ apart.
    let never = false_from_ne_true c.is_disk-self-inside.result (λ yes. apart (c.is_disk-self-inside.ensures.0 yes)) in
    ap (λ (b : BookView g.row.D.Denot g.row.R.Denot). record b { disk = c.complete_all.new.disk; broken = c.is_disk-self-inside.result }) c.self.view_is
    ∙ ap (λ (x : Bool). record c.args.self.now { disk = c.complete_all.new.disk; broken = x }) (never ∙ sym c.requires.whole)

pub returns-in-Err-clause-fault : goal.returns-in-Err-clause-fault
returns-in-Err-clause-fault g c = subst (λ (b : BookView g.row.D.Denot g.row.R.Denot). IsBringUpFault b.state.outs (g.D.Disk.disk b.disk).told c.in-Err.fault) c.self.view_is c.in-Err.ensures.fault

pub returns-in-Err-clause-kept : goal.returns-in-Err-clause-kept
returns-in-Err-clause-kept g c = λ origin past kept.
    let i = c.self.inside in
    let here = subst (λ (b : BookView g.row.D.Denot g.row.R.Denot). IsKept g.D.Disk.disk g.R.Rules.meaning origin past b) (sym c.self.view_is) kept in
    let rest = c.self.invariant.5 (ap (λ b. b.broken) c.self.view_is ∙ c.requires.whole) here.files here.tells in
    let run = outs_leave g.D.Disk.disk g.R.Rules.meaning _ i.root i.journal here.files (g.met.D.Disk.honest i.disk here.files here.tells) c.self.invariant.0 c.self.invariant.1.writable rest
    origin past here c.complete_all.new.disk i.core.state i.steps here.tells c.self.invariant.1.behind c.complete_all.ensures.run in
    let changes = c.complete_all.ensures.run.elsewhere here.files here.tells in
    kept_later g.D.Disk.disk g.R.Rules.meaning origin past _ c.complete_all.new.disk c.is_disk-self-inside.result changes.0 here changes.1 (λ image le left. g.met.D.Disk.counts_now c.complete_all.new.disk _ image le left) run

pub returns-in-Err-clause-any_moment : goal.returns-in-Err-clause-any_moment
returns-in-Err-clause-any_moment g c = λ origin past kept.
    let i = c.self.inside in
    let here = subst (λ (b : BookView g.row.D.Denot g.row.R.Denot). IsKept g.D.Disk.disk g.R.Rules.meaning origin past b) (sym c.self.view_is) kept in
    let rest = c.self.invariant.5 (ap (λ b. b.broken) c.self.view_is ∙ c.requires.whole) here.files here.tells in
    let run = outs_leave g.D.Disk.disk g.R.Rules.meaning _ i.root i.journal here.files (g.met.D.Disk.honest i.disk here.files here.tells) c.self.invariant.0 c.self.invariant.1.writable rest
    origin past here c.complete_all.new.disk i.core.state i.steps here.tells c.self.invariant.1.behind c.complete_all.ensures.run in
    subst (λ (b : BookView g.row.D.Denot g.row.R.Denot). Leaves (g.D.Disk.disk b.disk) (g.D.Disk.disk c.complete_all.new.disk) (StandsFor g.R.Rules.meaning origin (past ++ durable_steps b) (waiting_steps b))) c.self.view_is run

pub returns-in-Err-clause-undamaged : goal.returns-in-Err-clause-undamaged
returns-in-Err-clause-undamaged g c = λ files told.
    let i = c.self.inside in
    let here = ap (λ b. (g.D.Disk.disk b.disk).told) c.self.view_is ∙ told in
    no_damage i.core.state.outs (g.D.Disk.disk i.disk).told files c.in-Err.fault here (c.self.invariant.6 (ap (λ b. b.broken) c.self.view_is ∙ c.requires.whole) files here) c.in-Err.ensures.fault

pub returns-in-Ok-clause-others : goal.returns-in-Ok-clause-others
returns-in-Ok-clause-others g c =
    let run = c.complete_all.ensures.run in
    subst (λ (b : BookView g.row.D.Denot g.row.R.Denot). LeavesAlone (g.D.Disk.disk b.disk) (g.D.Disk.disk c.complete_all.new.disk) IsNoOut) c.self.view_is
    (record { told = run.elsewhere; now = run.crash_elsewhere; any_moment = run.others_any_moment })

pub returns-in-Err-clause-others : goal.returns-in-Err-clause-others
returns-in-Err-clause-others g c =
    let run = c.complete_all.ensures.run in
    subst (λ (b : BookView g.row.D.Denot g.row.R.Denot). LeavesAlone (g.D.Disk.disk b.disk) (g.D.Disk.disk c.complete_all.new.disk) IsNoOut) c.self.view_is
    (record { told = run.elsewhere; now = run.crash_elsewhere; any_moment = run.others_any_moment })
