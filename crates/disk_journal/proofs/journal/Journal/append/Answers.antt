use Rattle.std.proofs.Common.{◌≡◌, ◌++◌, [], ◌∷◌, refl, sym, ◌∙◌, subst, arith}
use Rattle.edge_traits.specs.Disk.{Leaves, LeavesOthers}
use Rattle.disk_journal.specs.GateFile.{gate_file, HasOldOrNew}
use Rattle.disk_journal.specs.Journal.{JournalView, IsAtRest}
use Rattle.disk_journal.proofs.Resting.{at_end, laid_out, rests_again}
use Rattle.disk_journal.proofs.journal.Journal.append.Goals as goal

pub returns-in-Ok-clause-at_rest : goal.returns-in-Ok-clause-at_rest
returns-in-Ok-clause-at_rest g c = λ files after bodies told now rest.
    let inside = subst (λ j. IsAtRest j (g.D.Disk.disk c.args.disk.now).may_leave bodies files) (sym c.self.view_is) rest in
    let bytes = laid_out c.deref.result.now c.fill.new.buffer _ c.args.body.now _ c.deref.ensures.value (c.fill.ensures.len ∙ c.deref_mut.ensures.len) c.fill.ensures.record (omega (arith, c.requires.small)) in
    let content = c.in-Ok.ensures.written files after _ bodies c.args.body.now told now (at_end _ _ bodies files inside) bytes in
    rests_again _ _ _ _ bodies files after c.args.body.now inside bytes.short refl refl refl refl content (c.in-Ok.ensures.durable after now)

pub returns-in-Ok-clause-appended : goal.returns-in-Ok-clause-appended
returns-in-Ok-clause-appended g c = λ files after bodies told now rest.
    let inside = subst (λ j. IsAtRest j (g.D.Disk.disk c.args.disk.now).may_leave bodies files) (sym c.self.view_is) rest in
    let bytes = laid_out c.deref.result.now c.fill.new.buffer _ c.args.body.now _ c.deref.ensures.value (c.fill.ensures.len ∙ c.deref_mut.ensures.len) c.fill.ensures.record (omega (arith, c.requires.small)) in
    subst (λ (j : JournalView). after j.file ≡ gate_file j.heading (bodies ++ c.args.body.now ∷ []) 0) c.self.view_is
    (c.in-Ok.ensures.written files after _ bodies c.args.body.now told now (at_end _ _ bodies files inside) bytes)

pub returns-in-Ok-clause-any_moment : goal.returns-in-Ok-clause-any_moment
returns-in-Ok-clause-any_moment g c = λ files bodies told rest.
    let inside = subst (λ j. IsAtRest j (g.D.Disk.disk c.args.disk.now).may_leave bodies files) (sym c.self.view_is) rest in
    let bytes = laid_out c.deref.result.now c.fill.new.buffer _ c.args.body.now _ c.deref.ensures.value (c.fill.ensures.len ∙ c.deref_mut.ensures.len) c.fill.ensures.record (omega (arith, c.requires.small)) in
    let run = c.in-Ok.ensures.any_moment files _ bodies c.args.body.now told (at_end _ _ bodies files inside) bytes in
    subst (λ (j : JournalView). Leaves (g.D.Disk.disk c.args.disk.now) (g.D.Disk.disk c.write_record.new.disk) (λ image. HasOldOrNew j.heading bodies c.args.body.now (image j.file) × LeavesOthers (g.D.Disk.disk c.args.disk.now) j.file image))
    c.self.view_is run

pub returns-in-Err-clause-any_moment : goal.returns-in-Err-clause-any_moment
returns-in-Err-clause-any_moment g c = λ files bodies told rest.
    let inside = subst (λ j. IsAtRest j (g.D.Disk.disk c.args.disk.now).may_leave bodies files) (sym c.self.view_is) rest in
    let bytes = laid_out c.deref.result.now c.fill.new.buffer _ c.args.body.now _ c.deref.ensures.value (c.fill.ensures.len ∙ c.deref_mut.ensures.len) c.fill.ensures.record (omega (arith, c.requires.small)) in
    let run = c.in-Err.ensures.any_moment files _ bodies c.args.body.now told (at_end _ _ bodies files inside) bytes in
    subst (λ (j : JournalView). Leaves (g.D.Disk.disk c.args.disk.now) (g.D.Disk.disk c.write_record.new.disk) (λ image. HasOldOrNew j.heading bodies c.args.body.now (image j.file) × LeavesOthers (g.D.Disk.disk c.args.disk.now) j.file image))
    c.self.view_is run
