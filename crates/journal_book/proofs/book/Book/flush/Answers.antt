use Rattle.std.proofs.Common.{◌≡◌, ◌≢◌, ◌⊎◌, inl, inr, ◌≤◌, ◌++◌, [], ◌∷◌, ℕ, List, Bool, true, false, length, refl, sym, ◌∙◌, ap, subst, arith}
use Rattle.edge_traits.specs.Disk.{Leaves}
use Rattle.step_code.specs.declared.step.Step.{Step}
use Rattle.step_code.specs.Code.{code_of_base, first_format}
use Rattle.store_image.specs.Files.{generation_file}
use Rattle.store_image.specs.Stands.{StandsFor}
use Rattle.journal_book.specs.Alone.{LeavesAlone}
use Rattle.journal_book.specs.Book.{BookView, durable_steps, waiting_steps, IsKept}
use Rattle.journal_book.proofs.Alone.{written_alone}
use Rattle.journal_book.proofs.Flushing.{flush_leaves, kept_flushed, pending_flushed, record_is, replayed_flushed, rest_flushed, room_left, some_wait, stores_still}
use Rattle.journal_book.proofs.Long.{long_flushed}
use Rattle.journal_book.proofs.Sealing.{kept_later}
use Rattle.journal_book.proofs.book.Book.flush.Goals as goal

pub append-requires-clause-small : goal.append-requires-clause-small
append-requires-clause-small g c =
    let i = c.self.inside in
    room_left g.R.Rules.meaning i.base.value i.steps i.durable i.core.state i.pending c.bytes.result.now i.used i.limit i.journal c.self.invariant.1 c.self.invariant.2
    (λ same. c.if-self-len.false (same ∙ sym c.len.ensures)) c.bytes.ensures

pub append-requires-clause-at_rest : goal.append-requires-clause-at_rest
append-requires-clause-at_rest g c = λ whole files told.
    let rest = c.self.invariant.5 c.if-self.false files told in
    (code_of_base first_format c.self.inside.base.value ∷ rest.records, rest.journal_rests)

pub invariant_of-self : goal.invariant_of-self
invariant_of-self g c =
    let i = c.self.inside in
    let apart : i.durable ≡ length i.steps → ⊥ = λ same. c.if-self-len.false (same ∙ sym c.len.ensures) in
    let grown = c.in-Ok.ensures.ok in
    let longer = ap (λ j. j.length) grown in
    let record_of = record_is g.R.Rules.meaning i.base.value i.steps i.durable i.core.state i.pending c.bytes.result.now i.used i.limit i.journal c.self.invariant.1 c.self.invariant.2 apart c.bytes.ensures in (
      stores_still i.root i.journal c.append.new.self i.generation c.self.invariant.0 (ap (λ j. j.file) grown) (ap (λ j. j.heading) grown),
      replayed_flushed g.R.Rules.meaning i.base.value i.steps i.durable c.len-self-inside.result i.core.state c.self.invariant.1 c.len-self-inside.ensures,
      pending_flushed g.R.Rules.meaning i.base.value i.steps i.durable c.len-self-inside.result i.core.state i.pending c.bytes.result.now i.used i.limit i.journal c.append.new.self c.self.invariant.1
          c.self.invariant.2 apart c.bytes.ensures c.len-self-inside.ensures longer,
      c.self.invariant.3,
      λ whole. ap (λ j. j.broken) grown ∙ c.self.invariant.4 whole,
      λ whole after told.
          rest_flushed (g.D.Disk.disk i.disk) (g.D.Disk.disk c.append.new.disk) i.root i.journal c.append.new.self i.generation i.base.value i.steps i.durable c.len-self-inside.result _ after (g.D.Disk.disk i.disk).told
          refl told c.self.invariant.0 record_of c.len-self-inside.ensures c.in-Ok.ensures.untold c.in-Ok.ensures.elsewhere c.in-Ok.ensures.crash_elsewhere (c.self.invariant.5 whole)
          (λ files bodies was rests. c.in-Ok.ensures.at_rest files after bodies was told rests),
      λ whole after told.
          long_flushed (g.D.Disk.disk i.disk).told (g.D.Disk.disk c.append.new.disk).told i.generation i.journal.file i.core.state.outs after c.in-Ok.ensures.untold c.in-Ok.ensures.elsewhere c.self.invariant.0.file_is told (c.self.invariant.6 whole),
      c.self.invariant.7,
    )

-- some step waits, in a book that is whole
something : (waiting : List Step) (before now : Bool) → 1 ≤ length waiting → before ≡ false → before ≡ now → (now ≡ true) ⊎ (waiting ≡ []) → ⊥
something waiting before now some whole same (inl broken) = cc
something waiting before now some whole same (inr none) = omega (arith, some, ap length none)

pub returns-in-Ok-clause-nothing : goal.returns-in-Ok-clause-nothing
returns-in-Ok-clause-nothing g c = λ cause.
    let i = c.self.inside in
    let some = some_wait i.durable i.steps c.self.invariant.1.within (λ same. c.if-self-len.false (same ∙ sym c.len.ensures)) in
    absurd (something _ i.broken _ (subst (λ (b : BookView g.row.D.Denot g.row.R.Denot). 1 ≤ length (waiting_steps b)) c.self.view_is some) c.if-self.false (ap (λ b. b.broken) c.self.view_is) cause)

pub returns-in-Ok-clause-kept : goal.returns-in-Ok-clause-kept
returns-in-Ok-clause-kept g c = λ origin past kept.
    let i = c.self.inside in
    let here = subst (λ (b : BookView g.row.D.Denot g.row.R.Denot). IsKept g.D.Disk.disk g.R.Rules.meaning origin past b) (sym c.self.view_is) kept in
    let rest = c.self.invariant.5 c.if-self.false here.files here.tells in
    let grown = c.in-Ok.ensures.ok in
    let changes = c.in-Ok.ensures.elsewhere here.files here.tells in
    let is = record_is g.R.Rules.meaning i.base.value i.steps i.durable i.core.state i.pending c.bytes.result.now i.used i.limit i.journal c.self.invariant.1 c.self.invariant.2
    (λ same. c.if-self-len.false (same ∙ sym c.len.ensures)) c.bytes.ensures in
    let flushed = kept_flushed g.D.Disk.disk g.R.Rules.meaning _ i.root i.journal here.files (g.met.D.Disk.honest i.disk here.files here.tells) c.self.invariant.0 c.self.invariant.1.writable rest
    _ is origin past c.append.new.disk changes.0 c.append.new.self here changes.1 c.in-Ok.ensures.crash_elsewhere (ap (λ j. j.file) grown) (ap (λ j. j.heading) grown)
    (c.in-Ok.ensures.at_rest here.files changes.0 _ here.tells changes.1 rest.journal_rests) in
    subst (λ (n : ℕ). IsKept g.D.Disk.disk g.R.Rules.meaning origin past
    (record { disk = c.append.new.disk; rules = i.core.rules; format = i.format; generation = i.generation; root = i.root.length; base = i.base.value; steps = i.steps; kept = n; state = i.core.state; limit = i.limit; broken = i.broken }))
    (sym c.len-self-inside.ensures) flushed

pub returns-in-Ok-clause-any_moment : goal.returns-in-Ok-clause-any_moment
returns-in-Ok-clause-any_moment g c = λ origin past kept.
    let i = c.self.inside in
    let here = subst (λ (b : BookView g.row.D.Denot g.row.R.Denot). IsKept g.D.Disk.disk g.R.Rules.meaning origin past b) (sym c.self.view_is) kept in
    let rest = c.self.invariant.5 c.if-self.false here.files here.tells in
    let is = record_is g.R.Rules.meaning i.base.value i.steps i.durable i.core.state i.pending c.bytes.result.now i.used i.limit i.journal c.self.invariant.1 c.self.invariant.2
    (λ same. c.if-self-len.false (same ∙ sym c.len.ensures)) c.bytes.ensures in
    let run = flush_leaves g.D.Disk.disk g.R.Rules.meaning _ i.root i.journal here.files (g.met.D.Disk.honest i.disk here.files here.tells) c.self.invariant.0 c.self.invariant.1.writable rest
    _ is origin past c.append.new.disk here (c.in-Ok.ensures.any_moment here.files _ here.tells rest.journal_rests) in
    subst (λ (b : BookView g.row.D.Denot g.row.R.Denot). Leaves (g.D.Disk.disk b.disk) (g.D.Disk.disk c.append.new.disk) (StandsFor g.R.Rules.meaning origin (past ++ durable_steps b) (waiting_steps b))) c.self.view_is run

pub returns-in-Err-clause-nothing : goal.returns-in-Err-clause-nothing
returns-in-Err-clause-nothing g c = λ cause.
    let i = c.self.inside in
    let some = some_wait i.durable i.steps c.self.invariant.1.within (λ same. c.if-self-len.false (same ∙ sym c.len.ensures)) in
    absurd (something _ i.broken _ (subst (λ (b : BookView g.row.D.Denot g.row.R.Denot). 1 ≤ length (waiting_steps b)) c.self.view_is some) c.if-self.false (ap (λ b. b.broken) c.self.view_is) cause)

pub returns-in-Err-clause-kept : goal.returns-in-Err-clause-kept
returns-in-Err-clause-kept g c = λ origin past kept.
    let i = c.self.inside in
    let here = subst (λ (b : BookView g.row.D.Denot g.row.R.Denot). IsKept g.D.Disk.disk g.R.Rules.meaning origin past b) (sym c.self.view_is) kept in
    let rest = c.self.invariant.5 c.if-self.false here.files here.tells in
    let changes = c.in-Err.ensures.elsewhere here.files here.tells in
    let honest = g.met.D.Disk.honest i.disk here.files here.tells in
    let is = record_is g.R.Rules.meaning i.base.value i.steps i.durable i.core.state i.pending c.bytes.result.now i.used i.limit i.journal c.self.invariant.1 c.self.invariant.2
    (λ same. c.if-self-len.false (same ∙ sym c.len.ensures)) c.bytes.ensures in
    let run = flush_leaves g.D.Disk.disk g.R.Rules.meaning _ i.root i.journal here.files honest c.self.invariant.0 c.self.invariant.1.writable rest
    _ is origin past c.append.new.disk here (c.in-Err.ensures.any_moment here.files _ here.tells rest.journal_rests) in
    kept_later g.D.Disk.disk g.R.Rules.meaning origin past _ c.append.new.disk true changes.0 here changes.1 (λ image le left. g.met.D.Disk.counts_now c.append.new.disk _ image le left) run

pub returns-in-Err-clause-any_moment : goal.returns-in-Err-clause-any_moment
returns-in-Err-clause-any_moment g c = λ origin past kept.
    let i = c.self.inside in
    let here = subst (λ (b : BookView g.row.D.Denot g.row.R.Denot). IsKept g.D.Disk.disk g.R.Rules.meaning origin past b) (sym c.self.view_is) kept in
    let rest = c.self.invariant.5 c.if-self.false here.files here.tells in
    let is = record_is g.R.Rules.meaning i.base.value i.steps i.durable i.core.state i.pending c.bytes.result.now i.used i.limit i.journal c.self.invariant.1 c.self.invariant.2
    (λ same. c.if-self-len.false (same ∙ sym c.len.ensures)) c.bytes.ensures in
    let run = flush_leaves g.D.Disk.disk g.R.Rules.meaning _ i.root i.journal here.files (g.met.D.Disk.honest i.disk here.files here.tells) c.self.invariant.0 c.self.invariant.1.writable rest
    _ is origin past c.append.new.disk here (c.in-Err.ensures.any_moment here.files _ here.tells rest.journal_rests) in
    subst (λ (b : BookView g.row.D.Denot g.row.R.Denot). Leaves (g.D.Disk.disk b.disk) (g.D.Disk.disk c.append.new.disk) (StandsFor g.R.Rules.meaning origin (past ++ durable_steps b) (waiting_steps b))) c.self.view_is run

pub returns-in-Ok-clause-others : goal.returns-in-Ok-clause-others
returns-in-Ok-clause-others g c = λ files told.
    let i = c.self.inside in
    let here = ap (λ b. (g.D.Disk.disk b.disk).told) c.self.view_is ∙ told in
    let rest = c.self.invariant.5 c.if-self.false files here in
    subst (λ (b : BookView g.row.D.Denot g.row.R.Denot). LeavesAlone (g.D.Disk.disk b.disk) (g.D.Disk.disk c.append.new.disk) (λ file. file ≢ generation_file b.generation)) c.self.view_is
    (written_alone (g.D.Disk.disk i.disk) (g.D.Disk.disk c.append.new.disk) i.journal.file i.generation _ c.self.invariant.0.file_is c.in-Ok.ensures.elsewhere c.in-Ok.ensures.crash_elsewhere (c.in-Ok.ensures.any_moment files _ here rest.journal_rests))

pub returns-in-Err-clause-others : goal.returns-in-Err-clause-others
returns-in-Err-clause-others g c = λ files told.
    let i = c.self.inside in
    let here = ap (λ b. (g.D.Disk.disk b.disk).told) c.self.view_is ∙ told in
    let rest = c.self.invariant.5 c.if-self.false files here in
    subst (λ (b : BookView g.row.D.Denot g.row.R.Denot). LeavesAlone (g.D.Disk.disk b.disk) (g.D.Disk.disk c.append.new.disk) (λ file. file ≢ generation_file b.generation)) c.self.view_is
    (written_alone (g.D.Disk.disk i.disk) (g.D.Disk.disk c.append.new.disk) i.journal.file i.generation _ c.self.invariant.0.file_is c.in-Err.ensures.elsewhere c.in-Err.ensures.crash_elsewhere (c.in-Err.ensures.any_moment files _ here rest.journal_rests))
