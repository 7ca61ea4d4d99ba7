use Rattle.std.proofs.Common.{◌≡◌, length, sym, ap, subst, ◌∙◌}
use Rattle.edge_traits.specs.Disk.{Leaves}
use Rattle.edge_traits.proofs.Moments.{run_on}
use Rattle.store_image.specs.Stands.{StandsFor}
use Rattle.journal_book.specs.Alone.{IsBeside, LeavesAlone}
use Rattle.journal_book.specs.Book.{BookView}
use Rattle.journal_book.specs.Opening.{StandsNow}
use Rattle.journal_book.proofs.Alone.{alone_on, reads_alone}
use Rattle.journal_book.proofs.Recovering.{reads_keep}
use Rattle.book_runs.proofs.Called.{stands_read}
use Rattle.audit_command.specs.Audited.{IsAuditOf}
use Rattle.audit_command.specs.declared.end.AuditEnd.{AuditEnd}
use Rattle.audit_command.proofs.Telling.{told_closed, told_fault, told_of}
use Rattle.audit_command.proofs.auditing.audit.Goals as goal

-- ---- no verdict

pub returns-in-Err-clause-audited : goal.returns-in-Err-clause-audited
returns-in-Err-clause-audited g c = λ files told.
    let sink = g.S.Sink.sink c.args.out.now in
    subst (λ (e : AuditEnd). IsAuditOf g.R.Rules.meaning files e sink sink) (sym c.fault_end.ensures) (told_fault g.R.Rules.meaning files c.in-Err.fault sink)

pub returns-in-Err-clause-stands : goal.returns-in-Err-clause-stands
returns-in-Err-clause-stands g c = λ origin steps more was.
    let keeps = reads_keep (g.met.D.Disk.only_now c.args.disk) c.in-Err.ensures.reads in
    record { any_moment = keeps.run g.R.Rules.meaning origin steps more was; now = keeps.now g.R.Rules.meaning origin steps more was }

pub returns-in-Err-clause-others : goal.returns-in-Err-clause-others
returns-in-Err-clause-others g c = λ files told. reads_alone (IsBeside files) (g.met.D.Disk.only_now c.args.disk) c.in-Err.ensures.reads

-- ---- the store opens

pub returns-in-Ok-reopen-clause-audited : goal.returns-in-Ok-reopen-clause-audited
returns-in-Ok-reopen-clause-audited g c = λ files told.
    let book = c.in-Ok-reopen.book in
    told_of g.R.Rules.meaning files book.generation book.base book.steps (c.in-Ok-reopen.ensures.opens files (c.in-Ok.ensures.reads.told ∙ told)) c.in-Ok.found (c.in-Ok.ensures.verdict files told) c.tell-end.result _ _ c.tell-end.ensures.told

pub returns-in-Ok-reopen-clause-stands : goal.returns-in-Ok-reopen-clause-stands
returns-in-Ok-reopen-clause-stands g c = λ origin steps more was.
    let m = g.R.Rules.meaning in
    let book = c.in-Ok-reopen.book in
    let keeps = reads_keep (g.met.D.Disk.only_now c.args.disk) c.in-Ok.ensures.reads in
    let mid = keeps.now m origin steps more was in
    let all : book.kept ≡ length book.steps = ap (λ (b : BookView _ _). b.kept) c.in-Ok-reopen.ensures.book in
    record {
      any_moment = subst (λ d. Leaves (g.D.Disk.disk c.args.disk) (g.D.Disk.disk d) (StandsFor m origin steps more)) (sym c.into_disk.ensures) (run_on (keeps.run m origin steps more was) (c.in-Ok-reopen.ensures.any_moment origin steps more mid));
      now = subst (λ d. StandsNow m origin steps more (g.D.Disk.disk d)) (sym c.into_disk.ensures) (stands_read origin steps more book all (c.in-Ok-reopen.ensures.kept origin steps more mid));
    }

pub returns-in-Ok-reopen-clause-others : goal.returns-in-Ok-reopen-clause-others
returns-in-Ok-reopen-clause-others g c = λ files told.
    subst (λ d. LeavesAlone (g.D.Disk.disk c.args.disk) (g.D.Disk.disk d) (IsBeside files)) (sym c.into_disk.ensures)
    (alone_on (reads_alone (IsBeside files) (g.met.D.Disk.only_now c.args.disk) c.in-Ok.ensures.reads) (c.in-Ok-reopen.ensures.others files (c.in-Ok.ensures.reads.told ∙ told)))

-- ---- it doesn't

pub returns-in-Err-reopen-clause-audited : goal.returns-in-Err-reopen-clause-audited
returns-in-Err-reopen-clause-audited g c = λ files told.
    let sink = g.S.Sink.sink c.args.out.now in
    subst (λ (e : AuditEnd). IsAuditOf g.R.Rules.meaning files e sink sink) (sym c.closed_end.ensures) (told_closed g.R.Rules.meaning files _ c.in-Err-reopen.fault sink (c.in-Ok.ensures.reads.told ∙ told) c.in-Err-reopen.ensures.fault)

pub returns-in-Err-reopen-clause-stands : goal.returns-in-Err-reopen-clause-stands
returns-in-Err-reopen-clause-stands g c = λ origin steps more was.
    let m = g.R.Rules.meaning in
    let keeps = reads_keep (g.met.D.Disk.only_now c.args.disk) c.in-Ok.ensures.reads in
    let mid = keeps.now m origin steps more was in
    record { any_moment = run_on (keeps.run m origin steps more was) (c.in-Err-reopen.ensures.any_moment_err origin steps more mid); now = c.in-Err-reopen.ensures.still_err origin steps more mid }

pub returns-in-Err-reopen-clause-others : goal.returns-in-Err-reopen-clause-others
returns-in-Err-reopen-clause-others g c = λ files told.
    alone_on (reads_alone (IsBeside files) (g.met.D.Disk.only_now c.args.disk) c.in-Ok.ensures.reads) (c.in-Err-reopen.ensures.others_err files (c.in-Ok.ensures.reads.told ∙ told))
