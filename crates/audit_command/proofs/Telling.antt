-- What is told of a store that was opened, or what it is refused for.
use Rattle.std.proofs.Common.{◌≡◌, inl, inr, ℕ, List, Option, Some, None, IfSome, MatchOption, sym, subst}
use Rattle.edge_traits.specs.Disk.{Image}
use Rattle.edge_traits.specs.Sink.{SinkView}
use Rattle.edge_traits.proofs.Outputs.{Took-nothing}
use Rattle.step_code.specs.declared.base.Base.{Base}
use Rattle.step_code.specs.declared.step.Step.{Step}
use Rattle.step_code.specs.Rules.{Meaning}
use Rattle.store_image.specs.Damage.{IsDamagedStore}
use Rattle.store_image.specs.Files.{root_file}
use Rattle.store_image.specs.Opens.{Opens}
use Rattle.store_image.proofs.Damaged.{opens_whole}
use Rattle.store_audit.specs.Audit.{IsAudited}
use Rattle.store_audit.specs.declared.verdict.AuditFault.{AuditFault}
use Rattle.store_audit.specs.declared.verdict.AuditFault.TheVariants as unaudited
use Rattle.store_audit.specs.declared.verdict.Verdict.{Verdict}
use Rattle.store_audit.specs.declared.verdict.Verdict.TheVariants as verdict
use Rattle.journal_book.specs.Opening.{IsReopenFault}
use Rattle.journal_book.specs.declared.book_fault.BookFault.{BookFault}
use Rattle.journal_book.specs.declared.book_fault.BookFault.TheVariants as fault
use Rattle.audit_command.specs.Audited.{closed_end, fault_end, ComesOpenTo, IsAuditOf, IsTold}
use Rattle.audit_command.specs.declared.end.AuditEnd.{AuditEnd}
use Rattle.audit_command.specs.declared.end.AuditEnd.TheVariants as end

-- a verdict of a store that opens
told_open : (m : Meaning) (files : Image) (found : Verdict) (e : AuditEnd) (old new : SinkView) → ComesOpenTo m files found → IsTold found e old new → IsAuditOf m files e old new
told_open m files (verdict.Legal steps) end.Legal old new comes told = (steps, comes, told)
told_open m files (verdict.Legal steps) end.Sink old new comes told = (steps, comes, told.0)
told_open m files (verdict.Legal steps) end.Memory old new comes told = told
told_open m files (verdict.Legal steps) (end.Illegal step) old new comes told = absurd told
told_open m files (verdict.Legal steps) (end.Damaged file at) old new comes told = absurd told
told_open m files (verdict.Legal steps) (end.Store have) old new comes told = absurd told
told_open m files (verdict.Legal steps) end.Disk old new comes told = absurd told
told_open m files (verdict.Illegal step) e old new comes told = subst (λ (x : AuditEnd). IsAuditOf m files x old new) (sym told.0) (comes, told.1)
told_open m files (verdict.Damaged file at) e old new comes told = subst (λ (x : AuditEnd). IsAuditOf m files x old new) (sym told.0) (inr comes, told.1)

-- a store that opens has a verdict
pub told_of : (m : Meaning) (files : Image) (g : ℕ) (base : Base) (steps : List Step) → Opens m files g base steps → (found : Option Verdict) → MatchOption found ((at : ℕ) × IsDamagedStore m files root_file at) (IsAudited m files)
    → (e : AuditEnd) (old new : SinkView) → IfSome found (λ v. IsTold v e old new) → IsAuditOf m files e old new
told_of m files g base steps opens None damaged e old new told = absurd (opens_whole m files g base steps root_file damaged.0 opens damaged.1)
told_of m files g base steps opens (Some found) audited e old new told =
    told_open m files found e old new (record { generation = g; base = base; steps = steps; opens = opens; audited = audited }) told

-- one that can't be opened
pub told_closed : (m : Meaning) (files : Image) (told : Option Image) (f : BookFault) (sink : SinkView) → told ≡ Some files → IsReopenFault m told f → IsAuditOf m files (closed_end f) sink sink
told_closed m files told fault.Disk sink is bad = Took-nothing sink
told_closed m files told (fault.Damaged file at) sink is bad = (inl (bad files is), Took-nothing sink)
told_closed m files told (fault.Store have) sink is bad = (bad.0, bad.1 files is, Took-nothing sink)
told_closed m files told fault.Refused sink is bad = absurd bad
told_closed m files told fault.OutOfMemory sink is bad = Took-nothing sink

-- one without a verdict
pub told_fault : (m : Meaning) (files : Image) (f : AuditFault) (sink : SinkView) → IsAuditOf m files (fault_end f) sink sink
told_fault m files unaudited.Disk sink = Took-nothing sink
told_fault m files unaudited.OutOfMemory sink = Took-nothing sink
