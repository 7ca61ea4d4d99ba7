-- How an audit of a store ends, and what it prints.
use Rattle.std.specs.Prelude.{◌≡◌, ◌⊎◌, ◌<◌, ◌++◌, ℕ, List, [], length, codes, decimal}
use Rattle.edge_traits.specs.Count.{Rose}
use Rattle.edge_traits.specs.Disk.{Image}
use Rattle.edge_traits.specs.Output.{TookFront}
use Rattle.edge_traits.specs.Sink.{SinkView, Took}
use Rattle.step_code.specs.declared.base.Base.{Base}
use Rattle.step_code.specs.declared.step.Step.{Step}
use Rattle.step_code.specs.Rules.{Meaning}
use Rattle.store_image.specs.Damage.{IsDamagedStore}
use Rattle.store_image.specs.Files.{root_file}
use Rattle.store_image.specs.Opens.{Opens}
use Rattle.store_audit.specs.Audit.{IsAudited}
use Rattle.store_audit.specs.declared.verdict.AuditFault.{AuditFault}
use Rattle.store_audit.specs.declared.verdict.AuditFault.TheVariants as unaudited
use Rattle.store_audit.specs.declared.verdict.Verdict.{Verdict}
use Rattle.store_audit.specs.declared.verdict.Verdict.TheVariants as verdict
use Rattle.journal_book.specs.declared.book_fault.BookFault.{BookFault}
use Rattle.journal_book.specs.declared.book_fault.BookFault.TheVariants as fault
use Rattle.audit_command.specs.declared.end.AuditEnd.{AuditEnd}
use Rattle.audit_command.specs.declared.end.AuditEnd.TheVariants as end

-- what is printed of a history of so many steps that the rules allow
abbrev pub legal_text : ℕ → List ℕ
legal_text steps = codes "legal " ++ decimal steps ++ codes "\n"

-- a store opens, and comes to this verdict
pub record ComesOpenTo (m : Meaning) (files : Image) (found : Verdict) : Type 0 where
  pub generation : ℕ
  pub base : Base
  pub steps : List Step
  pub opens : Opens m files generation base steps
  pub audited : IsAudited m files found

-- a store was opened, and what it comes to is told; or there is none, or opening finds it damaged. Only what is legal is printed, a front
-- of it where the sink failed
abbrev pub IsAuditOf : Meaning → Image → AuditEnd → SinkView → SinkView → Type 0
IsAuditOf m files end.Legal old new = (steps : ℕ) × ComesOpenTo m files (verdict.Legal steps) × Took old new (legal_text steps)
IsAuditOf m files end.Sink old new = (steps : ℕ) × ComesOpenTo m files (verdict.Legal steps) × TookFront old new (legal_text steps)
IsAuditOf m files (end.Illegal step) old new = ComesOpenTo m files (verdict.Illegal step) × Took old new []
IsAuditOf m files (end.Damaged file at) old new =
    (((0 < length (files root_file)) × IsDamagedStore m files file at) ⊎ ComesOpenTo m files (verdict.Damaged file at)) × Took old new []
IsAuditOf m files (end.Store have) old new = (have ≡ 0) × (files root_file ≡ []) × Took old new []
IsAuditOf m files end.Disk old new = Took old new []
IsAuditOf m files end.Memory old new = Took old new []

-- ---- what private contracts cite

-- what comes of a store that can't be opened
abbrev pub closed_end : BookFault → AuditEnd
closed_end fault.Disk = end.Disk
closed_end (fault.Damaged file at) = end.Damaged file at
closed_end (fault.Store have) = end.Store have
closed_end fault.Refused = end.Memory
closed_end fault.OutOfMemory = end.Memory

-- what comes of an audit without a verdict
abbrev pub fault_end : AuditFault → AuditEnd
fault_end unaudited.Disk = end.Disk
fault_end unaudited.OutOfMemory = end.Memory

-- a verdict was told
abbrev pub IsTold : Verdict → AuditEnd → SinkView → SinkView → Type 0
IsTold (verdict.Legal steps) end.Legal old new = Took old new (legal_text steps)
IsTold (verdict.Legal steps) end.Sink old new = TookFront old new (legal_text steps) × Rose old.faults new.faults
IsTold (verdict.Legal steps) end.Memory old new = Took old new []
IsTold (verdict.Legal steps) (end.Illegal step) old new = ⊥
IsTold (verdict.Legal steps) (end.Damaged file at) old new = ⊥
IsTold (verdict.Legal steps) (end.Store have) old new = ⊥
IsTold (verdict.Legal steps) end.Disk old new = ⊥
IsTold (verdict.Illegal step) e old new = (e ≡ end.Illegal step) × Took old new []
IsTold (verdict.Damaged file at) e old new = (e ≡ end.Damaged file at) × Took old new []
