-- How going through generations ends.
use Rattle.std.specs.Prelude.{◌≡◌, ◌≢◌, ◌-◌, ◌+◌, ℕ, List, Option, None, Some, Result, Ok, Err}
use Rattle.edge_traits.specs.Disk.{DiskView, Image}
use Rattle.disk_journal.specs.Reads.{OnlyReads}
use Rattle.disk_journal.specs.GateFile.{frame_length, header_length}
use Rattle.step_code.specs.declared.base.Base.{Base}
use Rattle.step_code.specs.declared.step.Step.{Step}
use Rattle.step_code.specs.Code.{code_of_base, first_format, IsWritableBase}
use Rattle.step_code.specs.History.{replay}
use Rattle.step_code.specs.Rules.{Meaning}
use Rattle.step_code.specs.Sound.{IsSound}
use Rattle.store_image.specs.Damage.{IsDamagedFile, NameNone}
use Rattle.store_image.specs.Files.{generation_file, root_file, root_heading}
use Rattle.generation_reading.specs.Reading.{HoldAlong}
use Rattle.store_audit.specs.Audit.{ComeTo, Follows, IsAllowed, IsRight}
use Rattle.store_audit.specs.declared.generation.End.{End}
use Rattle.store_audit.specs.declared.verdict.AuditFault.{AuditFault}
use Rattle.store_audit.specs.declared.generation.End.TheVariants as end
use Rattle.store_audit.specs.declared.verdict.Verdict.{Verdict}
use Rattle.store_audit.specs.declared.verdict.Verdict.TheVariants as verdict

-- the root is damaged
abbrev pub IsDamagedRoot : Image → Type 0
IsDamagedRoot files = (at : ℕ) × IsDamagedFile root_heading NameNone (files root_file) at

-- a verdict that is found passes; a fault says nothing of the files
abbrev pub IsEnd : (Verdict → Type 0) → End → Type 0
IsEnd passes (end.Found found) = passes found
IsEnd passes (end.Fault fault) = Unit {0}

-- a body is a state with which the generation may begin
pub record IsBegun (m : Meaning) (image : Image) (before : Option Base) (body : List ℕ) (base : Base) : Type 0 where
  pub code : body ≡ code_of_base first_format base
  pub writable : IsWritableBase first_format base
  pub sound : IsSound m base
  pub follows : Follows m image before base

-- it is none, which is told at its place
pub record IsUnbegun (m : Meaning) (image : Image) (generation : ℕ) (before : Option Base) (body : List ℕ) (found : Verdict) : Type 0 where
  pub wrong : (base : Base) → IsWritableBase first_format base → IsSound m base → Follows m image before base → body ≢ code_of_base first_format base
  pub place : found ≡ verdict.Damaged (generation_file generation) (header_length + frame_length)

-- records hold steps that are all allowed from this state on and lead to that one, and none of them is cut
pub record AreThrough (m : Meaning) (s : Base) (records : List (List ℕ)) (cut : Option ℕ) (behind : Base) : Type 0 where
  pub steps : List Step
  pub hold : HoldAlong m (IsAllowed m) s records steps
  pub whole : cut ≡ None
  pub leads : behind ≡ replay m s steps

-- a generation is right, and leads to this state
pub record LeadsTo (m : Meaning) (image : Image) (generation : ℕ) (before : Option Base) (behind : Base) : Type 0 where
  pub base : Base
  pub steps : List Step
  pub right : IsRight m image generation before base steps
  pub leads : behind ≡ replay m base steps

-- the generations before this one are right and lead to a state: what those from here on come to, all come to
pub record HasCome (m : Meaning) (old now : DiskView) (all next : ℕ) (s : Base) : Type 0 where
  pub reads : OnlyReads old now
  pub so : (files : Image) → old.told ≡ Some files → (found : Verdict) → ComeTo m files (all - next) next (Some s) found → ComeTo m files all 0 None found

-- a verdict that is found, or none
abbrev pub verdict_of : End → Result Verdict AuditFault
verdict_of (end.Found found) = Ok found
verdict_of (end.Fault fault) = Err fault
