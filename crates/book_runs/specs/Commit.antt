-- What refuses a step that is to be committed, behind a flush and a renewal where these are due.
use Rattle.std.specs.Prelude.{◌≡◌, ◌*◌, ℕ, Bool, true, false, List, length, min, nat_lt, Option, Some, None, if◌then◌else◌}
use Rattle.base_types.specs.Number.{last_u64}
use Rattle.edge_traits.specs.Disk.{Image}
use Rattle.step_code.specs.declared.step.Step.{Step}
use Rattle.step_code.specs.declared.output.Output.{Output}
use Rattle.step_code.specs.Rules.{Meaning}
use Rattle.store_image.specs.Stored.{codes_of}
use Rattle.journal_book.specs.Book.{BookView}
use Rattle.journal_book.specs.Outputs.{IsFirstShort}
use Rattle.journal_book.specs.Renewing.{renewal_cause, renewed}
use Rattle.journal_book.specs.Staged.{cause_of, step_cause, IsStageRefusal}
use Rattle.journal_book.specs.declared.renew_fault.RenewFault.{RenewFault}
use Rattle.journal_book.specs.declared.renew_fault.RenewFault.TheVariants as renewal
use Rattle.journal_book.specs.declared.stage_refusal.StageRefusal.{StageRefusal}
use Rattle.journal_book.specs.declared.stage_refusal.StageRefusal.TheVariants as refusal
use Rattle.book_runs.specs.declared.committing.CommitFault.{CommitFault}
use Rattle.book_runs.specs.declared.committing.CommitFault.TheVariants as fault

-- ---- what public contracts cite

-- the codes of a generation's steps have so many bytes, more than half of what they may have
abbrev pub is_half_full : ℕ → ℕ → Bool
is_half_full limit bytes = nat_lt limit (2 * bytes)

-- the next step begins a generation
abbrev pub is_to_renew : {D R : Type 0} → BookView D R → Bool
is_to_renew book = is_half_full book.limit (min (length (codes_of book.steps)) last_u64)

-- the book in which the next step is made
abbrev pub readied : {D R : Type 0} → BookView D R → BookView D R
readied book = if is_to_renew book then renewed book else book

-- what refuses a generation refuses the step
abbrev pub as_refusal : Option RenewFault → Option StageRefusal
as_refusal None = None
as_refusal (Some renewal.Broken) = Some refusal.Broken
as_refusal (Some (renewal.Spent next)) = Some (refusal.Spent next)
as_refusal (Some (renewal.Full bytes)) = Some (refusal.Full bytes)
as_refusal (Some renewal.Disk) = None
as_refusal (Some (renewal.Damaged file at)) = None
as_refusal (Some renewal.OutOfMemory) = None

-- what refuses the generation that the next step begins, where it begins one
abbrev pub way_cause : {D R : Type 0} → BookView D R → Option StageRefusal
way_cause book = if is_to_renew book then as_refusal (renewal_cause book.generation book.root book.state) else None

-- the first of two causes
abbrev pub first_of : Option StageRefusal → Option StageRefusal → Option StageRefusal
first_of (Some cause) later = Some cause
first_of None later = later

-- what refuses a step: a broken book, then the generation that it begins, then what refuses the step there
abbrev pub commit_cause : {D R : Type 0} → Meaning → BookView D R → Step → Option StageRefusal
commit_cause m book step = cause_of book.broken (first_of (way_cause book) (step_cause m (readied book).state (readied book).steps book.limit step))

-- the disk failed in the flush or in the renewal; an output's file is the first that is shorter than what is sealed of it; or this
-- refuses the step
abbrev pub IsCommitFault : Option StageRefusal → List Output → Option Image → CommitFault → Type 0
IsCommitFault first outs told fault.Disk = Unit {0}
IsCommitFault first outs told (fault.Damaged file at) = (files : Image) → told ≡ Some files → IsFirstShort outs files file at
IsCommitFault first outs told (fault.Refused refusal) = IsStageRefusal first refusal

-- another fault than damage
abbrev pub IsUndamaged : CommitFault → Type 0
IsUndamaged fault.Disk = Unit {0}
IsUndamaged (fault.Damaged file at) = ⊥
IsUndamaged (fault.Refused refusal) = Unit {0}

-- what refuses a step in the generation in force: a broken book, then what refuses the step there
abbrev pub cause_within : {D R : Type 0} → Meaning → BookView D R → Step → Option StageRefusal
cause_within m book step = cause_of book.broken (step_cause m book.state book.steps book.limit step)

-- the disk failed in the flush, or this refuses the step
abbrev pub IsFaultWithin : Option StageRefusal → CommitFault → Type 0
IsFaultWithin cause fault.Disk = Unit {0}
IsFaultWithin cause (fault.Damaged file at) = ⊥
IsFaultWithin cause (fault.Refused refusal) = IsStageRefusal cause refusal

-- ---- what private contracts cite

-- what a renewal's fault says of the step that begins a generation
abbrev pub commit_fault : RenewFault → CommitFault
commit_fault renewal.Broken = fault.Refused refusal.Broken
commit_fault (renewal.Spent next) = fault.Refused (refusal.Spent next)
commit_fault (renewal.Full bytes) = fault.Refused (refusal.Full bytes)
commit_fault renewal.Disk = fault.Disk
commit_fault (renewal.Damaged file at) = fault.Damaged file at
commit_fault renewal.OutOfMemory = fault.Refused refusal.OutOfMemory

-- no way was made for a step: the disk failed, or an output's file is too short; or the book was broken, or this refuses its next
-- generation, or memory ran out
abbrev pub IsWayFault : Bool → Option StageRefusal → List Output → Option Image → CommitFault → Type 0
IsWayFault broken cause outs told fault.Disk = Unit {0}
IsWayFault broken cause outs told (fault.Damaged file at) = (files : Image) → told ≡ Some files → IsFirstShort outs files file at
IsWayFault broken cause outs told (fault.Refused refusal.Broken) = broken ≡ true
IsWayFault broken cause outs told (fault.Refused (refusal.Step step)) = ⊥
IsWayFault broken cause outs told (fault.Refused (refusal.Spent next)) = (broken ≡ false) × (cause ≡ Some (refusal.Spent next))
IsWayFault broken cause outs told (fault.Refused (refusal.Full bytes)) = (broken ≡ false) × (cause ≡ Some (refusal.Full bytes))
IsWayFault broken cause outs told (fault.Refused refusal.OutOfMemory) = Unit {0}

-- a flush failed: the book is broken by it, or was broken before
abbrev pub IsRoomFault : Bool → Bool → CommitFault → Type 0
IsRoomFault old new fault.Disk = new ≡ true
IsRoomFault old new (fault.Damaged file at) = ⊥
IsRoomFault old new (fault.Refused other) = (other ≡ refusal.Broken) × (old ≡ true) × (new ≡ true)
