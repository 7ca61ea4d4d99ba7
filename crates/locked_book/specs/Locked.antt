-- The book under the lock, as contracts see it.
use Rattle.std.specs.Prelude.{◌≡◌, ◌↔◌, ◌≤◌, ◌^◌, ℕ, true, false, List, length, drop, Option, Some, None}
use Rattle.edge_traits.specs.Count.{Rose}
use Rattle.edge_traits.specs.Disk.{DiskView}
use Rattle.step_code.specs.declared.step.Step.{Step}
use Rattle.step_code.specs.Rules.{Meaning}
use Rattle.journal_book.specs.Book.{BookView}
use Rattle.journal_book.specs.Staged.{IsStageRefusal}
use Rattle.journal_book.specs.declared.stage_refusal.StageRefusal.{StageRefusal}
use Rattle.book_runs.specs.GoesOn.{longer, GoesOn}
use Rattle.locked_book.specs.declared.entry.EndMark.{EndMark}
use Rattle.locked_book.specs.declared.entry.EndMark.TheVariants as mark
use Rattle.locked_book.specs.declared.hold_fault.HoldFault.{HoldFault}
use Rattle.locked_book.specs.declared.hold_fault.HoldFault.TheVariants as fault

-- the book as the round began, the steps that were made since then, the book now, and why no further step is made
pub record LockedView (D R : Type 0) : Type 0 where
  pub opening : BookView D R
  pub made : List Step
  pub book : BookView D R
  pub mark : Option EndMark

-- the steps behind those that the round began with
abbrev pub made_since : {D R : Type 0} → BookView D R → BookView D R → List Step
made_since opening book = drop (length opening.steps) book.steps

-- no more steps are made in a round
abbrev pub most_made : ℕ
most_made = 2 ^ 62

-- from a whole book these steps were made, all within its generation; the book is broken exactly where the mark says so, and then the
-- disk's count of faults rose
pub record IsRound {D R : Type 0} (disk : D → DiskView) (m : Meaning) (opening : BookView D R) (made : List Step) (book : BookView D R) (end : Option EndMark) : Type 0 where
  pub whole : opening.broken ≡ false
  pub goes_on : GoesOn disk m opening book made
  pub within : book ≡ longer m opening made book
  pub few : length made ≤ most_made
  pub broken : (book.broken ≡ true) ↔ (end ≡ Some mark.Broken)
  pub failed : book.broken ≡ true → Rose (disk opening.disk).faults (disk book.disk).faults
  pub count : (disk opening.disk).faults ≤ (disk book.disk).faults
  pub untold : (disk opening.disk).told ≡ None → (disk book.disk).told ≡ None

-- the mark of a round in which a hold failed so
abbrev pub mark_of : HoldFault → Option EndMark
mark_of fault.Half = Some mark.Half
mark_of fault.Disk = Some mark.Broken
mark_of (fault.Refused refusal) = None

-- the next generation is due, or the disk failed; or this refuses the step
abbrev pub IsHoldFault : Option StageRefusal → HoldFault → Type 0
IsHoldFault cause fault.Half = Unit {0}
IsHoldFault cause fault.Disk = Unit {0}
IsHoldFault cause (fault.Refused refusal) = IsStageRefusal cause refusal
