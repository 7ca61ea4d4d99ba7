-- The list under the lock.
use Rattle.std.specs.Prelude.{List, [], ◌∷◌, ◌++◌, Option, Some, None}
use Rattle.step_code.specs.declared.base.Base.{Base}
use Rattle.step_code.specs.declared.step.Step.{Step}
use Rattle.step_code.specs.After.{after}
use Rattle.step_code.specs.Rules.{Meaning}
use Rattle.journal_book.specs.Book.{BookView}
use Rattle.locked_book.specs.Locked.{LockedView}
use Rattle.locked_book.specs.declared.entry.EndMark.{EndMark}
use Rattle.locked_book.specs.declared.entry.Entry.{Entry}
use Rattle.locked_book.specs.declared.entry.Entry.TheVariants as entry

module _ {B : Type 0} where
  -- these steps from a state on, each with the state in which it was made
  abbrev pub made_entries : Meaning → Base → List Step → List (Entry B)
  made_entries m s [] = []
  made_entries m s (step ∷ steps) = entry.Made s step ∷ made_entries m (after m s step) steps

  abbrev pub mark_entries : Option EndMark → List (Entry B)
  mark_entries None = []
  mark_entries (Some mark) = entry.Marked mark ∷ []

-- the book as the round began, the steps that were made since then, and the mark
abbrev pub entries_of : {D R : Type 0} → Meaning → LockedView D R → List (Entry (BookView D R))
entries_of m v = entry.Opened v.opening ∷ (made_entries m v.opening.state v.made ++ mark_entries v.mark)
