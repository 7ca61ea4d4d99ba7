-- Completing the outputs of a book makes no step.
use Rattle.std.proofs.Common.{◌≡◌, ◌≢◌, ◌⊎◌, ⊎_elim, ◌≤◌, ◌++◌, List, [], length, true, Some, Result, Ok, Err, refl, sym, ap, ◌∙◌, arith}
use Rattle.std.specs.Prelude.{IfErr, IsErrOf, OnOk}
use Rattle.edge_traits.specs.Disk.{DiskView, Image, Leaves}
use Rattle.step_code.specs.declared.step.Step.{Step}
use Rattle.step_code.specs.Rules.{Meaning}
use Rattle.store_image.specs.Stands.{Origin, StandsFor}
use Rattle.journal_book.specs.Book.{durable_steps, waiting_steps, BookView, IsKept}
use Rattle.journal_book.specs.declared.book_fault.BookFault.{BookFault}
use Rattle.journal_book.specs.declared.book_fault.BookFault.TheVariants as fault
use Rattle.journal_book.specs.Alone.{IsApart, LeavesAlone}
use Rattle.book_runs.specs.GoesOn.{GoesOn, IsSameBook}
use Rattle.book_runs.proofs.Going.{apart_earlier, changes, makes_none}

-- what it changes in the book, by its answer
pub record Completed {D R : Type 0} (old new : BookView D R) (r : Result (Unit {0}) BookFault) : Type 0 where
  pub ok : OnOk r (new ≡ record old { disk = new.disk; kept = length old.steps })
  pub failed : IsErrOf r fault.Disk → new ≡ record old { disk = new.disk; kept = new.kept; broken = true }
  pub durable : IsErrOf r fault.Disk → (new.kept ≡ old.kept) ⊎ (new.kept ≡ length old.steps)
  pub still : IfErr r (λ f. (f ≢ fault.Disk) → new ≡ record old { disk = new.disk; kept = length old.steps })

module _ {D R : Type 0} (old new : BookView D R) where
  all_kept : new ≡ record old { disk = new.disk; kept = length old.steps } → new.kept ≡ length new.steps
  all_kept is = ap (λ (b : BookView D R). b.kept) is ∙ ap (λ (b : BookView D R). length b.steps) (sym is)

  -- the steps are durable, unless the disk failed
  pub durable_behind : (r : Result (Unit {0}) BookFault) → Completed old new r → r ≢ Err fault.Disk → new.kept ≡ length new.steps
  durable_behind (Ok x) is other = all_kept is.ok
  durable_behind (Err fault.Disk) is other = absurd (other refl)
  durable_behind (Err (fault.Damaged file at)) is other = all_kept (is.still (λ e. absurd (cc)))
  durable_behind (Err (fault.Store have)) is other = all_kept (is.still (λ e. absurd (cc)))
  durable_behind (Err fault.Refused) is other = all_kept (is.still (λ e. absurd (cc)))
  durable_behind (Err fault.OutOfMemory) is other = all_kept (is.still (λ e. absurd (cc)))

  -- the book stays in all else
  pub same_book : (r : Result (Unit {0}) BookFault) → Completed old new r → IsSameBook old new
  same_book (Ok x) is = changes old new _ _ is.ok
  same_book (Err fault.Disk) is = changes old new _ _ (is.failed refl)
  same_book (Err (fault.Damaged file at)) is = changes old new _ _ (is.still (λ e. absurd (cc)))
  same_book (Err (fault.Store have)) is = changes old new _ _ (is.still (λ e. absurd (cc)))
  same_book (Err fault.Refused) is = changes old new _ _ (is.still (λ e. absurd (cc)))
  same_book (Err fault.OutOfMemory) is = changes old new _ _ (is.still (λ e. absurd (cc)))

module _ {D R : Type 0} {disk : D → DiskView} {m : Meaning} (old new : BookView D R)
    (kept : (origin : Origin) (past : List Step) → IsKept disk m origin past old → IsKept disk m origin past new)
    (leaves : (origin : Origin) (past : List Step) → IsKept disk m origin past old → Leaves (disk old.disk) (disk new.disk) (StandsFor m origin (past ++ durable_steps old) (waiting_steps old)))
    (others : (files : Image) → (disk old.disk).told ≡ Some files → LeavesAlone (disk old.disk) (disk new.disk) (IsApart old.generation)) where
  by_all : new ≡ record old { disk = new.disk; kept = length old.steps } → GoesOn disk m old new []
  by_all is = makes_none old new (changes old new _ _ is) (λ origin past was. omega (arith, was.within, ap (λ (b : BookView D R). b.kept) is)) kept leaves (apart_earlier old.generation others)

  by_failure : new ≡ record old { disk = new.disk; kept = new.kept; broken = true } → (new.kept ≡ old.kept) ⊎ (new.kept ≡ length old.steps) → GoesOn disk m old new []
  by_failure is which =
      makes_none old new (changes old new _ _ is) (λ origin past was. ⊎_elim (λ (same : new.kept ≡ old.kept). omega (arith, same)) (λ (all : new.kept ≡ length old.steps). omega (arith, all, was.within)) which) kept leaves (apart_earlier old.generation others)

  pub goes_on : (r : Result (Unit {0}) BookFault) → Completed old new r → GoesOn disk m old new []
  goes_on (Ok x) is = by_all is.ok
  goes_on (Err fault.Disk) is = by_failure (is.failed refl) (is.durable refl)
  goes_on (Err (fault.Damaged file at)) is = by_all (is.still (λ e. absurd (cc)))
  goes_on (Err (fault.Store have)) is = by_all (is.still (λ e. absurd (cc)))
  goes_on (Err fault.Refused) is = by_all (is.still (λ e. absurd (cc)))
  goes_on (Err fault.OutOfMemory) is = by_all (is.still (λ e. absurd (cc)))
