-- Who waits for the workers, one hold after the other.
use Rattle.std.proofs.Common.{◌≡◌, ◌≤◌, ℕ, List, [], None, Some, Result, Ok, Err, IfOk, IfErr, refl, sym, ap, subst, ◌∙◌, arith}
use Rattle.std.specs.Prelude.{◌≢◌, MatchResult}
use Rattle.std.proofs.lemmas.List.{append-nil}
use mathlib.Core.List.{IsPrefix}
use Rattle.edge_traits.specs.Source.{SourceView}
use Rattle.collector_feeds.specs.Open.{GoesOn}
use Rattle.step_code.specs.declared.base.Base.{Base}
use Rattle.step_code.specs.declared.step.Step.{Step}
use Rattle.step_code.specs.History.{replay}
use Rattle.step_code.specs.Rules.{Meaning}
use Rattle.journal_book.specs.Book.{BookView}
use Rattle.book_lock.specs.Lock.{AllAt}
use Rattle.book_lock.specs.Seats.{Known, grown}
use Rattle.locked_book.specs.Entries.{entries_of}
use Rattle.locked_book.specs.Locked.{LockedView}
use Rattle.locked_book.specs.declared.entry.EndMark.{EndMark}
use Rattle.locked_book.specs.declared.entry.Entry.{Entry}
use Rattle.worker_turns.specs.Holds.{IsEnd, Marks}
use Rattle.worker_turns.specs.declared.turned.HoldEnd.{HoldEnd}
use Rattle.worker_turns.specs.declared.turned.HoldEnd.TheVariants as end
use Rattle.worker_turns.proofs.Holding.{adds_mark}
use Rattle.bot_runner.specs.Parts.{why_of, HasEnded, HasWaited, IsNew, IsOver, IsWaiting}
use Rattle.bot_runner.specs.Round.{IsWhy, WaiterEnds}
use Rattle.bot_runner.specs.declared.worker.Why.{Why}
use Rattle.bot_runner.specs.declared.worker.Why.TheVariants as why
use Rattle.bot_runner.proofs.Entries.{same_opening}
use Rattle.bot_runner.proofs.Instances.{over, state_on, why_is}
use Rattle.bot_runner.proofs.Parts.{begins, finds, grows, holds_on, Grows}

-- a source that is read on and on
pub still_there : (s : SourceView) → GoesOn s s
still_there s = record { name = refl; told = refl; count = omega arith }

pub went_on : {a b c : SourceView} → GoesOn a b → GoesOn b c → GoesOn a c
went_on ab bc = record { name = bc.name ∙ ab.name; told = bc.told ∙ ab.told; count = omega (arith, ab.count, bc.count) }

abbrev pub Nothing : Base → Step → Type 0
Nothing s step = ⊥

module _ {D R : Type 0} (m : Meaning) where
  pub waits_grow : (old new : LockedView D R) → (old.mark ≢ None → new ≡ old) → (old.mark ≡ None → Marks m old new [] []) → Grows m Nothing None old new [] []
  waits_grow old new still marks = grows old new [] [] (λ some. (still some, refl)) (λ none. adds_mark old new [] [] (marks none)) tt

  pub begins_waiting : (begun : LockedView D R) (k : Known (Entry (BookView D R))) → IsNew m begun k → IsWaiting m begun.opening k
  begins_waiting begun k new = record { v = begun; part = begins m Nothing None begun k new }

  module _ (o : BookView D R) where
    pub waited_on : (k : Known (Entry (BookView D R))) (old new : LockedView D R) (found : List (Entry (BookView D R))) (to : Result ℕ HoldEnd) → IsWaiting m o k → found ≡ entries_of m old → IsPrefix k.seen found → AllAt found k.mine
        → old.book.state ≡ replay m old.opening.state old.made → (old.mark ≢ None → new ≡ old) → (old.mark ≡ None → Marks m old new [] []) → IfOk to (λ at. at ≡ new.book.state.steps) → IfErr to (IsEnd None old new)
        → HasWaited m o (grown k found (entries_of m new)) to
    waited_on k old new found to at is front mine state still marks ok err =
        let g = waits_grow old new still marks in
        let p = finds m Nothing None o k at.v old found at.part.seen is front in
        let now : new.book.state ≡ replay m o.state new.made = state_on old new [] [] state g ∙ ap (λ (b : BookView D R). replay m b.state new.made) (g.opening ∙ same_opening m at.v old p ∙ at.part.seen.opening) in
        record {
          at = record { v = new; part = holds_on m Nothing None o k [] [] at.v old new found at.part is front mine state g };
          came = came to now ok err;
        }
      where
        came : (r : Result ℕ HoldEnd) → new.book.state ≡ replay m o.state new.made → IfOk r (λ at. at ≡ new.book.state.steps) → IfErr r (IsEnd None old new) → MatchResult r (λ steps. steps ≡ (replay m o.state new.made).steps) (IsOver None new)
        came (Ok n) now ok err = ok ∙ ap (λ (s : Base). s.steps) now
        came (Err cause) now ok err = over None old new cause still err

    -- the same, where the round was ended
    pub stopped_on : (k : Known (Entry (BookView D R))) (old new : LockedView D R) (found : List (Entry (BookView D R))) (mark : EndMark) → IsWaiting m o k → found ≡ entries_of m old → IsPrefix k.seen found → AllAt found k.mine
        → old.book.state ≡ replay m old.opening.state old.made → (old.mark ≢ None → new ≡ old) → (old.mark ≡ None → Marks m old new [] []) → new.mark ≡ Some mark → HasWaited m o (grown k found (entries_of m new)) (Err (end.Found mark))
    stopped_on k old new found mark at is front mine state still marks marked = record {
      at = record { v = new; part = holds_on m Nothing None o k [] [] at.v old new found at.part is front mine state (waits_grow old new still marks) };
      came = marked;
    }

    pub quiet : (k : Known (Entry (BookView D R))) (n : ℕ) → HasWaited m o k (Ok n) → HasEnded m Nothing None WaiterEnds o k [] (why.Quiet n)
    quiet k n w = record { v = w.at.v; part = w.at.part; why = record { front = w.at.v.made; rest = []; splits = sym (append-nil w.at.v.made); is = w.came } }

    pub ended_by : (k : Known (Entry (BookView D R))) (cause : HoldEnd) (reason : Why) → reason ≡ why_of cause → HasWaited m o k (Err cause) → HasEnded m Nothing None WaiterEnds o k [] reason
    ended_by k cause reason same w = record { v = w.at.v; part = w.at.part; why = subst (IsWhy m None WaiterEnds o.state w.at.v.made w.at.v.mark) (sym same) (why_is m None WaiterEnds o.state w.at.v cause w.came) }
