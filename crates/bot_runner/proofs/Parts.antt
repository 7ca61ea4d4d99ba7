-- What a seat knows of its round, one hold after the other.
use Rattle.std.proofs.Common.{◌≡◌, ◌⊎◌, inl, ⊎_elim, ◌≤◌, ◌+◌, ℕ, suc, List, [], ◌∷◌, ◌++◌, length, drop, Option, Some, None, IfSome, refl, sym, ap, subst, ◌∙◌, arith, append_assoc, length-append}
use Rattle.std.proofs.lemmas.List.{append-nil}
use Rattle.std.specs.List.{AllByRecursion}
use mathlib.Core.List.{IsPrefix}
use Rattle.step_code.specs.declared.base.Base.{Base}
use Rattle.step_code.specs.declared.step.Step.{Step}
use Rattle.step_code.specs.After.{after}
use Rattle.step_code.specs.History.{replay}
use Rattle.step_code.specs.Rules.{Meaning}
use Rattle.step_code.proofs.GivenBack.{steps_after}
use Rattle.store_image.proofs.Standing.{replay-append}
use Rattle.journal_book.specs.Book.{BookView}
use Rattle.book_lock.specs.Lock.{AllAt, numbered}
use Rattle.book_lock.specs.Seats.{Known, grown}
use Rattle.book_lock.proofs.Prefixes.{all_at_join, all_at_longer, all_new, drop_front}
use Rattle.locked_book.specs.Entries.{entries_of, made_entries, mark_entries}
use Rattle.locked_book.specs.Locked.{LockedView}
use Rattle.locked_book.specs.declared.entry.EndMark.{EndMark}
use Rattle.locked_book.specs.declared.entry.Entry.{Entry}
use Rattle.worker_turns.specs.Holds.{numbers_of, Adds, AreOwnFrom}
use Rattle.bot_runner.specs.Parts.{numbers_in, AreFew, HasSeen, IsNew, IsPart}
use Rattle.bot_runner.specs.Round.{AreRising, IsMadeAs}
use Rattle.bot_runner.proofs.Entries.{goes, numbers_join, numbers_made, same_opening, steps_behind}
use Rattle.bot_runner.proofs.Lists.{all_join, all_map, numbers_over, numbers_rise, numbers_upto, rising_on}

-- ---- steps that are a worker's own

module _ (m : Meaning) (Is : Base → Step → Type 0) (s : Base) where
  -- when more steps were made
  pub made_later : (made more : List Step) (n : ℕ) → IsMadeAs m Is s made n → IsMadeAs m Is s (made ++ more) n
  made_later made more n is = record {
    front = is.front;
    step = is.step;
    rest = is.rest ++ more;
    splits = ap (λ (l : List Step). l ++ more) is.splits ∙ append_assoc is.front (is.step ∷ is.rest) more;
    number = is.number;
    is = is.is;
  }

  -- the number is one of those that were given
  pub made_upto : (made : List Step) (n : ℕ) → IsMadeAs m Is s made n → n ≤ s.steps + length made
  made_upto made n is =
      let long : length made ≡ length is.front + length (is.step ∷ is.rest) = ap length is.splits ∙ length-append is.front (is.step ∷ is.rest) in
      omega (arith, long, is.number)

  pub new_made : (front added : List Step) → AreOwnFrom m Is (replay m s front) added → AllByRecursion (IsMadeAs m Is s (front ++ added)) (numbers_of (replay m s front).steps added)
  new_made front [] own = tt
  new_made front (step ∷ added) own =
      let state : replay m s (front ++ step ∷ []) ≡ after m (replay m s front) step = replay-append m s front (step ∷ []) in
      let one : (after m (replay m s front) step).steps ≡ suc (replay m s front).steps = steps_after m (replay m s front) step.moment step.what ∙ omega arith in
      let more = new_made (front ++ step ∷ []) added (subst (λ (t : Base). AreOwnFrom m Is t added) (sym state) own.1) in (
        record { front = front; step = step; rest = added; splits = refl; number = ap suc (steps_behind m s front); is = own.0 },
        subst (λ (l : List Step). AllByRecursion (IsMadeAs m Is s l) (numbers_of (suc (replay m s front).steps) added)) (append_assoc front (step ∷ []) added)
            (subst (λ (n : ℕ). AllByRecursion (IsMadeAs m Is s ((front ++ step ∷ []) ++ added)) (numbers_of n added)) (ap (λ (t : Base). t.steps) state ∙ one) more),
      )

-- ---- what a hold makes of what a seat knows

-- a hold found one value and left another: it added these steps, which are the worker's own and whose numbers it noted
pub record Grows {D R : Type 0} (m : Meaning) (Is : Base → Step → Type 0) (left : Option ℕ) (old new : LockedView D R) (noted notes : List ℕ) : Type 0 where
  pub added : List Step
  pub marks : Option EndMark
  pub made : new.made ≡ old.made ++ added
  pub own : AreOwnFrom m Is old.book.state added
  pub counted : notes ≡ noted ++ numbers_of old.book.state.steps added
  pub entries : entries_of m new ≡ entries_of m old ++ (made_entries m old.book.state added ++ mark_entries marks)
  pub few : IfSome left (λ most. (new.made ≡ old.made) ⊎ (length new.made ≤ most))
  pub opening : new.opening ≡ old.opening
  pub state : new.book.state ≡ replay m old.book.state added

pub few_same : (left : Option ℕ) (made : List Step) → IfSome left (λ most. (made ≡ made) ⊎ (length made ≤ most))
few_same None made = tt
few_same (Some most) made = inl refl

module _ {D R : Type 0} {m : Meaning} {Is : Base → Step → Type 0} {left : Option ℕ} where
  grows_adds : (old new : LockedView D R) (noted notes : List ℕ) → Adds m Is old new noted notes → IfSome left (λ most. (new.made ≡ old.made) ⊎ (length new.made ≤ most)) → Grows m Is left old new noted notes
  grows_adds old new noted notes adds few = record { added = adds.added; marks = new.mark; made = adds.made; own = adds.own; counted = adds.counted; entries = adds.entries; few = few; opening = adds.opening; state = adds.state }

  pub grows_still : (old new : LockedView D R) (noted notes : List ℕ) → new ≡ old → notes ≡ noted → IfSome left (λ most. (new.made ≡ old.made) ⊎ (length new.made ≤ most)) → Grows m Is left old new noted notes
  grows_still old new noted notes same unnoted few = record {
    added = [];
    marks = None;
    made = ap (λ (v : LockedView D R). v.made) same ∙ sym (append-nil old.made);
    own = tt;
    counted = unnoted ∙ sym (append-nil noted);
    entries = ap (entries_of m) same ∙ sym (append-nil (entries_of m old));
    few = few;
    opening = ap (λ (v : LockedView D R). v.opening) same;
    state = ap (λ (v : LockedView D R). v.book.state) same;
  }

  -- by whether the value found has a mark
  pub grows : (old new : LockedView D R) (noted notes : List ℕ) → ((old.mark ≡ None → ⊥) → (new ≡ old) × (notes ≡ noted)) → (old.mark ≡ None → Adds m Is old new noted notes)
      → IfSome left (λ most. (new.made ≡ old.made) ⊎ (length new.made ≤ most)) → Grows m Is left old new noted notes
  grows old new noted notes still adds few = by old.mark refl
    where
      by : (mark : Option EndMark) → old.mark ≡ mark → Grows m Is left old new noted notes
      by None none = grows_adds old new noted notes (adds none) few
      by (Some mark) some = let s = still (λ none. absurd (cc)) in grows_still old new noted notes s.0 s.1 few

few_on : (most before : ℕ) (made added : List Step) (noted notes : List ℕ) (n : ℕ) → AllByRecursion (λ i. i ≤ before + most) noted → notes ≡ noted ++ numbers_of n added → n ≡ before + length made
    → (made ++ added ≡ made) ⊎ (length (made ++ added) ≤ most) → AllByRecursion (λ i. i ≤ before + most) notes
few_on most before made [] noted notes n was is at few = subst (AllByRecursion (λ i. i ≤ before + most)) (sym (is ∙ append-nil noted)) was
few_on most before made (step ∷ added) noted notes n was is at few =
    let long = length-append made (step ∷ added) in
    let most_made : length made + length (step ∷ added) ≤ most = ⊎_elim (λ same. let l = ap length same in absurd (omega (arith, l, long))) (λ within. omega (arith, within, long)) few in
    subst (AllByRecursion (λ i. i ≤ before + most)) (sym is)
    (all_join (λ i. i ≤ before + most) noted (numbers_of n (step ∷ added)) was (numbers_upto n (step ∷ added) (before + most) (omega (arith, at, most_made))))

module _ {D R : Type 0} (m : Meaning) (Is : Base → Step → Type 0) (left : Option ℕ) (o : BookView D R) where
  -- a seat finds a value whose list begins with that of the one that it left
  pub finds : (k : Known (Entry (BookView D R))) (v old : LockedView D R) (found : List (Entry (BookView D R))) → HasSeen m o k v → found ≡ entries_of m old → IsPrefix k.seen found → IsPrefix (entries_of m v) (entries_of m old)
  finds k v old found seen is front = subst (λ l. IsPrefix l (entries_of m old)) seen.list (subst (IsPrefix k.seen) is front)

  -- a hold
  pub holds_on : (k : Known (Entry (BookView D R))) (noted notes : List ℕ) (v old new : LockedView D R) (found : List (Entry (BookView D R)))
      → IsPart m Is left o k noted v → found ≡ entries_of m old → IsPrefix k.seen found → AllAt found k.mine → old.book.state ≡ replay m old.opening.state old.made → Grows m Is left old new noted notes
      → IsPart m Is left o (grown k found (entries_of m new)) notes new
  holds_on k noted notes v old new found part is front at state grows =
      let p = finds k v old found part.seen is front in
      let first : old.opening ≡ o = same_opening m v old p ∙ part.seen.opening in
      let on = goes m v old p in
      let before : old.book.state ≡ replay m o.state old.made = state ∙ ap (λ (b : BookView D R). replay m b.state old.made) first in
      let number : old.book.state.steps ≡ o.state.steps + length old.made = ap (λ (s : Base). s.steps) before ∙ steps_behind m o.state old.made in
      let items = made_entries m old.book.state grows.added ++ mark_entries grows.marks in
      let list : entries_of m new ≡ found ++ items = grows.entries ∙ ap (λ l. l ++ items) (sym is) in
      let longer : IsPrefix found (entries_of m new) = (items, sym list) in
      let fresh = numbered (length found) (drop (length found) (entries_of m new)) in
      let was : AllByRecursion (IsMadeAs m Is o.state old.made) noted =
      subst (λ (l : List Step). AllByRecursion (IsMadeAs m Is o.state l) noted) (sym on.on) (all_map (IsMadeAs m Is o.state v.made) (IsMadeAs m Is o.state (v.made ++ on.rest)) (made_later m Is o.state v.made on.rest) noted part.own) in
      let new_ones : AllByRecursion (IsMadeAs m Is o.state (old.made ++ grows.added)) (numbers_of old.book.state.steps grows.added) =
      subst (λ (s : Base). AllByRecursion (IsMadeAs m Is o.state (old.made ++ grows.added)) (numbers_of s.steps grows.added)) (sym before) (new_made m Is o.state old.made grows.added (subst (λ (s : Base). AreOwnFrom m Is s grows.added) before grows.own)) in
      let upto : AllByRecursion (λ n. n ≤ old.book.state.steps) noted = all_map (IsMadeAs m Is o.state old.made) (λ n. n ≤ old.book.state.steps) (λ n made_as. let most = made_upto m Is o.state old.made n made_as in omega (arith, most, number)) noted was in
      record {
        seen = record {
          list = refl;
          opening = grows.opening ∙ first;
          within = all_at_join (entries_of m new) k.mine fresh (all_at_longer found (entries_of m new) k.mine longer at) (all_new found (entries_of m new) longer);
        };
        own = subst (AllByRecursion (IsMadeAs m Is o.state new.made)) (sym grows.counted)
            (subst (λ (l : List Step). AllByRecursion (IsMadeAs m Is o.state l) (noted ++ numbers_of old.book.state.steps grows.added)) (sym grows.made)
            (all_join (IsMadeAs m Is o.state (old.made ++ grows.added)) noted (numbers_of old.book.state.steps grows.added)
            (all_map (IsMadeAs m Is o.state old.made) (IsMadeAs m Is o.state (old.made ++ grows.added)) (made_later m Is o.state old.made grows.added) noted was) new_ones));
        numbers = numbers_join k.mine fresh
            ∙ ap (λ ns. ns ++ numbers_in fresh) part.numbers
            ∙ ap (λ ns. noted ++ ns) (ap (λ l. numbers_in (numbered (length found) l)) (ap (drop (length found)) list ∙ drop_front found items) ∙ numbers_made (BookView D R) m (length found) old.book.state grows.added grows.marks)
            ∙ sym grows.counted;
        rising = subst AreRising (sym grows.counted)
            (rising_on old.book.state.steps noted (numbers_of old.book.state.steps grows.added) part.rising upto (numbers_rise old.book.state.steps grows.added) (numbers_over old.book.state.steps old.book.state.steps grows.added (omega arith)));
        few = few_of left number part.few grows.few;
      }
    where
      few_of : (l : Option ℕ) → old.book.state.steps ≡ o.state.steps + length old.made → AreFew l o.state.steps noted → IfSome l (λ most. (new.made ≡ old.made) ⊎ (length new.made ≤ most)) → AreFew l o.state.steps notes
      few_of None number was few = tt
      few_of (Some most) number was few = few_on most o.state.steps old.made grows.added noted notes old.book.state.steps was grows.counted number (subst (λ (l : List Step). (l ≡ old.made) ⊎ (length l ≤ most)) grows.made few)

  -- a look, in which nothing is done
  pub looks_on : (k : Known (Entry (BookView D R))) (noted : List ℕ) (v old : LockedView D R) (found : List (Entry (BookView D R)))
      → IsPart m Is left o k noted v → found ≡ entries_of m old → IsPrefix k.seen found → AllAt found k.mine → old.book.state ≡ replay m old.opening.state old.made
      → IsPart m Is left o (grown k found (entries_of m old)) noted old
  looks_on k noted v old found part is front at state = holds_on k noted noted v old old found part is front at state (grows_still old old noted noted refl refl (few_same left old.made))

-- a part begins
pub begins : {D R : Type 0} (m : Meaning) (Is : Base → Step → Type 0) (left : Option ℕ) (begun : LockedView D R) (k : Known (Entry (BookView D R))) → IsNew m begun k → IsPart m Is left begun.opening k [] begun
begins m Is left begun k new = record {
  seen = record { list = new.seen; opening = refl; within = subst (AllAt k.seen) (sym new.mine) tt };
  own = tt;
  numbers = ap numbers_in new.mine;
  rising = tt;
  few = none left;
}
  where
    none : (l : Option ℕ) → AreFew l begun.opening.state.steps []
    none None = tt
    none (Some most) = tt
