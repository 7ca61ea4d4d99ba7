-- The list under the lock, in its parts.
use Rattle.std.proofs.Common.{◌≡◌, ◌+◌, ℕ, suc, List, [], ◌∷◌, ◌++◌, length, Option, Some, None, refl, sym, ap, ◌∙◌, arith}
use mathlib.Core.List.{IsPrefix}
use Rattle.step_code.specs.declared.base.Base.{Base}
use Rattle.step_code.specs.declared.step.Step.{Step}
use Rattle.step_code.specs.After.{after}
use Rattle.step_code.specs.History.{replay}
use Rattle.step_code.specs.Rules.{Meaning}
use Rattle.step_code.proofs.GivenBack.{steps_after}
use Rattle.journal_book.specs.Book.{BookView}
use Rattle.book_lock.specs.Lock.{numbered}
use Rattle.locked_book.specs.Entries.{entries_of, made_entries, mark_entries}
use Rattle.locked_book.specs.Locked.{LockedView}
use Rattle.locked_book.specs.declared.entry.EndMark.{EndMark}
use Rattle.locked_book.specs.declared.entry.Entry.{Entry}
use Rattle.locked_book.specs.declared.entry.Entry.TheVariants as entry
use Rattle.worker_turns.specs.Holds.{numbers_of}
use Rattle.bot_runner.specs.Parts.{numbers_in}

-- each step raises the number of steps by one
pub steps_behind : (m : Meaning) (s : Base) (made : List Step) → (replay m s made).steps ≡ s.steps + length made
steps_behind m s [] = omega arith
steps_behind m s (step ∷ made) = let more = steps_behind m (after m s step) made in let one = steps_after m s step.moment step.what in omega (arith, more, one)

-- what a list that begins another one has in common with it
pub record Goes (made made' : List Step) (marked marked' : Option EndMark) : Type 0 where
  pub rest : List Step
  pub on : made' ≡ made ++ rest
  pub mark : (x : EndMark) → marked ≡ Some x → marked' ≡ Some x

module _ (B : Type 0) (m : Meaning) where
  abbrev items : Base → List Step → Option EndMark → List (Entry B)
  items s made marked = made_entries {B = B} m s made ++ mark_entries {B = B} marked

  goes_on : (s : Base) (made made' : List Step) (marked marked' : Option EndMark) (zs : List (Entry B)) → items s made marked ++ zs ≡ items s made' marked' → Goes made made' marked marked'
  goes_on s [] made' None marked' zs e = record { rest = made'; on = refl; mark = λ x none. absurd (cc) }
  goes_on s [] [] (Some x) None zs e = let f : entry.Marked x ∷ zs ≡ [] = e in absurd (cc)
  goes_on s [] [] (Some x) (Some y) zs e =
      let f : entry.Marked x ∷ zs ≡ entry.Marked y ∷ [] = e in
      let same : x ≡ y = cc in
      record { rest = []; on = refl; mark = λ z is. ap Some (sym same) ∙ is }
  goes_on s [] (step ∷ made') (Some x) marked' zs e = let f : entry.Marked x ∷ zs ≡ entry.Made s step ∷ items (after m s step) made' marked' = e in absurd (cc)
  goes_on s (step ∷ made) [] marked None zs e = let f : entry.Made s step ∷ (items (after m s step) made marked ++ zs) ≡ [] = e in absurd (cc)
  goes_on s (step ∷ made) [] marked (Some y) zs e = let f : entry.Made s step ∷ (items (after m s step) made marked ++ zs) ≡ entry.Marked y ∷ [] = e in absurd (cc)
  goes_on s (step ∷ made) (step' ∷ made') marked marked' zs e =
      let f : entry.Made s step ∷ (items (after m s step) made marked ++ zs) ≡ entry.Made s step' ∷ items (after m s step') made' marked' = e in
      let same : step ≡ step' = cc in
      let tails : items (after m s step) made marked ++ zs ≡ items (after m s step') made' marked' = cc in
      let g = goes_on (after m s step) made made' marked marked' zs (tails ∙ ap (λ (x : Step). items (after m s x) made' marked') (sym same)) in
      record { rest = g.rest; on = λ i. sym same i ∷ g.on i; mark = g.mark }

  same_items : (s : Base) (made made' : List Step) (marked marked' : Option EndMark) → items s made marked ≡ items s made' marked' → (made ≡ made') × (marked ≡ marked')
  same_items s [] [] None None e = (refl, refl)
  same_items s [] [] None (Some y) e = let f : [] ≡ entry.Marked y ∷ [] = e in absurd (cc)
  same_items s [] [] (Some x) None e = let f : entry.Marked x ∷ [] ≡ [] = e in absurd (cc)
  same_items s [] [] (Some x) (Some y) e = let f : entry.Marked x ∷ [] ≡ entry.Marked y ∷ [] = e in let same : x ≡ y = cc in (refl, ap Some same)
  same_items s [] (step ∷ made') None marked' e = let f : [] ≡ entry.Made s step ∷ items (after m s step) made' marked' = e in absurd (cc)
  same_items s [] (step ∷ made') (Some x) marked' e = let f : entry.Marked x ∷ [] ≡ entry.Made s step ∷ items (after m s step) made' marked' = e in absurd (cc)
  same_items s (step ∷ made) [] marked None e = let f : entry.Made s step ∷ items (after m s step) made marked ≡ [] = e in absurd (cc)
  same_items s (step ∷ made) [] marked (Some y) e = let f : entry.Made s step ∷ items (after m s step) made marked ≡ entry.Marked y ∷ [] = e in absurd (cc)
  same_items s (step ∷ made) (step' ∷ made') marked marked' e =
      let f : entry.Made s step ∷ items (after m s step) made marked ≡ entry.Made s step' ∷ items (after m s step') made' marked' = e in
      let same : step ≡ step' = cc in
      let tails : items (after m s step) made marked ≡ items (after m s step') made' marked' = cc in
      let r = same_items (after m s step) made made' marked marked' (tails ∙ ap (λ (x : Step). items (after m s x) made' marked') (sym same)) in
      ((λ i. same i ∷ r.0 i), r.1)

opened_of : {B : Type 0} → B → List (Entry B) → B
opened_of other [] = other
opened_of other (entry.Opened book ∷ rest) = book
opened_of other (entry.Made before step ∷ rest) = other
opened_of other (entry.Marked mark ∷ rest) = other

tail_of : {A : Type 0} → List A → List A
tail_of [] = []
tail_of (x ∷ xs) = xs

module _ {D R : Type 0} (m : Meaning) where
  -- a value whose list begins that of a later one
  pub same_opening : (v later : LockedView D R) → IsPrefix (entries_of m v) (entries_of m later) → later.opening ≡ v.opening
  unfolding opened_of
  same_opening v later p = sym (ap (opened_of v.opening) p.1)

  pub goes : (v later : LockedView D R) → IsPrefix (entries_of m v) (entries_of m later) → Goes v.made later.made v.mark later.mark
  unfolding tail_of
  goes v later p =
      goes_on (BookView D R) m v.opening.state v.made later.made v.mark later.mark p.0
      (ap tail_of p.1 ∙ ap (λ (b : BookView D R). made_entries {B = BookView D R} m b.state later.made ++ mark_entries later.mark) (same_opening v later p))

  -- two values with the same list
  pub same_list : (v w : LockedView D R) → entries_of m v ≡ entries_of m w → (v.opening ≡ w.opening) × (v.made ≡ w.made) × (v.mark ≡ w.mark)
  unfolding opened_of tail_of
  same_list v w e =
      let first : v.opening ≡ w.opening = ap (opened_of v.opening) e in
      let rest = same_items (BookView D R) m v.opening.state v.made w.made v.mark w.mark (ap tail_of e ∙ ap (λ (b : BookView D R). made_entries {B = BookView D R} m b.state w.made ++ mark_entries w.mark) (sym first)) in
      (first, rest.0, rest.1)

-- ---- the numbers among entries

module _ {B : Type 0} where
  pub numbers_join : (ps qs : List (ℕ × Entry B)) → numbers_in (ps ++ qs) ≡ numbers_in ps ++ numbers_in qs
  numbers_join [] qs = refl
  numbers_join ((at, entry.Opened book) ∷ ps) qs = numbers_join ps qs
  numbers_join ((at, entry.Made before step) ∷ ps) qs = ap (λ (ns : List ℕ). suc before.steps ∷ ns) (numbers_join ps qs)
  numbers_join ((at, entry.Marked mark) ∷ ps) qs = numbers_join ps qs

pub numbers_made : (B : Type 0) (m : Meaning) (at : ℕ) (s : Base) (added : List Step) (marked : Option EndMark) → numbers_in (numbered at (made_entries {B = B} m s added ++ mark_entries {B = B} marked)) ≡ numbers_of s.steps added
numbers_made B m at s [] None = refl
numbers_made B m at s [] (Some x) = refl
numbers_made B m at s (step ∷ added) marked =
    let one : (after m s step).steps ≡ suc s.steps = steps_after m s step.moment step.what ∙ omega arith in
    ap (λ (ns : List ℕ). suc s.steps ∷ ns) (numbers_made B m (suc at) (after m s step) added marked ∙ ap (λ n. numbers_of n added) one)
