-- Each number of a round stands in one end, once.
use Rattle.std.proofs.Common.{◌≡◌, ◌⊎◌, ⊎_elim, inl, inr, ◌≤◌, ◌<◌, ◌+◌, ◌-◌, ◌==◌, ◌&&◌, nat_lt, nat_le, ℕ, zero, suc, Bool, true, false, if◌then◌else◌, List, [], ◌∷◌, ◌++◌, length, Option, Some, None, refl, sym, ap, subst, ◌∙◌, arith, length-append}
use Rattle.std.specs.Prelude.{slice_get}
use Rattle.std.proofs.lemmas.Bool.Decides.{nat_tests}
use Rattle.step_code.specs.declared.base.Base.{Base}
use Rattle.step_code.specs.declared.step.Step.{Step}
use Rattle.step_code.specs.After.{after}
use Rattle.step_code.specs.Rules.{Meaning}
use Rattle.step_code.proofs.GivenBack.{steps_after}
use Rattle.journal_book.specs.Book.{BookView}
use Rattle.book_lock.specs.Lock.{below, AllAt, AreAllFrom}
use Rattle.book_lock.specs.Lock.{times as positions}
use Rattle.locked_book.specs.Entries.{entries_of, made_entries, mark_entries}
use Rattle.locked_book.specs.Locked.{LockedView}
use Rattle.locked_book.specs.declared.entry.EndMark.{EndMark}
use Rattle.locked_book.specs.declared.entry.Entry.{Entry}
use Rattle.locked_book.specs.declared.entry.Entry.TheVariants as entry
use Rattle.bot_runner.specs.Parts.{numbers_in}
use Rattle.bot_runner.specs.Round.{times}

-- an entry among those of steps from a state on is one of them, in the state with so many steps, or the mark
pub record IsStepAt {B : Type 0} (s : Base) (k : ℕ) (x : Entry B) : Type 0 where
  pub before : Base
  pub step : Step
  pub is : x ≡ entry.Made before step
  pub number : before.steps ≡ s.steps + k

entry_is : (B : Type 0) (m : Meaning) (s : Base) (made : List Step) (marked : Option EndMark) (k : ℕ) (x : Entry B) → slice_get (made_entries {B = B} m s made ++ mark_entries {B = B} marked) k ≡ Some x
    → ((k < length made) × IsStepAt s k x) ⊎ ((length made ≤ k) × ((mark : EndMark) × (x ≡ entry.Marked mark)))
entry_is B m s [] None k x e = absurd (cc)
entry_is B m s [] (Some mark) zero x e = let same : x ≡ entry.Marked mark = cc in inr (omega arith, (mark, same))
entry_is B m s [] (Some mark) (suc k) x e = absurd (cc)
entry_is B m s (step ∷ made) marked zero x e = let same : x ≡ entry.Made s step = cc in inl (omega arith, record { before = s; step = step; is = same; number = omega arith })
entry_is B m s (step ∷ made) marked (suc k) x e =
    let one = steps_after m s step.moment step.what in
    ⊎_elim (λ (t : (k < length made) × IsStepAt (after m s step) k x). inl (omega (arith, t.0), record { before = t.1.before; step = t.1.step; is = t.1.is; number = let at = t.1.number in omega (arith, at, one) }))
    (λ (t : (length made ≤ k) × ((mark : EndMark) × (x ≡ entry.Marked mark))). inr (omega (arith, t.0), t.1)) (entry_is B m (after m s step) made marked k x e)

same_test : (a b c d : ℕ) → (a ≡ b → c ≡ d) → (c ≡ d → a ≡ b) → ◌≡◌ {A = ℕ} (if a == b then 1 else 0) (if c == d then 1 else 0)
same_test a b c d f g = by (a == b) (c == d) refl refl
  where
    by : (x y : Bool) → (a == b) ≡ x → (c == d) ≡ y → ◌≡◌ {A = ℕ} (if x then 1 else 0) (if y then 1 else 0)
    by true true p q = refl
    by false false p q = refl
    by true false p q = let e : a ≡ b = grind (arith, nat_tests) in let h : c ≡ d = f e in absurd (grind (arith, nat_tests))
    by false true p q = let e : c ≡ d = grind (arith, nat_tests) in let h : a ≡ b = g e in absurd (grind (arith, nat_tests))

other_test : (a b : ℕ) → (a ≡ b → ⊥) → ◌≡◌ {A = ℕ} (if a == b then 1 else 0) 0
other_test a b f = by (a == b) refl
  where
    by : (x : Bool) → (a == b) ≡ x → ◌≡◌ {A = ℕ} (if x then 1 else 0) 0
    by false p = refl
    by true p = let e : a ≡ b = grind (arith, nat_tests) in absurd (f e)

times_cons : {B : Type 0} (n : ℕ) (p : ℕ × Entry B) (ps : List (ℕ × Entry B)) → times n (numbers_in (p ∷ ps)) ≡ times n (numbers_in (p ∷ [])) + times n (numbers_in ps)
times_cons n (at, entry.Opened book) ps = omega arith
times_cons n (at, entry.Made before step) ps = omega arith
times_cons n (at, entry.Marked mark) ps = omega arith

module _ {D R : Type 0} (m : Meaning) (v : LockedView D R) where
  -- an entry of a round's list has the number that is so far from the first as its position says
  one_in : (j : ℕ) → j < length v.made → (p : ℕ × Entry (BookView D R)) → slice_get (entries_of m v) p.0 ≡ Some p.1 → times (suc (v.opening.state.steps + j)) (numbers_in (p ∷ [])) ≡ (if p.0 == suc j then 1 else 0)
  one_in j few (zero, x) e =
      let same : entry.Opened v.opening ≡ x = cc in
      subst (λ (y : Entry (BookView D R)). times (suc (v.opening.state.steps + j)) (numbers_in ((zero, y) ∷ [])) ≡ (if zero == suc j then 1 else 0)) same (sym (other_test zero (suc j) (λ h. absurd (omega (arith, h)))))
  one_in j few (suc k, x) e =
      ⊎_elim
      (λ (t : (k < length v.made) × IsStepAt v.opening.state k x).
      subst (λ (y : Entry (BookView D R)). times (suc (v.opening.state.steps + j)) (numbers_in ((suc k, y) ∷ [])) ≡ (if suc k == suc j then 1 else 0)) (sym t.1.is)
      (let number = t.1.number in let test = same_test (suc t.1.before.steps) (suc (v.opening.state.steps + j)) (suc k) (suc j) (λ h. omega (arith, h, number)) (λ h. omega (arith, h, number)) in omega (arith, test)))
      (λ (t : (length v.made ≤ k) × ((mark : EndMark) × (x ≡ entry.Marked mark))).
      subst (λ (y : Entry (BookView D R)). times (suc (v.opening.state.steps + j)) (numbers_in ((suc k, y) ∷ [])) ≡ (if suc k == suc j then 1 else 0)) (sym t.1.1) (sym (other_test (suc k) (suc j) (λ h. let most = t.0 in absurd (omega (arith, h, few, most))))))
      (entry_is (BookView D R) m v.opening.state v.made v.mark k x e)

  one_out : (n : ℕ) → ((j : ℕ) → j < length v.made → n ≡ suc (v.opening.state.steps + j) → ⊥) → (p : ℕ × Entry (BookView D R)) → slice_get (entries_of m v) p.0 ≡ Some p.1 → times n (numbers_in (p ∷ [])) ≡ 0
  one_out n none (zero, x) e = let same : entry.Opened v.opening ≡ x = cc in subst (λ (y : Entry (BookView D R)). times n (numbers_in ((zero, y) ∷ [])) ≡ 0) same refl
  one_out n none (suc k, x) e =
      ⊎_elim
      (λ (t : (k < length v.made) × IsStepAt v.opening.state k x).
      subst (λ (y : Entry (BookView D R)). times n (numbers_in ((suc k, y) ∷ [])) ≡ 0) (sym t.1.is)
      (let number = t.1.number in let test = other_test (suc t.1.before.steps) n (λ h. none k t.0 (omega (arith, h, number))) in omega (arith, test)))
      (λ (t : (length v.made ≤ k) × ((mark : EndMark) × (x ≡ entry.Marked mark))).
      subst (λ (y : Entry (BookView D R)). times n (numbers_in ((suc k, y) ∷ [])) ≡ 0) (sym t.1.1) refl)
      (entry_is (BookView D R) m v.opening.state v.made v.mark k x e)

  all_in : (j : ℕ) → j < length v.made → (mine : List (ℕ × Entry (BookView D R))) → AllAt (entries_of m v) mine → times (suc (v.opening.state.steps + j)) (numbers_in mine) ≡ positions (suc j) mine
  all_in j few [] at = refl
  all_in j few (p ∷ mine) at = times_cons (suc (v.opening.state.steps + j)) p mine ∙ (let one = one_in j few p at.0 in let more = all_in j few mine at.1 in omega (arith, one, more))

  all_out : (n : ℕ) → ((j : ℕ) → j < length v.made → n ≡ suc (v.opening.state.steps + j) → ⊥) → (mine : List (ℕ × Entry (BookView D R))) → AllAt (entries_of m v) mine → times n (numbers_in mine) ≡ 0
  all_out n none [] at = refl
  all_out n none (p ∷ mine) at = times_cons n p mine ∙ (let one = one_out n none p at.0 in let more = all_out n none mine at.1 in omega (arith, one, more))

  entries_long : length v.made < length (entries_of m v)
  entries_long = let l = long_as v.opening.state v.made in let a = length-append (made_entries {B = BookView D R} m v.opening.state v.made) (mark_entries v.mark) in omega (arith, l, a)
    where
      long_as : (s : Base) (made : List Step) → length (made_entries {B = BookView D R} m s made) ≡ length made
      long_as s [] = refl
      long_as s (step ∷ made) = ap suc (long_as (after m s step) made)

  -- each number stands once
  pub counts : (mine : List (ℕ × Entry (BookView D R))) (last : ℕ) → AllAt (entries_of m v) mine → AreAllFrom 1 (length (entries_of m v)) mine → last ≡ v.opening.state.steps + length v.made → (n : ℕ)
      → times n (numbers_in mine) ≡ (if nat_lt v.opening.state.steps n && nat_le n last then 1 else 0)
  counts mine last at all is n = by (nat_lt v.opening.state.steps n) (nat_le n last) refl refl
    where
      by : (x y : Bool) → nat_lt v.opening.state.steps n ≡ x → nat_le n last ≡ y → times n (numbers_in mine) ≡ (if x && y then 1 else 0)
      by true true p q =
          let over : v.opening.state.steps < n = grind (arith, nat_tests) in
          let upto : n ≤ last = grind (arith, nat_tests) in
          let j : ℕ = n - suc v.opening.state.steps in
          let number : n ≡ suc (v.opening.state.steps + j) = omega (arith, over) in
          let few : j < length v.made = omega (arith, over, upto, is) in
          let once = all (suc j) in
          let far = entries_long in
          let one : below (suc j) (length (entries_of m v)) ≡ 1 = grind (arith, nat_tests) in
          let none : below (suc j) 1 ≡ 0 = grind (arith, nat_tests) in
          ap (λ (k : ℕ). times k (numbers_in mine)) number ∙ all_in j few mine at ∙ omega (arith, once, one, none)
      by true false p q = all_out n (λ j few h. let over : last < n = grind (arith, nat_tests) in absurd (omega (arith, over, few, h, is))) mine at
      by false y p q = all_out n (λ j few h. let under : n ≤ v.opening.state.steps = grind (arith, nat_tests) in absurd (omega (arith, under, h))) mine at
