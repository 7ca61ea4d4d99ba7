-- The first entry that passes, by its place.
use Rattle.std.proofs.Common.{◌∙◌, sym, ◌≡◌, ℕ, zero, suc, ◌<◌, Bool, true, false, cond, nat_lt, List, [], ◌∷◌, ◌++◌, length, get_or, set, Some, None, refl, ap, arith, find, position}
use Rattle.std.proofs.lemmas.Grind.{common_steps}
use Rattle.std.specs.List.{position_or_len, remove}
use Rattle.std.proofs.lemmas.Bool.{ltb-false}
use Rattle.std.proofs.lemmas.List.Quantifiers.{position-Some}
use Rattle.std.proofs.lemmas.List.Sums.{fails_before_first}
use Rattle.base_types.specs.Lists.{changed, changed_or_added, without}

-- the entry at i passes, and none before it
pub record IsFirst {A : Type 0} (p : A → Bool) (xs : List A) (i : ℕ) : Type 0 where
  pub inside : i < length xs
  pub passes : (d : A) → p (get_or xs i d) ≡ true
  pub before : (d : A) (k : ℕ) → k < i → p (get_or xs k d) ≡ false

-- no entry passes
pub record IsNowhere {A : Type 0} (p : A → Bool) (xs : List A) : Type 0 where
  pub fails : (d : A) (k : ℕ) → k < length xs → p (get_or xs k d) ≡ false

first_inside : {A : Type 0} (p : A → Bool) (xs : List A) (i : ℕ) → position p xs ≡ Some i → i < length xs
first_inside p xs i is = inside (nat_lt (position_or_len p xs) (length xs)) refl is
  where
    inside : (b : Bool) → nat_lt (position_or_len p xs) (length xs) ≡ b → cond b (Some (position_or_len p xs)) None ≡ Some i → i < length xs
    inside true test is = grind (arith, common_steps)
    inside false test is = absurd (cc)

pub first_at : {A : Type 0} (p : A → Bool) (xs : List A) (i : ℕ) → position p xs ≡ Some i → IsFirst p xs i
first_at p xs i is = record {
  inside = first_inside p xs i is;
  passes = λ d. (position-Some p xs i d is).1;
  before = λ d. (position-Some p xs i d is).2;
}

pub nowhere : {A : Type 0} (p : A → Bool) (xs : List A) → position p xs ≡ None → IsNowhere p xs
nowhere p xs none = record { fails = λ d k inside. fails_before_first p xs k d (below (nat_lt (position_or_len p xs) (length xs)) k refl none inside) }
  where
    below : (b : Bool) (k : ℕ) → nat_lt (position_or_len p xs) (length xs) ≡ b → cond b (Some (position_or_len p xs)) None ≡ None → k < length xs → k < position_or_len p xs
    below true k test none inside = absurd (cc)
    below false k test none inside = omega (arith, ltb-false (position_or_len p xs) (length xs) test, inside)

module _ {A : Type 0} (p : A → Bool) where
  head_passes : (x : A) (xs : List A) → IsFirst p (x ∷ xs) 0 → p x ≡ true
  head_passes x xs first = first.passes x

  head_fails : (x : A) (xs : List A) (i : ℕ) → IsFirst p (x ∷ xs) (suc i) → p x ≡ false
  head_fails x xs i first = first.before x 0 (omega arith)

  tail_first : (x : A) (xs : List A) (i : ℕ) → IsFirst p (x ∷ xs) (suc i) → IsFirst p xs i
  tail_first x xs i first = record { inside = omega (arith, first.inside); passes = first.passes; before = λ d k below. first.before d (suc k) (omega (arith, below)) }

  tail_nowhere : (x : A) (xs : List A) → IsNowhere p (x ∷ xs) → IsNowhere p xs
  tail_nowhere x xs none = record { fails = λ d k inside. none.fails d (suc k) (omega (arith, inside)) }

  head_nowhere : (x : A) (xs : List A) → IsNowhere p (x ∷ xs) → p x ≡ false
  head_nowhere x xs none = none.fails x 0 (omega arith)

  pub find_first : (xs : List A) (i : ℕ) (d : A) → IsFirst p xs i → find p xs ≡ Some (get_or xs i d)
  find_first [] i d first = absurd (omega (arith, first.inside))
  find_first (x ∷ xs) zero d first = rw (head_passes x xs first) refl
  find_first (x ∷ xs) (suc i) d first = rw (head_fails x xs i first) (find_first xs i d (tail_first x xs i first))

  pub find_nowhere : (xs : List A) → IsNowhere p xs → find p xs ≡ None
  find_nowhere [] none = refl
  find_nowhere (x ∷ xs) none = rw (head_nowhere x xs none) (find_nowhere xs (tail_nowhere x xs none))

  pub changed_first : (change : A → A) (xs : List A) (i : ℕ) (d : A) → IsFirst p xs i → changed p change xs ≡ set xs i (change (get_or xs i d))
  changed_first change [] i d first = absurd (omega (arith, first.inside))
  changed_first change (x ∷ xs) zero d first = rw (head_passes x xs first) refl
  changed_first change (x ∷ xs) (suc i) d first = rw (head_fails x xs i first) (ap (λ l. x ∷ l) (changed_first change xs i d (tail_first x xs i first)))

  pub changed_nowhere : (change : A → A) (xs : List A) → IsNowhere p xs → changed p change xs ≡ xs
  changed_nowhere change [] none = refl
  changed_nowhere change (x ∷ xs) none = rw (head_nowhere x xs none) (ap (λ l. x ∷ l) (changed_nowhere change xs (tail_nowhere x xs none)))

  pub added_first : (change : A → A) (new : A) (xs : List A) (i : ℕ) (d : A) → IsFirst p xs i → changed_or_added p change new xs ≡ set xs i (change (get_or xs i d))
  added_first change new [] i d first = absurd (omega (arith, first.inside))
  added_first change new (x ∷ xs) zero d first = rw (head_passes x xs first) refl
  added_first change new (x ∷ xs) (suc i) d first = rw (head_fails x xs i first) (ap (λ l. x ∷ l) (added_first change new xs i d (tail_first x xs i first)))

  pub added_nowhere : (change : A → A) (new : A) (xs : List A) → IsNowhere p xs → changed_or_added p change new xs ≡ xs ++ new ∷ []
  added_nowhere change new [] none = refl
  added_nowhere change new (x ∷ xs) none = rw (head_nowhere x xs none) (ap (λ l. x ∷ l) (added_nowhere change new xs (tail_nowhere x xs none)))

  pub without_first : (xs : List A) (i : ℕ) → IsFirst p xs i → without p xs ≡ remove xs i
  without_first [] i first = absurd (omega (arith, first.inside))
  without_first (x ∷ xs) zero first = rw (head_passes x xs first) refl
  without_first (x ∷ xs) (suc i) first = rw (head_fails x xs i first) (ap (λ l. x ∷ l) (without_first xs i (tail_first x xs i first)))

  pub without_nowhere : (xs : List A) → IsNowhere p xs → without p xs ≡ xs
  without_nowhere [] none = refl
  without_nowhere (x ∷ xs) none = rw (head_nowhere x xs none) (ap (λ l. x ∷ l) (without_nowhere xs (tail_nowhere x xs none)))

  -- the same by the answer of `position`
  pub find_placed : (xs : List A) (i : ℕ) (d : A) → position p xs ≡ Some i → find p xs ≡ Some (get_or xs i d)
  find_placed xs i d is = find_first xs i d (first_at p xs i is)

  pub find_missing : (xs : List A) → position p xs ≡ None → find p xs ≡ None
  find_missing xs none = find_nowhere xs (nowhere p xs none)

  pub changed_placed : (change : A → A) (xs : List A) (i : ℕ) (x : A) → position p xs ≡ Some i → x ≡ get_or xs i x → changed p change xs ≡ set xs i (change x)
  changed_placed change xs i x is here = changed_first change xs i x (first_at p xs i is) ∙ ap (λ y. set xs i (change y)) (sym here)

  pub changed_missing : (change : A → A) (xs : List A) → position p xs ≡ None → changed p change xs ≡ xs
  changed_missing change xs none = changed_nowhere change xs (nowhere p xs none)

  pub without_placed : (xs : List A) (i : ℕ) → position p xs ≡ Some i → without p xs ≡ remove xs i
  without_placed xs i is = without_first xs i (first_at p xs i is)

  pub without_missing : (xs : List A) → position p xs ≡ None → without p xs ≡ xs
  without_missing xs none = without_nowhere xs (nowhere p xs none)
