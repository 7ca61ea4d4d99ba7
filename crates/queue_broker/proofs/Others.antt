-- Items that each have a number, where what one number stands for is changed.
use Rattle.std.proofs.Common.{◌≡◌, ◌≢◌, ◌<◌, ◌≤◌, ◌+◌, ◌∙◌, ◌==◌, ℕ, zero, suc, List, [], ◌∷◌, length, map, get_or, set, ap, refl, arith}
use Rattle.std.specs.List.{AllByRecursion, remove}
use Rattle.queue_broker.specs.Kept.{one_if, times}
use Rattle.queue_broker.proofs.Times.{counted, not_counted}

module _ {A : Type 0} (number : A → ℕ) (k : ℕ) where
  pub times_in : (xs : List A) (i : ℕ) (d : A) → i < length xs → number (get_or xs i d) ≡ k → 1 ≤ times k (map number xs)
  times_in [] i d inside here = absurd (omega (arith, inside))
  times_in (x ∷ xs) zero d inside here = omega (arith, counted k (number x) here)
  times_in (x ∷ xs) (suc i) d inside here = omega (arith, times_in xs i d (omega (arith, inside)) here)

  -- none before the one that has the number has it, and none behind
  other_before : (x : A) (xs : List A) (i : ℕ) (d : A) → i < length xs → number (get_or xs i d) ≡ k → one_if (number x == k) + times k (map number xs) ≤ 1 → number x ≢ k
  other_before x xs i d inside here once = not_counted k (number x) 0 (omega (arith, once, times_in xs i d inside here))

  none_behind : (x : A) (xs : List A) → number x ≡ k → one_if (number x == k) + times k (map number xs) ≤ 1 → times k (map number xs) ≡ 0
  none_behind x xs here once = omega (arith, once, counted k (number x) here)

  module _ {B : Type 0} (old new : A → B) (others : (x : A) → number x ≢ k → new x ≡ old x) where
    pub map_other : (xs : List A) → times k (map number xs) ≡ 0 → map new xs ≡ map old xs
    map_other [] none = refl
    map_other (x ∷ xs) none =
        ap (λ (y : B). y ∷ map new xs) (others x (not_counted k (number x) (times k (map number xs)) none))
        ∙ ap (λ (ys : List B). old x ∷ ys) (map_other xs (omega (arith, none)))

    pub map_one : (xs : List A) (i : ℕ) (x d : A) → i < length xs → number (get_or xs i d) ≡ k → times k (map number xs) ≤ 1 → map new (set xs i x) ≡ set (map old xs) i (new x)
    map_one [] i x d inside here once = absurd (omega (arith, inside))
    map_one (y ∷ xs) zero x d inside here once = ap (λ (ys : List B). new x ∷ ys) (map_other xs (none_behind y xs here once))
    map_one (y ∷ xs) (suc i) x d inside here once =
        let within : i < length xs = omega (arith, inside) in
        ap (λ (z : B). z ∷ map new (set xs i x)) (others y (other_before y xs i d within here once))
        ∙ ap (λ (ys : List B). old y ∷ ys) (map_one xs i x d within here (omega (arith, once)))

    -- without that one
    pub map_removed : (xs : List A) (i : ℕ) (d : A) → i < length xs → number (get_or xs i d) ≡ k → times k (map number xs) ≤ 1 → map new (remove xs i) ≡ remove (map old xs) i
    map_removed [] i d inside here once = absurd (omega (arith, inside))
    map_removed (y ∷ xs) zero d inside here once = map_other xs (none_behind y xs here once)
    map_removed (y ∷ xs) (suc i) d inside here once =
        let within : i < length xs = omega (arith, inside) in
        ap (λ (z : B). z ∷ map new (remove xs i)) (others y (other_before y xs i d within here once))
        ∙ ap (λ (ys : List B). old y ∷ ys) (map_removed xs i d within here (omega (arith, once)))

  module _ (Old New : A → Type 0) (others : (x : A) → number x ≢ k → Old x → New x) where
    pub all_other : (xs : List A) → times k (map number xs) ≡ 0 → AllByRecursion Old xs → AllByRecursion New xs
    all_other [] none all = tt
    all_other (x ∷ xs) none all = (others x (not_counted k (number x) (times k (map number xs)) none) all.0, all_other xs (omega (arith, none)) all.1)

    pub all_one : (xs : List A) (i : ℕ) (x d : A) → i < length xs → number (get_or xs i d) ≡ k → times k (map number xs) ≤ 1 → New x → AllByRecursion Old xs → AllByRecursion New (set xs i x)
    all_one [] i x d inside here once is all = absurd (omega (arith, inside))
    all_one (y ∷ xs) zero x d inside here once is all = (is, all_other xs (none_behind y xs here once) all.1)
    all_one (y ∷ xs) (suc i) x d inside here once is all =
        let within : i < length xs = omega (arith, inside) in
        (others y (other_before y xs i d within here once) all.0, all_one xs i x d within here (omega (arith, once)) is all.1)

    pub all_removed : (xs : List A) (i : ℕ) (d : A) → i < length xs → number (get_or xs i d) ≡ k → times k (map number xs) ≤ 1 → AllByRecursion Old xs → AllByRecursion New (remove xs i)
    all_removed [] i d inside here once all = absurd (omega (arith, inside))
    all_removed (y ∷ xs) zero d inside here once all = all_other xs (none_behind y xs here once) all.1
    all_removed (y ∷ xs) (suc i) d inside here once all =
        let within : i < length xs = omega (arith, inside) in
        (others y (other_before y xs i d within here once) all.0, all_removed xs i d within here (omega (arith, once)) all.1)
