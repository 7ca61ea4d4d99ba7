-- How often a number stands in a list.
use Rattle.std.proofs.Common.{◌≡◌, ◌≢◌, ◌<◌, ◌≤◌, ◌+◌, ◌==◌, ℕ, zero, suc, Bool, true, false, List, [], ◌∷◌, ◌++◌, length, get_or, ap, subst, refl, arith}
use Rattle.std.specs.List.{AllByRecursion, remove}
use Rattle.std.proofs.lemmas.Bool.{eq-eqb, eqb-true}
use Rattle.queue_broker.specs.Kept.{one_if, times}

pub times_append : (k : ℕ) (xs ys : List ℕ) → times k (xs ++ ys) ≡ times k xs + times k ys
times_append k [] ys = omega arith
times_append k (x ∷ xs) ys = omega (arith, times_append k xs ys)

pub counted : (k n : ℕ) → n ≡ k → one_if (n == k) ≡ 1
counted k n same = ap one_if (eq-eqb n k same)

-- a number that isn't counted is another
pub not_counted : (k n rest : ℕ) → one_if (n == k) + rest ≡ 0 → n ≢ k
not_counted k n rest none same = absurd (omega (arith, none, counted k n same))

-- a number that stands there is counted
pub times_at : (xs : List ℕ) (i d k : ℕ) → i < length xs → get_or xs i d ≡ k → 1 ≤ times k xs
times_at [] i d k inside same = absurd (omega (arith, inside))
times_at (x ∷ xs) zero d k inside same = omega (arith, counted k x same)
times_at (x ∷ xs) (suc i) d k inside same = omega (arith, times_at xs i d k (omega (arith, inside)) same)

-- what holds of each number doesn't hold of one that isn't there
pub times_none : (P : ℕ → Type 0) (k : ℕ) (xs : List ℕ) → (P k → ⊥) → AllByRecursion P xs → times k xs ≡ 0
times_none P k [] never all = refl
times_none P k (x ∷ xs) never all = omega (arith, other (x == k) refl, times_none P k xs never all.1)
  where
    other : (b : Bool) → x == k ≡ b → one_if (x == k) ≡ 0
    other true same = absurd (never (subst P (eqb-true x k same) all.0))
    other false same = ap one_if same

-- without the i-th number there is one fewer of it
pub times_remove : (k : ℕ) (xs : List ℕ) (i d : ℕ) → i < length xs → times k xs ≡ one_if (get_or xs i d == k) + times k (remove xs i)
times_remove k [] i d inside = absurd (omega (arith, inside))
times_remove k (x ∷ xs) zero d inside = refl
times_remove k (x ∷ xs) (suc i) d inside = omega (arith, times_remove k xs i d (omega (arith, inside)))
