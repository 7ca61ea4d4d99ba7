-- Slots and counts that a call reads are within bounds.
use Rattle.std.proofs.Common.{◌≡◌, ◌≢◌, ◌<◌, ◌≤◌, ℕ, Bool, true, false, ◌||◌, List, [], ◌∷◌, ◌++◌, length, ap, sym, subst, refl, inl, inr, ⊎_elim, arith}
use Rattle.std.specs.List.{AllByRecursion, IsDistinct, list_any}
use Rattle.std.proofs.lemmas.Map.Steps.{length-le_from_distinct_below}
use Rattle.std.proofs.lemmas.Bool.Decides.{eqb_tells}
use lib.Dec.{eqb}
use Rattle.base_types.specs.Lists.{IsIn}
use Rattle.link_store.specs.Rings.{AreApart, AreRings, at, ring_of}
use Rattle.link_store.proofs.Paths.{length-walk}
use Rattle.link_store.proofs.Removed.{before, behind}

-- a slot of a list splits it
pub split_in : (x : ℕ) (xs : List ℕ) → IsIn x xs → (ps : List ℕ) × (qs : List ℕ) × (xs ≡ ps ++ x ∷ qs)
split_in x [] is = absurd is
split_in x (y ∷ xs) (inl e) = ([], xs, ap (λ z. z ∷ xs) (sym e))
split_in x (y ∷ xs) (inr later) = let (ps, qs, e) = split_in x xs later in (y ∷ ps, qs, ap (λ zs. y ∷ zs) e)

-- what a removal reads
pub record AreNear (nexts prevs lens : List ℕ) (j x : ℕ) : Type 0 where
  pub slot : x < length nexts
  pub before : at prevs x < length nexts
  pub behind : at nexts x < length nexts
  pub some : 0 < at lens j

pub all_in : (P : ℕ → Type 0) (xs : List ℕ) (x : ℕ) → AllByRecursion P xs → IsIn x xs → P x
all_in P [] x all is = absurd is
all_in P (y ∷ xs) x all (inl e) = subst P (sym e) all.0
all_in P (y ∷ xs) x all (inr later) = all_in P xs x all.1 later

not_empty : (x : ℕ) (xs : List ℕ) → IsIn x xs → 0 < length xs
not_empty x [] is = absurd is
not_empty x (y ∷ xs) is = omega arith

pub near : (nexts prevs rings heads lens : List ℕ) (j x : ℕ) → AreRings nexts prevs rings heads lens (length nexts) → j < length heads → IsIn x (ring_of nexts heads lens j) → AreNear nexts prevs lens j x
near nexts prevs rings heads lens j x kept there is =
    let (ps, qs, e) = split_in x (ring_of nexts heads lens j) is in
    let inside = (kept.round j there).inside in
    let inside' : AllByRecursion (λ k. k < length nexts) (at heads j ∷ ps ++ x ∷ qs) = subst (λ ys. AllByRecursion (λ k. k < length nexts) (at heads j ∷ ys)) e inside in
    record {
      slot = all_in (λ k. k < length nexts) (ring_of nexts heads lens j) x inside.1 is;
      before = before nexts prevs rings heads lens j x ps qs kept there e (λ k. k < length nexts) inside';
      behind = behind nexts prevs rings heads lens j x ps qs kept there e (λ k. k < length nexts) inside';
      some = omega (arith, not_empty x (ring_of nexts heads lens j) is, length-walk (at nexts) (at lens j) (at nexts (at heads j)));
    }

differ : (x y : ℕ) → y ≢ x → eqb x y ≡ false
differ x y other = ⊎_elim (λ same. absurd (other (sym same.1))) (λ apart. apart.0) (eqb_tells x y)

differ_all : (x : ℕ) (xs : List ℕ) → AllByRecursion (λ y. y ≢ x) xs → AllByRecursion (λ y. eqb x y ≡ false) xs
differ_all x [] all = tt
differ_all x (y ∷ ys) all = (differ x y all.0, differ_all x ys all.1)

distinct : (xs : List ℕ) → AreApart xs → IsDistinct eqb xs
unfolding IsDistinct
distinct [] apart = tt
distinct (x ∷ xs) apart = (differ_all x xs apart.0, distinct xs apart.1)

below_by : (b : Bool) (q x n : ℕ) (rest : Bool) → (b ≡ true → q ≡ x) → x < n → (rest ≡ true → q < n) → (b || rest) ≡ true → q < n
below_by true q x n rest same here later is = subst (λ k. k < n) (sym (same refl)) here
below_by false q x n rest same here later is = later is

pub same_of : (q x : ℕ) → eqb q x ≡ true → q ≡ x
same_of q x e = ⊎_elim (λ same. same.1) (λ apart. absurd (cc)) (eqb_tells q x)

pub equal_same : (q x : ℕ) → q ≡ x → eqb q x ≡ true
equal_same q x e = ⊎_elim (λ same. same.0) (λ apart. absurd (apart.1 e)) (eqb_tells q x)

below : (n : ℕ) (xs : List ℕ) → AllByRecursion (λ k. k < n) xs → (q : ℕ) → list_any (eqb q) xs ≡ true → q < n
below n [] all q e = absurd (cc)
below n (x ∷ xs) all q e = below_by (eqb q x) q x n (list_any (eqb q) xs) (same_of q x) all.0 (below n xs all.1 q) e

fits : (n : ℕ) (xs : List ℕ) → AreApart xs → AllByRecursion (λ k. k < n) xs → length xs ≤ n
fits n xs apart inside = length-le_from_distinct_below xs n (distinct xs apart) (below n xs inside)

-- a ring has fewer slots than there are
pub len_below : (nexts prevs rings heads lens : List ℕ) (j out : ℕ) → AreRings nexts prevs rings heads lens out → j < length heads → at lens j < length nexts
len_below nexts prevs rings heads lens j out kept there =
    let round = kept.round j there in
    let most : length (at heads j ∷ ring_of nexts heads lens j) ≤ length nexts = fits (length nexts) (at heads j ∷ ring_of nexts heads lens j) round.apart round.inside in
    let count : length (ring_of nexts heads lens j) ≡ at lens j = length-walk (at nexts) (at lens j) (at nexts (at heads j)) in
    omega arith
