-- Lists of which the first entries are changed, and the others are not.
use Rattle.std.proofs.Common.{◌≡◌, ◌≤◌, ◌<◌, ℕ, zero, suc, List, [], ◌∷◌, ◌++◌, length, map, take, drop, set, get_or, refl, ◌∙◌, ap, arith}
use Rattle.std.proofs.lemmas.List.{append-nil, take_all}
use Rattle.std.specs.List.{AllByRecursion}

-- what holds of each entry holds of the one at a place
pub all_at : {A : Type 0} (P : A → Type 0) (xs : List A) (i : ℕ) (d : A) → AllByRecursion P xs → i < length xs → P (get_or xs i d)
all_at P [] i d all inside = absurd (omega (arith, inside))
all_at P (x ∷ xs) zero d all inside = all.0
all_at P (x ∷ xs) (suc i) d all inside = all_at P xs i d all.1 (omega (arith, inside))

-- the first entries are changed, the others are not
abbrev pub half : {A : Type 0} → (A → A) → ℕ → List A → List A
half f i xs = map f (take i xs) ++ drop i xs

pub half_at : {A : Type 0} (f : A → A) (xs : List A) (i : ℕ) (d : A) → i < length xs → get_or (half f i xs) i d ≡ get_or xs i d
half_at f [] i d inside = absurd (omega (arith, inside))
half_at f (x ∷ xs) zero d inside = refl
half_at f (x ∷ xs) (suc i) d inside = half_at f xs i d (omega (arith, inside))

pub half_set : {A : Type 0} (f : A → A) (xs : List A) (i : ℕ) (d : A) → i < length xs → set (half f i xs) i (f (get_or xs i d)) ≡ half f (suc i) xs
half_set f [] i d inside = absurd (omega (arith, inside))
half_set f (x ∷ xs) zero d inside = refl
half_set f (x ∷ xs) (suc i) d inside = ap (λ l. f x ∷ l) (half_set f xs i d (omega (arith, inside)))

pub half_all : {A : Type 0} (f : A → A) (xs : List A) (i : ℕ) → length xs ≤ i → half f i xs ≡ map f xs
half_all f [] i long = go i
  where
    go : (i : ℕ) → map f (take i []) ++ drop i [] ≡ []
    go zero = refl
    go (suc i) = refl
half_all f (x ∷ xs) zero long = absurd (omega (arith, long))
half_all f (x ∷ xs) (suc i) long = ap (λ l. f x ∷ l) (half_all f xs i (omega (arith, long)))

drop-length : {A : Type 0} (xs : List A) → drop (length xs) xs ≡ []
drop-length [] = refl
drop-length (x ∷ xs) = drop-length xs

-- what stands behind as many is gone
pub whole_back : {A : Type 0} (xs ys : List A) (n : ℕ) → length ys ≡ length xs → n ≡ length xs → take n (ys ++ drop (length ys) xs) ≡ ys
whole_back xs ys n same count =
    ap (λ k. take n (ys ++ drop k xs)) same ∙ ap (λ l. take n (ys ++ l)) (drop-length xs) ∙ ap (take n) (append-nil ys) ∙ take_all n ys (omega (arith, same, count))
