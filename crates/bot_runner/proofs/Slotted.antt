-- What holds of each slot, by its place and in order.
use Rattle.std.proofs.Common.{◌≡◌, ◌<◌, ℕ, zero, suc, List, [], ◌∷◌, length, Option, Some, None, IfSome, IsSomeAnd, sym, subst, ◌∙◌, arith}
use Rattle.std.proofs.lemmas.List.{take_all, take-append-le}
use Rattle.std.specs.Prelude.{◌++◌, drop, slice_index_or, take}
use Rattle.std.specs.List.{AllByRecursion}
use Rattle.bot_runner.specs.Parts.{AreEach}

-- one of pairs, at its place
pub each_at : {A B : Type 0} (Is : A → B → Type 0) (xs : List A) (ys : List B) → AreEach Is xs ys → (i : ℕ) (d : B) → i < length ys → (x : A) × Is x (slice_index_or ys i d)
each_at Is [] [] each i d less = absurd (omega (arith, less))
each_at Is [] (y ∷ ys) each i d less = absurd each
each_at Is (x ∷ xs) [] each i d less = absurd each
each_at Is (x ∷ xs) (y ∷ ys) each zero d less = (x, each.0)
each_at Is (x ∷ xs) (y ∷ ys) each (suc i) d less = each_at Is xs ys each.1 i d (omega (arith, less))

-- pairs with what each second one became, where that is told for the first one that it names
pub spliced : {A B : Type 0} (Is : A → B → Type 0) (named : B → Option A) (Was : A → B → Type 0) (Left : B → Type 0) → ((x : A) (y : B) → Is x y → named y ≡ Some x) → (xs : List A) (ys zs : List B) → AreEach Is xs ys → length zs ≡ length ys
    → ((i : ℕ) (d : B) → i < length ys → IfSome (named (slice_index_or ys i d)) (λ x. Was x (slice_index_or zs i d)) × Left (slice_index_or zs i d)) → AreEach (λ x z. Was x z × Left z) xs zs
spliced Is named Was Left f [] [] [] each same rel = tt
spliced Is named Was Left f [] [] (z ∷ zs) each same rel = absurd (omega (arith, same))
spliced Is named Was Left f [] (y ∷ ys) zs each same rel = absurd each
spliced Is named Was Left f (x ∷ xs) [] zs each same rel = absurd each
spliced Is named Was Left f (x ∷ xs) (y ∷ ys) [] each same rel = absurd (omega (arith, same))
spliced Is named Was Left f (x ∷ xs) (y ∷ ys) (z ∷ zs) each same rel =
    let first = rel 0 y (omega arith) in
    ((subst (λ o. IfSome o (λ w. Was w z)) (f x y each.0) first.0, first.1), spliced Is named Was Left f xs ys zs each.1 (omega (arith, same)) (λ i d less. rel (suc i) d (omega (arith, less))))

-- what all second ones of pairs have
pub all_done : {A B : Type 0} (Was : A → B → Type 0) (P : B → Type 0) → ((x : A) (z : B) → Was x z → P z) → (xs : List A) (zs : List B) → AreEach Was xs zs → AllByRecursion P zs
all_done Was P f [] [] each = tt
all_done Was P f [] (z ∷ zs) each = absurd each
all_done Was P f (x ∷ xs) [] each = absurd each
all_done Was P f (x ∷ xs) (z ∷ zs) each = (f x z each.0, all_done Was P f xs zs each.1)

pub some_not : {A : Type 0} (x : Option A) (a : A) → x ≡ Some a → x ≡ None → ⊥
some_not x a some none = let e = sym some ∙ none in absurd (cc)

pub and_on : {A : Type 0} {P Q : A → Type 0} (x : Option A) → ((a : A) → P a → Q a) → IsSomeAnd x P → IsSomeAnd x Q
and_on None f is = is
and_on (Some a) f is = f a is

pub inner_some : {A B : Type 0} (P : A → B → Type 0) (x : Option A) (y : Option B) → IsSomeAnd x (λ a. IsSomeAnd y (P a)) → y ≡ None → ⊥
inner_some P None y is none = absurd is
inner_some P (Some a) None is none = absurd is
inner_some P (Some a) (Some b) is none = absurd (cc)

-- a list in the place of one that is as long
pub refilled : {A : Type 0} (n : ℕ) (ws vs : List A) → length ws ≡ n → ws ≡ take n (ws ++ drop (length ws) vs)
refilled n ws vs same = sym (take-append-le n ws (drop (length ws) vs) (omega (arith, same)) ∙ take_all n ws (omega (arith, same)))
