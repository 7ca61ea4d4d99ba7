-- Lists seen as others, lists that nothing leaves, and lists in which nothing is found.
use Rattle.std.proofs.Common.{◌≡◌, ◌||◌, Bool, true, false, cond, List, [], ◌∷◌, map, find, Option, Some, None, refl, ap}
use Rattle.std.specs.List.{AllByRecursion, list_any}
use Rattle.base_types.specs.Lists.{without}

pub any_map : {A B : Type 0} (f : A → B) (p : B → Bool) (xs : List A) → list_any p (map f xs) ≡ list_any (λ x. p (f x)) xs
any_map f p [] = refl
any_map f p (x ∷ xs) = ap (λ rest. p (f x) || rest) (any_map f p xs)

none_leaves : {A : Type 0} (here : Bool) (x : A) (xs ys : List A) (found : Option A) → (found ≡ None → ys ≡ xs) → cond here (Some x) found ≡ None → cond here xs (x ∷ ys) ≡ x ∷ xs
none_leaves true x xs ys found later is = absurd (cc)
none_leaves false x xs ys found later is = ap (λ l. x ∷ l) (later is)

-- where none passes, none leaves
pub without_none : {A : Type 0} (is : A → Bool) (xs : List A) → find is xs ≡ None → without is xs ≡ xs
without_none is [] none = refl
without_none is (x ∷ xs) none = none_leaves (is x) x xs (without is xs) (find is xs) (without_none is xs) none

fails_first : {A : Type 0} (here : Bool) (is : A → Bool) (x : A) (xs : List A) (found : Option A) → is x ≡ here → (found ≡ None → AllByRecursion (λ y. is y ≡ false) xs)
    → cond here (Some x) found ≡ None → AllByRecursion (λ y. is y ≡ false) (x ∷ xs)
fails_first true is x xs found test later none = absurd (cc)
fails_first false is x xs found test later none = (test, later none)

-- where none is found, each fails
pub all_fail : {A : Type 0} (is : A → Bool) (xs : List A) → find is xs ≡ None → AllByRecursion (λ y. is y ≡ false) xs
all_fail is [] none = tt
all_fail is (x ∷ xs) none = fails_first (is x) is x xs (find is xs) refl (all_fail is xs) none
