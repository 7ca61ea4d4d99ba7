-- What holds of each item of a list.
use Rattle.std.proofs.Common.{◌≡◌, inl, inr, Bool, true, false, cond, List, [], ◌∷◌, ◌++◌, filter, find, Option, Some, None, refl, ap, subst}
use Rattle.std.specs.List.{AllByRecursion}
use Rattle.base_types.specs.Lists.{IsIn, changed, changed_or_added, without}

pub all-append : {A : Type 0} (P : A → Type 0) (xs ys : List A) → AllByRecursion P xs → AllByRecursion P ys → AllByRecursion P (xs ++ ys)
all-append P [] ys all_xs all_ys = all_ys
all-append P (x ∷ xs) ys all_xs all_ys = (all_xs.0, all-append P xs ys all_xs.1 all_ys)

pub all_in : {A : Type 0} (P : A → Type 0) (xs : List A) → ((x : A) → IsIn x xs → P x) → AllByRecursion P xs
all_in P [] each = tt
all_in P (x ∷ xs) each = (each x (inl refl), all_in P xs (λ y there. each y (inr there)))

-- what all pass keeps all
pub filter_all : {A : Type 0} (p : A → Bool) (xs : List A) → AllByRecursion (λ x. p x ≡ true) xs → filter p xs ≡ xs
filter_all p [] all = refl
filter_all p (x ∷ xs) all = rw all.0 (ap (λ l. x ∷ l) (filter_all p xs all.1))

pub all_wider : {A : Type 0} (P Q : A → Type 0) (xs : List A) → ((x : A) → P x → Q x) → AllByRecursion P xs → AllByRecursion Q xs
all_wider P Q [] wider all = tt
all_wider P Q (x ∷ xs) wider all = (wider x all.0, all_wider P Q xs wider all.1)

changed_here : {A : Type 0} (here : Bool) (P : A → Type 0) (change : A → A) (x : A) (xs ys : List A) → P x → P (change x) → AllByRecursion P xs → AllByRecursion P ys → AllByRecursion P (cond here (change x ∷ xs) (x ∷ ys))
changed_here true P change x xs ys was is old new = (is, old)
changed_here false P change x xs ys was is old new = (was, new)

-- a change that keeps it keeps it everywhere
pub all_changed : {A : Type 0} (P : A → Type 0) (is : A → Bool) (change : A → A) (xs : List A) → ((x : A) → P x → P (change x)) → AllByRecursion P xs → AllByRecursion P (changed is change xs)
all_changed P is change [] keeps all = tt
all_changed P is change (x ∷ xs) keeps all = changed_here (is x) P change x xs (changed is change xs) all.0 (keeps x all.0) all.1 (all_changed P is change xs keeps all.1)

pub all_changed_or_added : {A : Type 0} (P : A → Type 0) (is : A → Bool) (change : A → A) (new : A) (xs : List A) → P new → ((x : A) → P x → P (change x)) → AllByRecursion P xs
    → AllByRecursion P (changed_or_added is change new xs)
all_changed_or_added P is change new [] fits keeps all = (fits, tt)
all_changed_or_added P is change new (x ∷ xs) fits keeps all =
    changed_here (is x) P change x xs (changed_or_added is change new xs) all.0 (keeps x all.0) all.1 (all_changed_or_added P is change new xs fits keeps all.1)

without_here : {A : Type 0} (here : Bool) (P : A → Type 0) (x : A) (xs ys : List A) → P x → AllByRecursion P xs → AllByRecursion P ys → AllByRecursion P (cond here xs (x ∷ ys))
without_here true P x xs ys is old new = old
without_here false P x xs ys is old new = (is, new)

pub all_without : {A : Type 0} (P : A → Type 0) (is : A → Bool) (xs : List A) → AllByRecursion P xs → AllByRecursion P (without is xs)
all_without P is [] all = tt
all_without P is (x ∷ xs) all = without_here (is x) P x xs (without is xs) all.0 all.1 (all_without P is xs all.1)

abbrev unwrapped : {A : Type 0} → A → Option A → A
unwrapped d None = d
unwrapped d (Some x) = x

same_item : {A : Type 0} {x y : A} → Some x ≡ Some y → x ≡ y
same_item {x = x} is = ap (unwrapped x) is

find_here : {A : Type 0} (here : Bool) (P : A → Type 0) (x y : A) (rest : Option A) → P x → (rest ≡ Some y → P y) → cond here (Some x) rest ≡ Some y → P y
find_here true P x y rest holds later is = subst P (same_item is) holds
find_here false P x y rest holds later is = later is

-- what is found is one of them
pub all_found : {A : Type 0} (P : A → Type 0) (is : A → Bool) (xs : List A) (y : A) → AllByRecursion P xs → find is xs ≡ Some y → P y
all_found P is [] y all found = absurd (cc)
all_found P is (x ∷ xs) y all found = find_here (is x) P x y (find is xs) all.0 (all_found P is xs y all.1) found
