-- Lists of which each two entries stand in a relation, the earlier one first: what adding, changing and leaving out
-- entries keeps.
use Rattle.std.proofs.Common.{◌≡◌, ◌⊎◌, ◌<◌, ◌||◌, inl, inr, ℕ, zero, suc, Bool, true, false, cond, List, [], ◌∷◌, ◌++◌, map, filter, drop, find, Option, Some, None, refl, sym, ◌∙◌, ap, subst, arith}
use Rattle.std.specs.List.{AllByRecursion, IsDistinct, list_any}
use Rattle.std.specs.List.Sorted.{IsStrictlySortedBy}
use Rattle.std.specs.Ordering.{nat_cmp}
use Rattle.std.specs.declared.cmp.Ordering.TheVariants.{Less}
use Rattle.std.proofs.lemmas.Bool.Decides.{nat_tests}
use Rattle.base_types.specs.Lists.{IsIn, changed, changed_or_added, without}
use Rattle.base_types.proofs.Everywhere.{all-append, all_wider, all_without}

-- what holds of each

pub all-filter : {A : Type 0} (P : A → Type 0) (p : A → Bool) (xs : List A) → AllByRecursion P xs → AllByRecursion P (filter p xs)
all-filter P p [] all = tt
all-filter P p (x ∷ xs) all = here (p x) (all-filter P p xs all.1)
  where
    here : (passes : Bool) → AllByRecursion P (filter p xs) → AllByRecursion P (cond passes (x ∷ filter p xs) (filter p xs))
    here true rest = (all.0, rest)
    here false rest = rest

pub all-drop : {A : Type 0} (P : A → Type 0) (n : ℕ) (xs : List A) → AllByRecursion P xs → AllByRecursion P (drop n xs)
all-drop P zero xs all = all
all-drop P (suc n) [] all = tt
all-drop P (suc n) (x ∷ xs) all = all-drop P n xs all.1

pub all-map : {A B : Type 0} (P : B → Type 0) (f : A → B) (xs : List A) → AllByRecursion (λ x. P (f x)) xs → AllByRecursion P (map f xs)
all-map P f [] all = tt
all-map P f (x ∷ xs) all = (all.0, all-map P f xs all.1)

pub all_both : {A : Type 0} (P Q R : A → Type 0) (xs : List A) → ((x : A) → P x → Q x → R x) → AllByRecursion P xs → AllByRecursion Q xs → AllByRecursion R xs
all_both P Q R [] joined ps qs = tt
all_both P Q R (x ∷ xs) joined ps qs = (joined x ps.0 qs.0, all_both P Q R xs joined ps.1 qs.1)

changed_found : {A : Type 0} (here : Bool) (P : A → Type 0) (change : A → A) (x : A) (xs ys : List A) (found : Option A) → ((y : A) → cond here (Some x) found ≡ Some y → P (change y))
    → P x → AllByRecursion P xs → (((y : A) → found ≡ Some y → P (change y)) → AllByRecursion P ys) → AllByRecursion P (cond here (change x ∷ xs) (x ∷ ys))
changed_found true P change x xs ys found fits was old new = (fits x refl, old)
changed_found false P change x xs ys found fits was old new = (was, new fits)

-- a change of the first entry that passes, of which it still holds
pub all_changed_found : {A : Type 0} (P : A → Type 0) (is : A → Bool) (change : A → A) (xs : List A) → AllByRecursion P xs → ((y : A) → find is xs ≡ Some y → P (change y))
    → AllByRecursion P (changed is change xs)
all_changed_found P is change [] all fits = tt
all_changed_found P is change (x ∷ xs) all fits =
    changed_found (is x) P change x xs (changed is change xs) (find is xs) fits all.0 all.1 (all_changed_found P is change xs all.1)

pub all_added_found : {A : Type 0} (P : A → Type 0) (is : A → Bool) (change : A → A) (new : A) (xs : List A) → P new → AllByRecursion P xs → ((y : A) → find is xs ≡ Some y → P (change y))
    → AllByRecursion P (changed_or_added is change new xs)
all_added_found P is change new [] fresh all fits = (fresh, tt)
all_added_found P is change new (x ∷ xs) fresh all fits =
    changed_found (is x) P change x xs (changed_or_added is change new xs) (find is xs) fits all.0 all.1 (all_added_found P is change new xs fresh all.1)

-- members

pub in-map : {A B : Type 0} (f : A → B) (x : A) (xs : List A) → IsIn x xs → IsIn (f x) (map f xs)
in-map f x [] there = absurd there
in-map f x (y ∷ xs) (inl is) = inl (ap f is)
in-map f x (y ∷ xs) (inr there) = inr (in-map f x xs there)

pub in-filter : {A : Type 0} (p : A → Bool) (x : A) (xs : List A) → p x ≡ true → IsIn x xs → IsIn x (filter p xs)
in-filter p x [] passes there = absurd there
in-filter p x (y ∷ xs) passes there = here (p y) refl there (in-filter p x xs passes)
  where
    here : (b : Bool) → p y ≡ b → (x ≡ y) ⊎ IsIn x xs → (IsIn x xs → IsIn x (filter p xs)) → IsIn x (cond b (y ∷ filter p xs) (filter p xs))
    here true is (inl same) later = inl same
    here true is (inr there) later = inr (later there)
    here false is (inl same) later = absurd (cc (passes, ap p same, is))
    here false is (inr there) later = later there

pub all_at : {A : Type 0} (P : A → Type 0) (x : A) (xs : List A) → IsIn x xs → AllByRecursion P xs → P x
all_at P x [] there all = absurd there
all_at P x (y ∷ xs) (inl is) all = subst P (sym is) all.0
all_at P x (y ∷ xs) (inr there) all = all_at P x xs there all.1

-- each two

abbrev pub Pairwise : {A : Type 0} → (A → A → Type 0) → List A → Type 0
Pairwise R [] = Unit {0}
Pairwise R (x ∷ xs) = AllByRecursion (R x) xs × Pairwise R xs

pub pairs-append : {A : Type 0} (R : A → A → Type 0) (xs ys : List A) → Pairwise R xs → Pairwise R ys → AllByRecursion (λ x. AllByRecursion (R x) ys) xs → Pairwise R (xs ++ ys)
pairs-append R [] ys left right across = right
pairs-append R (x ∷ xs) ys left right across = (all-append (R x) xs ys left.0 across.0, pairs-append R xs ys left.1 right across.1)

pub pairs-filter : {A : Type 0} (R : A → A → Type 0) (p : A → Bool) (xs : List A) → Pairwise R xs → Pairwise R (filter p xs)
pairs-filter R p [] pairs = tt
pairs-filter R p (x ∷ xs) pairs = here (p x) (pairs-filter R p xs pairs.1)
  where
    here : (passes : Bool) → Pairwise R (filter p xs) → Pairwise R (cond passes (x ∷ filter p xs) (filter p xs))
    here true rest = (all-filter (R x) p xs pairs.0, rest)
    here false rest = rest

pub pairs-drop : {A : Type 0} (R : A → A → Type 0) (n : ℕ) (xs : List A) → Pairwise R xs → Pairwise R (drop n xs)
pairs-drop R zero xs pairs = pairs
pairs-drop R (suc n) [] pairs = tt
pairs-drop R (suc n) (x ∷ xs) pairs = pairs-drop R n xs pairs.1

without_pairs : {A : Type 0} (here : Bool) (R : A → A → Type 0) (x : A) (xs ys : List A) → Pairwise R xs → AllByRecursion (R x) ys → Pairwise R ys → Pairwise R (cond here xs (x ∷ ys))
without_pairs true R x xs ys old all new = old
without_pairs false R x xs ys old all new = (all, new)

pub pairs-without : {A : Type 0} (R : A → A → Type 0) (is : A → Bool) (xs : List A) → Pairwise R xs → Pairwise R (without is xs)
pairs-without R is [] pairs = tt
pairs-without R is (x ∷ xs) pairs = without_pairs (is x) R x xs (without is xs) pairs.1 (all_without (R x) is xs pairs.0) (pairs-without R is xs pairs.1)

pub pairs-map : {A B : Type 0} (R : A → A → Type 0) (S : B → B → Type 0) (f : A → B) (xs : List A) → ((x y : A) → R x y → S (f x) (f y)) → Pairwise R xs → Pairwise S (map f xs)
pairs-map R S f [] kept pairs = tt
pairs-map R S f (x ∷ xs) kept pairs = (later xs pairs.0, pairs-map R S f xs kept pairs.1)
  where
    later : (ys : List _) → AllByRecursion (R x) ys → AllByRecursion (S (f x)) (map f ys)
    later [] all = tt
    later (y ∷ ys) all = (kept x y all.0, later ys all.1)

-- a change that keeps the relation on both sides, of one entry
module _ {A : Type 0} (R : A → A → Type 0) (is : A → Bool) (change : A → A) (first : (x y : A) → R x y → R (change x) y) (second : (x y : A) → R x y → R x (change y)) where
  changed_all : (here : Bool) (z x : A) (xs ys : List A) → R z x → AllByRecursion (R z) xs → AllByRecursion (R z) ys → AllByRecursion (R z) (cond here (change x ∷ xs) (x ∷ ys))
  changed_all true z x xs ys one old new = (second z x one, old)
  changed_all false z x xs ys one old new = (one, new)

  all_second : (z : A) (xs : List A) → AllByRecursion (R z) xs → AllByRecursion (R z) (changed is change xs)
  all_second z [] all = tt
  all_second z (x ∷ xs) all = changed_all (is x) z x xs (changed is change xs) all.0 all.1 (all_second z xs all.1)

  all_first : (x : A) (xs : List A) → AllByRecursion (R x) xs → AllByRecursion (R (change x)) xs
  all_first x [] all = tt
  all_first x (y ∷ xs) all = (first x y all.0, all_first x xs all.1)

  changed_pairs : (here : Bool) (x : A) (xs ys : List A) → AllByRecursion (R x) xs → Pairwise R xs → (here ≡ false → AllByRecursion (R x) ys) → Pairwise R ys → Pairwise R (cond here (change x ∷ xs) (x ∷ ys))
  changed_pairs true x xs ys all old across new = (all_first x xs all, old)
  changed_pairs false x xs ys all old across new = (across refl, new)

  pub pairs-changed : (xs : List A) → Pairwise R xs → Pairwise R (changed is change xs)
  pairs-changed [] pairs = tt
  pairs-changed (x ∷ xs) pairs = changed_pairs (is x) x xs (changed is change xs) pairs.0 pairs.1 (λ _. all_second x xs pairs.0) (pairs-changed xs pairs.1)

  -- and one at the end, where no other passes
  module _ (new : A) (apart : (x : A) → is x ≡ false → R x new) where
    all_or_new : (z : A) (xs : List A) → R z new → AllByRecursion (R z) xs → AllByRecursion (R z) (changed_or_added is change new xs)
    all_or_new z [] last all = (last, tt)
    all_or_new z (x ∷ xs) last all = changed_all (is x) z x xs (changed_or_added is change new xs) all.0 all.1 (all_or_new z xs last all.1)

    pub pairs-added : (xs : List A) → Pairwise R xs → Pairwise R (changed_or_added is change new xs)
    pairs-added [] pairs = (tt, tt)
    pairs-added (x ∷ xs) pairs =
        changed_pairs (is x) x xs (changed_or_added is change new xs) pairs.0 pairs.1 (λ fails. all_or_new x xs (apart x fails) pairs.0) (pairs-added xs pairs.1)

-- in words of the library

pub to_distinct : {A K : Type 0} (same : K → K → Bool) (f : A → K) (xs : List A) → Pairwise (λ x y. same (f x) (f y) ≡ false) xs → IsDistinct same (map f xs)
unfolding IsDistinct
to_distinct same f [] pairs = tt
to_distinct same f (x ∷ xs) pairs = (all-map (λ k. same (f x) k ≡ false) f xs pairs.0, to_distinct same f xs pairs.1)

pub all_distinct : {A : Type 0} (same : A → A → Bool) (xs : List A) → Pairwise (λ x y. same x y ≡ false) xs → IsDistinct same xs
unfolding IsDistinct
all_distinct same [] pairs = tt
all_distinct same (x ∷ xs) pairs = (pairs.0, all_distinct same xs pairs.1)

out_of_map : {A B : Type 0} (P : B → Type 0) (f : A → B) (xs : List A) → AllByRecursion P (map f xs) → AllByRecursion (λ x. P (f x)) xs
out_of_map P f [] all = tt
out_of_map P f (x ∷ xs) all = (all.0, out_of_map P f xs all.1)

pub from_distinct_map : {A K : Type 0} (same : K → K → Bool) (f : A → K) (xs : List A) → IsDistinct same (map f xs) → Pairwise (λ x y. same (f x) (f y) ≡ false) xs
unfolding IsDistinct
from_distinct_map same f [] pairs = tt
from_distinct_map same f (x ∷ xs) pairs = (out_of_map (λ k. same (f x) k ≡ false) f xs pairs.0, from_distinct_map same f xs pairs.1)

pub from_distinct : {A : Type 0} (same : A → A → Bool) (xs : List A) → IsDistinct same xs → Pairwise (λ x y. same x y ≡ false) xs
unfolding IsDistinct
from_distinct same [] pairs = tt
from_distinct same (x ∷ xs) pairs = (pairs.0, from_distinct same xs pairs.1)

less : (a b : ℕ) → a < b → nat_cmp a b ≡ Less
less a b below = grind (arith, nat_tests)

pub to_rising : {A : Type 0} (f : A → ℕ) (xs : List A) → Pairwise (λ x y. f x < f y) xs → IsStrictlySortedBy nat_cmp (map f xs)
unfolding IsStrictlySortedBy
to_rising f [] pairs = tt
to_rising f (x ∷ xs) pairs =
    (all-map (λ n. nat_cmp (f x) n ≡ Less) f xs (all_wider (λ y. f x < f y) (λ y. nat_cmp (f x) (f y) ≡ Less) xs (λ y below. less (f x) (f y) below) pairs.0), to_rising f xs pairs.1)

none_first : {A : Type 0} (here later : Bool) (is : A → Bool) (x : A) (xs : List A) → is x ≡ here → (later ≡ false → AllByRecursion (λ y. is y ≡ false) xs)
    → (here || later) ≡ false → AllByRecursion (λ y. is y ≡ false) (x ∷ xs)
none_first true later is x xs test rest none = absurd (cc)
none_first false later is x xs test rest none = (test, rest none)

-- where none passes, each fails
pub all_fail_any : {A : Type 0} (is : A → Bool) (xs : List A) → list_any is xs ≡ false → AllByRecursion (λ y. is y ≡ false) xs
all_fail_any is [] none = tt
all_fail_any is (x ∷ xs) none = none_first (is x) (list_any is xs) is x xs refl (all_fail_any is xs) none

some_first : {A : Type 0} (here later : Bool) (is : A → Bool) (x : A) (xs : List A) → is x ≡ here → (later ≡ true → (y : A) × IsIn y xs × (is y ≡ true)) → (here || later) ≡ true
    → (y : A) × IsIn y (x ∷ xs) × (is y ≡ true)
some_first true later is x xs test rest some = (x, inl refl, test)
some_first false later is x xs test rest some = let found = rest some in (found.0, inr found.1, found.2)

-- where one passes, it is one of them
pub one_passes : {A : Type 0} (is : A → Bool) (xs : List A) → list_any is xs ≡ true → (y : A) × IsIn y xs × (is y ≡ true)
one_passes is [] some = absurd (cc)
one_passes is (x ∷ xs) some = some_first (is x) (list_any is xs) is x xs refl (one_passes is xs) some

pub filter_in : {A : Type 0} (p : A → Bool) (x : A) (xs : List A) → IsIn x (filter p xs) → IsIn x xs × (p x ≡ true)
filter_in p x [] there = absurd there
filter_in p x (y ∷ xs) there = here (p y) refl there (filter_in p x xs)
  where
    here : (b : Bool) → p y ≡ b → IsIn x (cond b (y ∷ filter p xs) (filter p xs)) → (IsIn x (filter p xs) → IsIn x xs × (p x ≡ true)) → IsIn x (y ∷ xs) × (p x ≡ true)
    here true is (inl same) later = (inl same, ap p same ∙ is)
    here true is (inr there) later = let rest = later there in (inr rest.0, rest.1)
    here false is there later = let rest = later there in (inr rest.0, rest.1)
