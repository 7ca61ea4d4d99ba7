-- Lists without repeats, and lists of numbers in order.
use Rattle.std.proofs.Common.{◌≡◌, ℕ, zero, suc, ◌+◌, ◌<◌, ◌≤◌, ◌==◌, ◌&&◌, ◌||◌, eqb, Bor, Bool, true, false, not, nat_le, nat_lt, List, [], ◌∷◌, drop, length, map, get_or, refl, sym, ◌∙◌, ap, subst, arith}
use Rattle.std.specs.Bool.{Decides}
use Rattle.std.specs.Cmp.{IsTotalOrder, on_total, unsigned_ties}
use Rattle.std.specs.Cmp.Lexicographic.{slice_cmp, nat_list_cmp_total, nat_list_eq_equiv}
use Rattle.std.specs.List.{AllByRecursion, IsAllAdjacentAnswer, AllAdjacentBelow, All, IsDistinct, list_all, list_any}
use Rattle.std.specs.List.Sorted.{IsPermutation, IsSorted, IsStrictlySortedBy}
use Rattle.std.specs.declared.cmp.Ordering.{Ordering}
use Rattle.std.specs.declared.cmp.Ordering.TheVariants.{Less, Equal, Greater}
use Rattle.std.specs.Ordering.{eq_by_cmp, is_lt, is_eq, nat_cmp, ordering_reverse}
use Rattle.std.specs.Str.{bytes_eq}
use Rattle.std.proofs.lemmas.Bool.Decides.{Decides-and, Decides-eqb, Decides-like, Decides-ltb, same_from_decides, nat_tests}
use Rattle.std.proofs.lemmas.List.Sorted.{All-permutation, IsNonDecreasingBy-from_sort, IsPermutation-sym}
use Rattle.std.proofs.lemmas.Map.Keys.{apart_from_distinct, IsDistinct-from_sorted, IsDistinct-IsPermutation, IsStrictlyIncreasing-from_distinct, sorted_from_all_adjacent, sorted_from_strictly_increasing}
use Rattle.std.proofs.lemmas.Map.Text.{is_eq-slice_cmp}
use Rattle.sound_states.specs.SoundTests.{are_distinct, do_not_fall, hand_key, rise}
use Rattle.step_code.specs.Sound.{is_same_hand}
use Rattle.step_code.proofs.Lists.{any_map}
use Rattle.stored_types.specs.declared.hand.Hand.{Hand}
use Rattle.std.proofs.lemmas.Slice.Eq.{bytes_eq-Decides}

clash : {P : Type 0} → true ≡ false → P
clash e = absurd (cc)

-- no item is the same as x exactly if the search for one fails
pub apart_Decides : {A : Type 0} (same : A → A → Bool) (x : A) (xs : List A) → Decides (not (list_any (same x) xs)) (AllByRecursion (λ y. same x y ≡ false) xs)
apart_Decides same x [] = (λ _. tt, λ _. refl)
apart_Decides same x (y ∷ ys) = either (same x y) (list_any (same x) ys) refl (apart_Decides same x ys)
  where
    either : (here later : Bool) → same x y ≡ here → Decides (not later) (AllByRecursion (λ y. same x y ≡ false) ys)
        → (not (same x y || later) ≡ true → (same x y ≡ false) × AllByRecursion (λ y. same x y ≡ false) ys) × ((same x y ≡ false) × AllByRecursion (λ y. same x y ≡ false) ys → not (same x y || later) ≡ true)
    either true later is rest = rw is ((λ e. clash (sym e), λ all. clash all.0))
    either false later is rest = rw is ((λ e. (refl, rest.0 e), λ all. rest.1 all.1))

pub distinct_Decides : {A : Type 0} (same : A → A → Bool) (xs : List A) → Decides (are_distinct same xs) (IsDistinct same xs)
unfolding IsDistinct
distinct_Decides same [] = (λ _. tt, λ _. refl)
distinct_Decides same (x ∷ xs) = Decides-and (not (list_any (same x) xs)) (are_distinct same xs) (apart_Decides same x xs) (distinct_Decides same xs)

pub each_weaker : {A : Type 0} (P Q : A → Type 0) → ((x : A) → P x → Q x) → (xs : List A) → AllByRecursion P xs → AllByRecursion Q xs
each_weaker P Q f [] all = tt
each_weaker P Q f (x ∷ xs) all = (f x all.0, each_weaker P Q f xs all.1)

less_below : (a b : ℕ) → a < b → nat_cmp a b ≡ Less
less_below a b below = grind (arith, nat_tests)

below_less : (a b : ℕ) → nat_cmp a b ≡ Less → a < b
below_less a b less = grind (arith, nat_tests)

-- numbers rise from n on exactly if each is above n and below those after it
pub rise_Decides : (n : ℕ) (ms : List ℕ) → Decides (rise n ms) (AllByRecursion (λ m. n < m) ms × IsStrictlySortedBy nat_cmp ms)
unfolding IsStrictlySortedBy
rise_Decides n [] = (λ _. (tt, tt), λ _. refl)
rise_Decides n (m ∷ ms) = Decides-like (rise n (m ∷ ms)) to from (Decides-and (nat_lt n m) (rise m ms) (Decides-ltb n m) (rise_Decides m ms))
  where
    to : (n < m) × (AllByRecursion (λ k. m < k) ms × IsStrictlySortedBy nat_cmp ms) → AllByRecursion (λ k. n < k) (m ∷ ms) × IsStrictlySortedBy nat_cmp (m ∷ ms)
    to (above, (all, sorted)) = (
      (above, each_weaker (λ k. m < k) (λ k. n < k) (λ k over. omega (arith, above, over)) ms all),
      (each_weaker (λ k. m < k) (λ k. nat_cmp m k ≡ Less) (λ k over. less_below m k over) ms all, sorted),
    )

    from : AllByRecursion (λ k. n < k) (m ∷ ms) × IsStrictlySortedBy nat_cmp (m ∷ ms) → (n < m) × (AllByRecursion (λ k. m < k) ms × IsStrictlySortedBy nat_cmp ms)
    from (above, sorted) = (above.0, (each_weaker (λ k. nat_cmp m k ≡ Less) (λ k. m < k) (λ k less. below_less m k less) ms sorted.0, sorted.1))

pub Decides-le : (a b : ℕ) → Decides (nat_le a b) (a ≤ b)
Decides-le a b = (λ e. grind (arith, nat_tests), λ below. grind (arith, nat_tests))

not_less : (a b : ℕ) → b ≤ a → is_lt (nat_cmp a b) ≡ false
not_less a b up = grind (arith, nat_tests)

less_not : (a b : ℕ) → is_lt (nat_cmp a b) ≡ false → b ≤ a
less_not a b e = grind (arith, nat_tests)

later : (k : ℕ) → suc (k + 1) ≡ suc k + 1
later k = omega arith

-- numbers don't fall from n on exactly if the list with n in front is in order
pub falls_Decides : (n : ℕ) (ms : List ℕ) → Decides (do_not_fall n ms) (IsSorted nat_cmp (n ∷ ms))
falls_Decides n [] = (λ _ k d least inside. absurd (omega (arith, inside)), λ _. refl)
falls_Decides n (m ∷ ms) = Decides-like (do_not_fall n (m ∷ ms)) to from (Decides-and (nat_le n m) (do_not_fall m ms) (Decides-le n m) (falls_Decides m ms))
  where
    to : (n ≤ m) × IsSorted nat_cmp (m ∷ ms) → IsSorted nat_cmp (n ∷ m ∷ ms)
    to (up, sorted) zero d least inside = not_less m n up
    to (up, sorted) (suc k) d least inside = subst (λ j. is_lt (nat_cmp (get_or (n ∷ m ∷ ms) j d) (get_or (m ∷ ms) k d)) ≡ false) (later k) (sorted k d (omega arith) (omega (arith, inside)))

    from : IsSorted nat_cmp (n ∷ m ∷ ms) → (n ≤ m) × IsSorted nat_cmp (m ∷ ms)
    from sorted = (less_not m n (sorted 0 n (omega arith) (omega arith)), λ k d least inside. subst (λ j. is_lt (nat_cmp (get_or (n ∷ m ∷ ms) j d) (get_or (m ∷ ms) k d)) ≡ false) (sym (later k)) (sorted (suc k) d (omega arith) (omega (arith, inside))))

-- with 0 in front nothing changes
pub order_Decides : (ms : List ℕ) → Decides (do_not_fall 0 ms) (IsSorted nat_cmp ms)
order_Decides [] = (λ _ k d least inside. absurd (omega (arith, inside)), λ _. refl)
order_Decides (m ∷ ms) = Decides-like (do_not_fall 0 (m ∷ ms)) (λ both. both.1) (λ sorted. (omega arith, sorted)) (Decides-and (nat_le 0 m) (do_not_fall m ms) (Decides-le 0 m) (falls_Decides m ms))

same_ties : (x y : ℕ) → eq_by_cmp nat_cmp x y ≡ (x == y)
same_ties x y = sym (unsigned_ties x y)

flips : (x y : ℕ) → (x == y) ≡ (y == x)
flips x y = grind (arith, nat_tests)

each_place : {A : Type 0} (P : A → Type 0) (xs : List A) → AllByRecursion P xs → All P xs
each_place P [] all k d inside = absurd (omega (arith, inside))
each_place P (x ∷ xs) all zero d inside = all.0
each_place P (x ∷ xs) all (suc k) d inside = each_place P xs all.1 k d (omega (arith, inside))

from_places : {A : Type 0} (P : A → Type 0) (xs : List A) → All P xs → AllByRecursion P xs
from_places P [] all = tt
from_places P (x ∷ xs) all = (all 0 x (omega arith), from_places P xs (λ k d inside. all (suc k) d (omega (arith, inside))))

each_permuted : {A : Type 0} (P : A → Type 0) (xs ys : List A) → IsPermutation xs ys → AllByRecursion P xs → AllByRecursion P ys
each_permuted P xs ys moved all = from_places P ys (All-permutation P xs ys moved (each_place P xs all))

-- numbers that were sorted rise from 0 on exactly if they were above 0 and differed
pub numbers_Decides : (xs ys : List ℕ) → IsPermutation xs ys → IsSorted nat_cmp ys → Decides (rise 0 ys) (AllByRecursion (λ n. 0 < n) xs × IsDistinct eqb xs)
numbers_Decides xs ys moved sorted = Decides-like (rise 0 ys) to from (rise_Decides 0 ys)
  where
    to : AllByRecursion (λ n. 0 < n) ys × IsStrictlySortedBy nat_cmp ys → AllByRecursion (λ n. 0 < n) xs × IsDistinct eqb xs
    to (above, rising) =
        let differ : IsDistinct eqb ys = subst (λ same. IsDistinct same ys) (λ i x y. same_ties x y i) (IsDistinct-from_sorted nat_cmp ys rising) in
        (each_permuted (λ n. 0 < n) ys xs (IsPermutation-sym xs ys moved) above, IsDistinct-IsPermutation eqb flips ys xs (IsPermutation-sym xs ys moved) differ)

    from : AllByRecursion (λ n. 0 < n) xs × IsDistinct eqb xs → AllByRecursion (λ n. 0 < n) ys × IsStrictlySortedBy nat_cmp ys
    from (above, differ) =
        (each_permuted (λ n. 0 < n) xs ys moved above, sorted_from_strictly_increasing ys (IsStrictlyIncreasing-from_distinct ys (IsNonDecreasingBy-from_sort (λ n. n) ys sorted) (IsDistinct-IsPermutation eqb flips xs ys moved differ)))

pub all_above : (xs : List ℕ) → Decides (list_all (λ n. nat_lt 0 n) xs) (AllByRecursion (λ n. 0 < n) xs)
all_above [] = (λ _. tt, λ _. refl)
all_above (x ∷ xs) = Decides-and (nat_lt 0 x) (list_all (λ n. nat_lt 0 n) xs) (Decides-ltb 0 x) (all_above xs)

pub rises_as : (xs ys : List ℕ) → IsPermutation xs ys → IsSorted nat_cmp ys → rise 0 ys ≡ (list_all (λ n. nat_lt 0 n) xs && are_distinct eqb xs)
rises_as xs ys moved sorted =
    same_from_decides (rise 0 ys) (list_all (λ n. nat_lt 0 n) xs && are_distinct eqb xs) (numbers_Decides xs ys moved sorted)
    (Decides-and (list_all (λ n. nat_lt 0 n) xs) (are_distinct eqb xs) (all_above xs) (distinct_Decides eqb xs))

-- sorted items of which each is below the next differ, and no others do
module _ {K : Type 0} (R : K → K → Ordering) (o : IsTotalOrder R) where
  next_less : (r : Ordering) → true ≡ is_lt r → r ≡ Less
  next_less Less e = refl
  next_less Equal e = clash e
  next_less Greater e = clash e

  tied : (r s : Ordering) → s ≡ ordering_reverse r → false ≡ is_lt r → is_lt s ≡ false → is_eq r ≡ true
  tied Less s turned not_less not_greater = clash (sym not_less)
  tied Equal s turned not_less not_greater = refl
  tied Greater s turned not_less not_greater = clash (ap is_lt (sym turned) ∙ not_greater)

  all_rise : (ys : List K) → AllAdjacentBelow (λ x y. true ≡ is_lt (R x y)) ys (length ys) → IsStrictlySortedBy R ys
  unfolding IsStrictlySortedBy
  all_rise [] rising = tt
  all_rise (y ∷ ys) rising = sorted_from_all_adjacent o (y ∷ ys) y (λ k inside. next_less _ (rising k y inside))

  pub sorted_Decides : (ys : List K) (r : Bool) → IsSorted R ys → IsAllAdjacentAnswer (λ x y b. b ≡ is_lt (R x y)) ys r → Decides r (IsDistinct (eq_by_cmp R) ys)
  sorted_Decides ys true sorted answer = (λ _. IsDistinct-from_sorted R ys (all_rise ys answer), λ _. refl)
  sorted_Decides [] false sorted (k, inside, fails) = absurd (omega (arith, inside))
  sorted_Decides (y ∷ ys) false sorted (k, inside, fails) = (λ e. clash (sym e), λ differ. absurd (same differ))
    where
      same : IsDistinct (eq_by_cmp R) (y ∷ ys) → ⊥
      same differ =
          let a : K = get_or (y ∷ ys) k y in
          let b : K = get_or (y ∷ ys) (k + 1) y in
          clash (sym (tied (R a b) (R b a) (o.antisymm b a) (fails y) (sorted k y (omega arith) inside)) ∙ apart_from_distinct (eq_by_cmp R) (y ∷ ys) k (k + 1) y differ (omega arith) inside)

distinct_map : {A B : Type 0} (f : A → B) (same : B → B → Bool) (xs : List A) → are_distinct same (map f xs) ≡ are_distinct (λ x y. same (f x) (f y)) xs
distinct_map f same [] = refl
distinct_map f same (x ∷ xs) = λ i. not (any_map f (same (f x)) xs i) && distinct_map f same xs i

-- names that were sorted by their bytes
pub names_Decides : (xs ys : List (Bor (List ℕ))) (r : Bool) → IsPermutation xs ys → IsSorted (λ x y. slice_cmp nat_cmp x.now y.now) ys → IsAllAdjacentAnswer (λ x y b. b ≡ is_lt (slice_cmp nat_cmp x.now y.now)) ys r
    → r ≡ are_distinct bytes_eq (map (λ x. x.now) xs)
names_Decides xs ys r moved sorted answer =
    same_from_decides r (are_distinct same xs) (Decides-like r back forth (sorted_Decides R o ys r sorted answer)) (distinct_Decides same xs) ∙ sym (distinct_map (λ (x : Bor (List ℕ)). x.now) bytes_eq xs)
  where
    R : Bor (List ℕ) → Bor (List ℕ) → Ordering
    R x y = slice_cmp nat_cmp x.now y.now

    same : Bor (List ℕ) → Bor (List ℕ) → Bool
    same x y = bytes_eq x.now y.now

    o : IsTotalOrder R
    o = on_total (λ (x : Bor (List ℕ)). x.now) nat_list_cmp_total

    alike : eq_by_cmp R ≡ same
    alike = λ i x y. is_eq-slice_cmp x.now y.now i

    turns : (x y : Bor (List ℕ)) → same x y ≡ same y x
    turns x y = nat_list_eq_equiv.symm x.now y.now

    back : IsDistinct (eq_by_cmp R) ys → IsDistinct same xs
    back differ = IsDistinct-IsPermutation same turns ys xs (IsPermutation-sym xs ys moved) (subst (λ e. IsDistinct e ys) alike differ)

    forth : IsDistinct same xs → IsDistinct (eq_by_cmp R) ys
    forth differ = subst (λ e. IsDistinct e ys) (sym alike) (IsDistinct-IsPermutation same turns xs ys moved differ)

-- hands are one instance's exactly if their keys are the same
key_Decides : (x y : Hand) → Decides (bytes_eq (hand_key x) (hand_key y)) ((x.instance ≡ y.instance) × (x.bot ≡ y.bot))
key_Decides x y = Decides-like (bytes_eq (hand_key x) (hand_key y)) (λ e. (ap (head 0) e, ap (drop 1) e)) (λ both. λ i. both.0 i ∷ both.1 i) (bytes_eq-Decides (hand_key x) (hand_key y))
  where
    head : ℕ → List ℕ → ℕ
    head d [] = d
    head d (n ∷ ns) = n

hand_Decides : (x y : Hand) → Decides (is_same_hand x y) ((x.instance ≡ y.instance) × (x.bot ≡ y.bot))
hand_Decides x y =
    Decides-like (is_same_hand x y) (λ both. (sym both.1, sym both.0)) (λ both. (sym both.1, sym both.0))
    (Decides-and (bytes_eq y.bot x.bot) (y.instance == x.instance) (bytes_eq-Decides y.bot x.bot) (Decides-eqb y.instance x.instance))

same_key : (x y : Hand) → bytes_eq (hand_key x) (hand_key y) ≡ is_same_hand x y
same_key x y = same_from_decides (bytes_eq (hand_key x) (hand_key y)) (is_same_hand x y) (key_Decides x y) (hand_Decides x y)

pub keys_as : (hands : List Hand) → are_distinct bytes_eq (map hand_key hands) ≡ are_distinct is_same_hand hands
keys_as hands = distinct_map hand_key bytes_eq hands ∙ (λ i. are_distinct (λ x y. same_key x y i) hands)
