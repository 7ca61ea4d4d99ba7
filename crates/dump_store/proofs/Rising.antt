-- Where the dump of a number is, among dumps whose numbers rise.
use Rattle.std.proofs.Common.{◌≡◌, ◌<◌, ◌≤◌, ℕ, Bool, true, false, cond, nat_lt, ◌==◌, List, [], ◌∷◌, ◌++◌, length, map, get_or, Some, None, Result, Ok, Err, position, refl, sym, subst, arith}
use Rattle.std.specs.List.{AllByRecursion, position_or_len}
use Rattle.std.specs.Result.{result_ok}
use Rattle.std.specs.List.Sorted.{IsBinarySearchResult, IsNonDecreasingBy, IsSearchInRange, IsStrictlySortedBy}
use Rattle.std.specs.Ordering.{nat_cmp, ordering_index}
use Rattle.std.specs.declared.cmp.Ordering.{Ordering}
use Rattle.std.specs.declared.cmp.Ordering.TheVariants.{Less, Equal, Greater}
use Rattle.std.proofs.lemmas.Bool.Decides.{nat_tests}
use Rattle.std.proofs.lemmas.List.{get_or-map, length-map}
use Rattle.std.proofs.lemmas.List.Sums.{position_or_len_is}
use Rattle.std.proofs.lemmas.Map.Keys.{Less-from_sorted}
use Rattle.stored_types.specs.declared.message.Dump.{Dump}
use Rattle.base_types.specs.Lists.{without}
use Rattle.dump_store.specs.Dumps.{AreRising, is_dump}

abbrev number : Dump → ℕ
number d = d.no

blank : Dump
blank = record { no = 0; bot = []; message = record { no = 0; body = [] }; note = record { code = 0; text = [] }; moment = record { 0 = 0 } }

below : (a b : ℕ) → nat_cmp a b ≡ Less → a < b
below a b less = grind (arith, nat_tests)

same : (a b : ℕ) → nat_cmp a b ≡ Equal → a ≡ b
same a b equal = grind (arith, nat_tests)

above : (a b : ℕ) → nat_cmp a b ≡ Greater → b < a
above a b greater = grind (arith, nat_tests)

less_of : (a b : ℕ) → a < b → nat_cmp a b ≡ Less
less_of a b less = grind (arith, nat_tests)

differs : (a b : ℕ) → a < b → (a == b) ≡ false
differs a b less = grind (arith, nat_tests)

differs_above : (a b : ℕ) → b < a → (a == b) ≡ false
differs_above a b more = grind (arith, nat_tests)

equals : (a b : ℕ) → a ≡ b → (a == b) ≡ true
equals a b e = grind (arith, nat_tests)

-- the answers for a number rise with the numbers
index_rises : (a b n : ℕ) → a ≤ b → ordering_index (nat_cmp a n) ≤ ordering_index (nat_cmp b n)
index_rises a b n le = either (nat_cmp a n) (nat_cmp b n) refl refl
  where
    either : (r s : Ordering) → nat_cmp a n ≡ r → nat_cmp b n ≡ s → ordering_index r ≤ ordering_index s
    either Less s x y = omega arith
    either Equal Less x y = absurd (omega (arith, le, same a n x, below b n y))
    either Equal Equal x y = omega arith
    either Equal Greater x y = omega arith
    either Greater Less x y = absurd (omega (arith, le, above a n x, below b n y))
    either Greater Equal x y = absurd (omega (arith, le, above a n x, same b n y))
    either Greater Greater x y = omega arith

rises : (dumps : List Dump) (i j : ℕ) (d : Dump) → AreRising dumps → i < j → j < length dumps → (get_or dumps i d).no < (get_or dumps j d).no
rises dumps i j d rising order inside =
    let less = Less-from_sorted nat_cmp (map number dumps) i j d.no rising order (omega (arith, inside, length-map dumps number)) in
    let first : get_or (map number dumps) i d.no ≡ (get_or dumps i d).no = get_or-map number dumps i d d.no (omega (arith, order, inside)) in
    let later : get_or (map number dumps) j d.no ≡ (get_or dumps j d).no = get_or-map number dumps j d d.no inside in
    below (get_or dumps i d).no (get_or dumps j d).no (subst (λ n. nat_cmp (get_or dumps i d).no n ≡ Less) later (subst (λ n. nat_cmp n (get_or (map number dumps) j d.no) ≡ Less) first less))

do_not_fall : (wanted : ℕ) (dumps : List Dump) → AreRising dumps → IsNonDecreasingBy (λ d. ordering_index (nat_cmp d.no wanted)) dumps
do_not_fall wanted dumps rising i j d order inside = either (nat_lt i j) refl
  where
    either : (b : Bool) → nat_lt i j ≡ b → ordering_index (nat_cmp (get_or dumps i d).no wanted) ≤ ordering_index (nat_cmp (get_or dumps j d).no wanted)
    either true test = index_rises _ _ wanted (omega (arith, rises dumps i j d rising (grind (arith, nat_tests)) inside))
    either false test = let e : i ≡ j = grind (arith, nat_tests) in rw e (omega arith)

found_at : {A : Type 0} (p : A → Bool) (xs : List A) (i : ℕ) → position_or_len p xs ≡ i → i < length xs → position p xs ≡ Some i
found_at p xs i e inside = rw e (let test : nat_lt i (length xs) ≡ true = grind (arith, nat_tests) in rw test refl)

found_nowhere : {A : Type 0} (p : A → Bool) (xs : List A) → position_or_len p xs ≡ length xs → position p xs ≡ None
found_nowhere p xs e = rw e (let test : nat_lt (length xs) (length xs) ≡ false = grind (arith, nat_tests) in rw test refl)

-- what a binary search finds is the place of the number
pub searched : (wanted : ℕ) (dumps : List Dump) (r : Result ℕ ℕ) → AreRising dumps → IsSearchInRange r (length dumps) → IsBinarySearchResult (λ d. nat_cmp d.no wanted) dumps r → result_ok r ≡ position (is_dump wanted) dumps
searched wanted dumps (Ok i) rising inside here = sym (found_at (is_dump wanted) dumps i (position_or_len_is (is_dump wanted) dumps i blank (omega (arith, inside)) before at) inside)
  where
    before : (k : ℕ) → k < i → is_dump wanted (get_or dumps k blank) ≡ false
    before k less = differs (get_or dumps k blank).no wanted (omega (arith, rises dumps k i blank rising less inside, same (get_or dumps i blank).no wanted (here blank)))

    at : i < length dumps → is_dump wanted (get_or dumps i blank) ≡ true
    at _ = equals (get_or dumps i blank).no wanted (same (get_or dumps i blank).no wanted (here blank))
searched wanted dumps (Err i) rising inside parted = sym (found_nowhere (is_dump wanted) dumps (position_or_len_is (is_dump wanted) dumps (length dumps) blank (omega arith) fails (λ within. absurd (omega (arith, within)))))
  where
    fails : (k : ℕ) → k < length dumps → is_dump wanted (get_or dumps k blank) ≡ false
    fails k within = either (nat_lt k i) refl
      where
        either : (b : Bool) → nat_lt k i ≡ b → is_dump wanted (get_or dumps k blank) ≡ false
        either true test =
            let before : k < i = grind (arith, nat_tests) in
            differs (get_or dumps k blank).no wanted (below (get_or dumps k blank).no wanted ((parted (do_not_fall wanted dumps rising)).0 k blank (omega arith) before))
        either false test =
            let behind : i ≤ k = grind (arith, nat_tests) in
            differs_above (get_or dumps k blank).no wanted (above (get_or dumps k blank).no wanted ((parted (do_not_fall wanted dumps rising)).1 k blank behind within))

pub rising_none : AreRising []
unfolding IsStrictlySortedBy
rising_none = tt

-- a dump with a number above all others
pub rising_pushed : (dumps : List Dump) (new : Dump) → AreRising dumps → AllByRecursion (λ d. d.no < new.no) dumps → AreRising (dumps ++ new ∷ [])
unfolding IsStrictlySortedBy
rising_pushed [] new rising all = (tt, tt)
rising_pushed (d ∷ dumps) new rising all = (behind dumps rising.0 all.0, rising_pushed dumps new rising.1 all.1)
  where
    behind : (more : List Dump) → AllByRecursion (λ n. nat_cmp d.no n ≡ Less) (map number more) → d.no < new.no → AllByRecursion (λ n. nat_cmp d.no n ≡ Less) (map number (more ++ new ∷ []))
    behind [] all less = (less_of d.no new.no less, tt)
    behind (m ∷ more) all less = (all.0, behind more all.1 less)

-- one that is taken out
pub rising_without : (is : Dump → Bool) (dumps : List Dump) → AreRising dumps → AreRising (without is dumps)
unfolding IsStrictlySortedBy
rising_without is [] rising = tt
rising_without is (d ∷ dumps) rising = either (is d) (rising_without is dumps rising.1)
  where
    fewer : (more : List Dump) → AllByRecursion (λ n. nat_cmp d.no n ≡ Less) (map number more) → AllByRecursion (λ n. nat_cmp d.no n ≡ Less) (map number (without is more))
    fewer [] all = tt
    fewer (m ∷ more) all = cut (is m) (fewer more all.1)
      where
        cut : (b : Bool) → AllByRecursion (λ n. nat_cmp d.no n ≡ Less) (map number (without is more)) → AllByRecursion (λ n. nat_cmp d.no n ≡ Less) (map number (cond b more (m ∷ without is more)))
        cut true later = all.1
        cut false later = (all.0, later)

    either : (b : Bool) → AreRising (without is dumps) → AreRising (cond b dumps (d ∷ without is dumps))
    either true later = rising.1
    either false later = (fewer dumps rising.0, later)
