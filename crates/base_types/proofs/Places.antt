-- What a binary search finds among pairs in byte order of their names.
use Rattle.std.proofs.Common.{◌≡◌, ℕ, zero, suc, ◌<◌, ◌≤◌, List, [], ◌∷◌, ◌++◌, length, get_or, true, Result, Ok, Err, Ordering, Less, Equal, Greater, nat_cmp, refl, sym, ap, subst, ◌∙◌, arith}
use Rattle.std.specs.Ordering.{is_lt, ordering_index, ordering_reverse}
use Rattle.std.specs.Cmp.Lexicographic.{slice_cmp}
use Rattle.std.specs.FinMap.{is_sorted, slice_cmp-IsAntisymmetric, nat_cmp-IsAntisymmetric}
use Rattle.std.specs.FinMap.Entries.{below_all}
use Rattle.std.specs.List.Sorted.{IsSearchInRange, IsBinarySearchResult, IsNonDecreasingBy}
use Rattle.std.proofs.lemmas.Bool.{and_parts, and_from}
use Rattle.std.proofs.lemmas.Cmp.{nat_list_cmp_total}
use Rattle.base_types.specs.Place.{StandsAt, BelongsAt, IsPlace}

abbrev pub Key : Type 0
Key = List ℕ

abbrev pub order : Key → Key → Ordering
order = slice_cmp nat_cmp

pub less_of : (r : Ordering) → is_lt r ≡ true → r ≡ Less
less_of Less h = refl
less_of Equal h = absurd (cc)
less_of Greater h = absurd (cc)

pub lt_of : (r : Ordering) → r ≡ Less → is_lt r ≡ true
lt_of r e = ap is_lt e

pub same_key : (a b : Key) → order a b ≡ Equal → a ≡ b
same_key = slice_cmp-IsAntisymmetric nat_cmp-IsAntisymmetric

turned : (a b : Key) → order a b ≡ Greater → order b a ≡ Less
turned a b e = nat_list_cmp_total.antisymm b a ∙ ap ordering_reverse e

-- comparing with a key, a lower key answers no later among the three than a higher one
lower : (x y key : Key) (r : Ordering) → order x y ≡ Less → order y key ≡ r → ordering_index (order x key) ≤ ordering_index r
lower x y key Less less at = let below : order x key ≡ Less = nat_list_cmp_total.trans x y key less at in rw below (omega arith)
lower x y key Equal less at =
    let same : order x key ≡ Less = subst (λ k. order x k ≡ Less) (same_key y key at) less in rw same (omega arith)
lower x y key Greater less at = at_most (order x key)
  where
    at_most : (r : Ordering) → ordering_index r ≤ 2
    at_most Less = omega arith
    at_most Equal = omega arith
    at_most Greater = omega arith

abbrev pub PairsOf : Type 0 → Type 0
PairsOf X = List (Key × X)

module _ {X : Type 0} where
  below_at : (x key : Key) (value : X) (front back : PairsOf X) → below_all order x (front ++ (key, value) ∷ back) ≡ true → order x key ≡ Less
  below_at x key value [] back below = less_of _ (and_parts (is_lt (order x key)) (below_all order x back) below).0
  below_at x key value (e ∷ front) back below =
      below_at x key value front back (and_parts (is_lt (order x e.0)) (below_all order x (front ++ (key, value) ∷ back)) below).1

  below_here : (x : Key) (pairs : PairsOf X) (d : Key × X) (j : ℕ) → below_all order x pairs ≡ true → j < length pairs → order x (get_or pairs j d).0 ≡ Less
  below_here x [] d j below within = absurd (omega arith)
  below_here x (e ∷ es) d zero below within = less_of _ (and_parts (is_lt (order x e.0)) (below_all order x es) below).0
  below_here x (e ∷ es) d (suc j) below within =
      below_here x es d j (and_parts (is_lt (order x e.0)) (below_all order x es) below).1 (omega arith)

  -- the answers of a search for a key rise along the pairs
  rises : (key : Key) (pairs : PairsOf X) → is_sorted order pairs ≡ true → IsNonDecreasingBy (λ pair. ordering_index (order pair.0 key)) pairs
  rises key [] sorted i j d le within = absurd (omega arith)
  rises key (e ∷ es) sorted zero zero d le within = omega arith
  rises key (e ∷ es) sorted zero (suc j) d le within =
      let parts = and_parts (below_all order e.0 es) (is_sorted order es) sorted in
      lower e.0 (get_or es j d).0 key _ (below_here e.0 es d j parts.0 (omega arith)) refl
  rises key (e ∷ es) sorted (suc i) zero d le within = absurd (omega arith)
  rises key (e ∷ es) sorted (suc i) (suc j) d le within =
      rises key es (and_parts (below_all order e.0 es) (is_sorted order es) sorted).1 i j d (omega arith) (omega arith)

  -- a key that the search met
  stands : (key : Key) (pairs : PairsOf X) (i : ℕ) → is_sorted order pairs ≡ true → i < length pairs → ((d : Key × X) → order (get_or pairs i d).0 key ≡ Equal) → StandsAt key pairs i
  stands key [] i sorted within here = absurd (omega arith)
  stands key (e ∷ es) zero sorted within here =
      record { front = []; value = e.1; back = es; splits = ap (λ k. (k, e.1) ∷ es) (same_key e.0 key (here e)); place = refl; above = refl }
  stands key (e ∷ es) (suc i) sorted within here =
      let parts = and_parts (below_all order e.0 es) (is_sorted order es) sorted in
      let later = stands key es i parts.1 (omega arith) here in
      let below : order e.0 key ≡ Less = below_at e.0 key later.value later.front later.back (ap (below_all order e.0) (sym later.splits) ∙ parts.0) in
      record {
        front = e ∷ later.front;
        value = later.value;
        back = later.back;
        splits = ap (λ (t : PairsOf X). e ∷ t) later.splits;
        place = ap suc later.place;
        above = and_from _ _ (lt_of _ below) later.above;
      }

  all_below : (key : Key) (pairs : PairsOf X) → ((j : ℕ) (d : Key × X) → j < length pairs → order (get_or pairs j d).0 key ≡ Greater) → below_all order key pairs ≡ true
  all_below key [] greater = refl
  all_below key (e ∷ es) greater =
      and_from _ _ (lt_of _ (turned e.0 key (greater 0 e (omega arith)))) (all_below key es (λ j d within. greater (suc j) d (omega arith)))

  -- a key that the search didn't meet
  belongs : (key : Key) (pairs : PairsOf X) (i : ℕ) → i ≤ length pairs → ((j : ℕ) (d : Key × X) → j < i → order (get_or pairs j d).0 key ≡ Less)
      → ((j : ℕ) (d : Key × X) → i ≤ j → j < length pairs → order (get_or pairs j d).0 key ≡ Greater) → BelongsAt key pairs i
  belongs key pairs zero within less greater =
      record { front = []; back = pairs; splits = refl; place = refl; above = refl; below = all_below key pairs (λ j d inside. greater j d (omega arith) inside) }
  belongs key [] (suc i) within less greater = absurd (omega arith)
  belongs key (e ∷ es) (suc i) within less greater =
      let later = belongs key es i (omega arith) (λ j d before. less (suc j) d (omega arith)) (λ j d behind inside. greater (suc j) d (omega arith) (omega arith)) in
      record {
        front = e ∷ later.front;
        back = later.back;
        splits = ap (λ (t : PairsOf X). e ∷ t) later.splits;
        place = ap suc later.place;
        above = and_from _ _ (lt_of _ (less 0 e (omega arith))) later.above;
        below = later.below;
      }

  pub searched : (key : Key) (pairs : PairsOf X) (r : Result ℕ ℕ) → is_sorted order pairs ≡ true → IsSearchInRange r (length pairs) → IsBinarySearchResult (λ pair. order pair.0 key) pairs r → IsPlace key pairs r
  searched key pairs (Ok i) sorted within here = stands key pairs i sorted within here
  searched key pairs (Err i) sorted within parted =
      let halves = parted (rises key pairs sorted) in
      belongs key pairs i within (λ j d before. halves.0 j d (omega arith) before) (λ j d behind inside. halves.1 j d behind inside)
