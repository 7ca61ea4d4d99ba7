-- A search among what items are seen as.
use Rattle.std.proofs.Common.{◌≡◌, ◌<◌, ◌≤◌, ℕ, List, [], ◌∷◌, map, length, get_or, Result, Ok, Err, Ordering, Equal, Less, Greater, sym, ap, subst, ◌∙◌, arith}
use Rattle.std.specs.Ordering.{ordering_index}
use Rattle.std.specs.List.Sorted.{IsSearchInRange, IsBinarySearchResult, IsNonDecreasingBy}
use Rattle.std.proofs.Math.ListN.{get_or-map as read_mapped}
use Rattle.std.proofs.lemmas.List.{get_or-map, length-map}

module _ {X Y : Type 0} (f : X → Y) (ord : Y → Ordering) where
  found_mapped : (xs : List X) (i : ℕ) → i < length xs → ((d : X) → ord (f (get_or xs i d)) ≡ Equal) → (d : Y) → ord (get_or (map f xs) i d) ≡ Equal
  found_mapped [] i within here d = absurd (omega arith)
  found_mapped (x ∷ xs) i within here d = ap ord (get_or-map f (x ∷ xs) i x d within) ∙ here x

  rises_mapped : (xs : List X) → IsNonDecreasingBy (λ y. ordering_index (ord y)) (map f xs) → IsNonDecreasingBy (λ x. ordering_index (ord (f x))) xs
  rises_mapped xs rises i j d le within =
      let at = λ (n : ℕ). ap (λ (y : Y). ordering_index (ord y)) (read_mapped f xs n d) in
      let mapped : j < length (map f xs) = subst (λ n. j < n) (sym (length-map xs f)) within in
      subst (λ n. n ≤ ordering_index (ord (f (get_or xs j d)))) (at i) (subst (λ n. ordering_index (ord (get_or (map f xs) i (f d))) ≤ n) (at j) (rises i j (f d) le mapped))

  side_mapped : (o : Ordering) (xs : List X) (j : ℕ) (d : Y) → j < length xs → ((e : X) → ord (f (get_or xs j e)) ≡ o) → ord (get_or (map f xs) j d) ≡ o
  side_mapped o [] j d within at = absurd (omega arith)
  side_mapped o (x ∷ xs) j d within at = ap ord (get_or-map f (x ∷ xs) j x d within) ∙ at x

  pub searched_mapped : (xs : List X) (r : Result ℕ ℕ) → IsSearchInRange r (length xs) → IsBinarySearchResult (λ x. ord (f x)) xs r → IsBinarySearchResult ord (map f xs) r
  searched_mapped xs (Ok i) within here = found_mapped xs i within here
  searched_mapped xs (Err i) within parted = λ rises.
      let halves = parted (rises_mapped xs rises) in (
        (λ j d low before. side_mapped Less xs j d (omega (arith, before, within)) (λ e. halves.0 j e low before)),
        (λ j d behind inside. let inside' : j < length xs = subst (λ n. j < n) (length-map xs f) inside in side_mapped Greater xs j d inside' (λ e. halves.1 j e behind inside')),
      )

  pub range_mapped : (xs : List X) (r : Result ℕ ℕ) → IsSearchInRange r (length xs) → IsSearchInRange r (length (map f xs))
  range_mapped xs (Ok i) within = subst (λ n. i < n) (sym (length-map xs f)) within
  range_mapped xs (Err i) within = subst (λ n. i ≤ n) (sym (length-map xs f)) within
