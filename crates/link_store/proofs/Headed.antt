-- One more slot is the head of one more ring.
use Rattle.std.proofs.Common.{◌≡◌, ◌≢◌, ◌<◌, ◌+◌, ◌^◌, ◌∙◌, ◌⊎◌, ℕ, List, [], ◌∷◌, ◌++◌, length, get_or, Option, None, IsSome, ap, sym, subst, refl, inl, inr, arith}
use Rattle.std.specs.List.{AllByRecursion}
use Rattle.std.proofs.lemmas.Bool.{cases_eq}
use Rattle.std.proofs.lemmas.List.{ext_get_or, get_or_append_left, get_or_push, length_push}
use Rattle.link_store.specs.declared.slots.Held.{Held}
use Rattle.base_types.specs.Lists.{IsIn}
use Rattle.link_store.specs.Rings.{walk, AreRings, IsRing, at, ring_of}
use Rattle.link_store.specs.Kept.{IsLinked, items_of, lists_of}
use Rattle.link_store.proofs.Grown.{all_same, covered, none_behind, ring, same, walked}
use Rattle.link_store.proofs.Paths.{all_wider}
use Rattle.link_store.proofs.Views.{items_kept, length-lists_of, lists_at}

module _ (nexts prevs rings heads lens : List ℕ) (old : AreRings nexts prevs rings heads lens (length nexts)) where
  abbrev x : ℕ
  x = length nexts

  abbrev n' : List ℕ
  n' = nexts ++ x ∷ []

  abbrev p' : List ℕ
  p' = prevs ++ x ∷ []

  abbrev r' : List ℕ
  r' = rings ++ length heads ∷ []

  abbrev h' : List ℕ
  h' = heads ++ x ∷ []

  abbrev l' : List ℕ
  l' = lens ++ 0 ∷ []

  pub head_at : (j : ℕ) → j < length heads → at h' j ≡ at heads j
  head_at j within = get_or_append_left heads (x ∷ []) 0 j within

  len_at : (j : ℕ) → j < length heads → at l' j ≡ at lens j
  len_at j within = get_or_append_left lens (0 ∷ []) 0 j (subst (λ n. j < n) (sym old.lens_len) within)

  head_new : at h' (length heads) ≡ x
  head_new = get_or_push heads x 0 (length heads) refl

  len_new : at l' (length heads) ≡ 0
  len_new = get_or_push lens 0 0 (length heads) old.lens_len

  pub ring_old : (j : ℕ) → j < length heads → ring_of n' h' l' j ≡ ring_of nexts heads lens j
  ring_old j within = ap (λ h. walk (at n') (at l' j) (at n' h)) (head_at j within) ∙ ap (λ n. walk (at n') n (at n' (at heads j))) (len_at j within)
      ∙ walked nexts prevs rings heads lens x x (length heads) old j within

  pub ring_new : ring_of n' h' l' (length heads) ≡ []
  ring_new = ap (λ n. walk (at n') n (at n' (at h' (length heads)))) len_new

  round : (j : ℕ) → (j ≡ length heads) ⊎ (j ≢ length heads) → j < length h' → IsRing (at n') (at p') (at r') (length n') j (at h' j) (ring_of n' h' l' j)
  round j (inl e) within = subst (λ i. IsRing (at n') (at p') (at r') (length n') i (at h' i) (ring_of n' h' l' i)) (sym e)
      (rw (ring_new, head_new) (record {
        path = (get_or_push nexts x 0 x refl, get_or_push prevs x 0 x old.prevs_len);
        apart = (tt, tt);
        owned = (get_or_push rings (length heads) 0 x old.rings_len, tt);
        inside = (omega (arith, length_push nexts x), tt);
      }))
  round j (inr other) within =
      let was : j < length heads = omega (arith, other, within, length_push heads x) in
      rw (ring_old j was, head_at j was) (ring nexts prevs rings heads lens x x (length heads) old j was)

  out_of : (j : ℕ) → (j ≡ length heads) ⊎ (j ≢ length heads) → j < length h' → AllByRecursion (λ k. k ≢ length n') (at h' j ∷ ring_of n' h' l' j)
  out_of j is within = all_wider (λ k. k < length n') (λ k. k ≢ length n') (at h' j ∷ ring_of n' h' l' j) (λ k inside e. absurd (omega (arith, inside, e))) (round j is within).inside

  cover : (k : ℕ) → (k ≡ x) ⊎ (k ≢ x) → k < length n' → (at r' k < length h') × IsIn k (at h' (at r' k) ∷ ring_of n' h' l' (at r' k))
  cover k (inl e) within = subst (λ m. (at r' m < length h') × IsIn m (at h' (at r' m) ∷ ring_of n' h' l' (at r' m))) (sym e)
      (subst (λ i. (i < length h') × IsIn x (at h' i ∷ ring_of n' h' l' i)) (sym (get_or_push rings (length heads) 0 x old.rings_len))
      (omega (arith, length_push heads x), inl (sym head_new)))
  cover k (inr other) within =
      let inside : k < length nexts = omega (arith, other, within, length_push nexts x) in
      let is = covered nexts prevs rings heads lens x x (length heads) old k inside in
      (omega (arith, is.0, length_push heads x), subst (λ h. IsIn k (h ∷ ring_of n' h' l' (at r' k))) (sym (head_at (at r' k) is.0)) (subst (λ xs. IsIn k (at heads (at r' k) ∷ xs)) (sym (ring_old (at r' k) is.0)) is.1))

  pub headed : AreRings n' p' r' h' l' (length n')
  headed = record {
    round = λ j within. round j (cases_eq j (length heads)) within;
    out_of = λ j within. out_of j (cases_eq j (length heads)) within;
    covered = λ k within other. cover k (cases_eq k x) within;
    prevs_len = length_push prevs x ∙ ap (λ n. n + 1) old.prevs_len ∙ sym (length_push nexts x);
    rings_len = length_push rings (length heads) ∙ ap (λ n. n + 1) old.rings_len ∙ sym (length_push nexts x);
    lens_len = length_push lens 0 ∙ ap (λ n. n + 1) old.lens_len ∙ sym (length_push heads x);
  }

module _ {T : Type 0} (nexts prevs rings heads lens : List ℕ) (cells : List (Option (Held T))) (old : IsLinked nexts prevs rings cells heads lens) (few : length nexts + 1 < 2 ^ 62) where
  abbrev c' : List (Option (Held T))
  c' = cells ++ None ∷ []

  full : (j : ℕ) → (j ≡ length heads) ⊎ (j ≢ length heads) → 0 < j → j < length (heads ++ length nexts ∷ []) → AllByRecursion (λ k. IsSome (get_or c' k None)) (ring_of (nexts ++ length nexts ∷ []) (heads ++ length nexts ∷ []) (lens ++ 0 ∷ []) j)
  full j (inl e) some within = rw (e, ring_new nexts prevs rings heads lens old.joined) tt
  full j (inr other) some within =
      let was : j < length heads = omega (arith, other, within, length_push heads (length nexts)) in
      rw (ring_old nexts prevs rings heads lens old.joined j was) (same nexts prevs rings heads lens cells old (λ o. IsSome o) (ring_of nexts heads lens j) (old.full j some was))

  ends : (j : ℕ) → (j ≡ length heads) ⊎ (j ≢ length heads) → j < length (heads ++ length nexts ∷ []) → get_or c' (at (heads ++ length nexts ∷ []) j) None ≡ None
  ends j (inl e) within = ap (λ i. get_or c' (at (heads ++ length nexts ∷ []) i) None) e ∙ ap (λ h. get_or c' h None) (get_or_push heads (length nexts) 0 (length heads) refl) ∙ get_or_push cells None None (length nexts) old.cells_len
  ends j (inr other) within =
      let was : j < length heads = omega (arith, other, within, length_push heads (length nexts)) in
      ap (λ h. get_or c' h None) (head_at nexts prevs rings heads lens old.joined j was) ∙ none_behind cells (at heads j) ∙ old.ends j was

  pub linked_head : IsLinked (nexts ++ length nexts ∷ []) (prevs ++ length nexts ∷ []) (rings ++ length heads ∷ []) c' (heads ++ length nexts ∷ []) (lens ++ 0 ∷ [])
  linked_head = record {
    joined = headed nexts prevs rings heads lens old.joined;
    cells_len = length_push cells None ∙ ap (λ m. m + 1) old.cells_len ∙ sym (length_push nexts (length nexts));
    some = omega (arith, length_push heads (length nexts));
    few = omega (arith, few, length_push nexts (length nexts));
    full = λ j some within. full j (cases_eq j (length heads)) some within;
    free = rw (ring_old nexts prevs rings heads lens old.joined 0 old.some) (same nexts prevs rings heads lens cells old (λ o. o ≡ None) (ring_of nexts heads lens 0) old.free);
    ends = λ j within. ends j (cases_eq j (length heads)) within;
  }

  pub lists_head : lists_of (nexts ++ length nexts ∷ []) c' (heads ++ length nexts ∷ []) (lens ++ 0 ∷ []) ≡ lists_of nexts cells heads lens ++ [] ∷ []
  lists_head =
      let len : length (lists_of nexts cells heads lens) ≡ length heads = length-lists_of nexts cells heads lens old.joined.lens_len in
      let len' : length (lists_of (nexts ++ length nexts ∷ []) c' (heads ++ length nexts ∷ []) (lens ++ 0 ∷ [])) ≡ length (heads ++ length nexts ∷ []) = length-lists_of _ c' (heads ++ length nexts ∷ []) (lens ++ 0 ∷ []) linked_head.joined.lens_len in
      ext_get_or [] _ _ (len' ∙ length_push heads (length nexts) ∙ ap (λ m. m + 1) (sym len) ∙ sym (length_push (lists_of nexts cells heads lens) []))
      (λ j within. each j (cases_eq j (length heads)) (subst (λ m. j < m) len' within))
    where
      each : (j : ℕ) → (j ≡ length heads) ⊎ (j ≢ length heads) → j < length (heads ++ length nexts ∷ []) → get_or (lists_of (nexts ++ length nexts ∷ []) c' (heads ++ length nexts ∷ []) (lens ++ 0 ∷ [])) j [] ≡ get_or (lists_of nexts cells heads lens ++ [] ∷ []) j []
      each j is within = lists_at (nexts ++ length nexts ∷ []) c' (heads ++ length nexts ∷ []) (lens ++ 0 ∷ []) j within linked_head.joined.lens_len ∙ by_case j is within
        where
          by_case : (j : ℕ) → (j ≡ length heads) ⊎ (j ≢ length heads) → j < length (heads ++ length nexts ∷ []) → items_of c' (ring_of (nexts ++ length nexts ∷ []) (heads ++ length nexts ∷ []) (lens ++ 0 ∷ []) j) ≡ get_or (lists_of nexts cells heads lens ++ [] ∷ []) j []
          by_case j (inl e) within = ap (λ i. items_of c' (ring_of (nexts ++ length nexts ∷ []) (heads ++ length nexts ∷ []) (lens ++ 0 ∷ []) i)) e ∙ ap (items_of c') (ring_new nexts prevs rings heads lens old.joined)
              ∙ sym (get_or_push (lists_of nexts cells heads lens) [] [] j (length-lists_of nexts cells heads lens old.joined.lens_len ∙ sym e))
          by_case j (inr other) within =
              let was : j < length heads = omega (arith, other, within, length_push heads (length nexts)) in
              ap (items_of c') (ring_old nexts prevs rings heads lens old.joined j was) ∙ items_kept c' cells (ring_of nexts heads lens j) (all_same cells (ring_of nexts heads lens j))
              ∙ sym (get_or_append_left (lists_of nexts cells heads lens) ([] ∷ []) [] j (subst (λ m. j < m) (sym (length-lists_of nexts cells heads lens old.joined.lens_len)) was) ∙ lists_at nexts cells heads lens j was old.joined.lens_len)
