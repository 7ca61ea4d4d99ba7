-- One more slot behind the others, and one more ring.
use Rattle.std.proofs.Common.{◌≡◌, ◌≢◌, ◌<◌, ◌+◌, ◌^◌, ◌∙◌, ◌⊎◌, ℕ, zero, suc, List, [], ◌∷◌, ◌++◌, length, get_or, Option, None, IsSome, ap, sym, subst, refl, inl, inr, arith}
use Rattle.std.specs.List.{AllByRecursion}
use Rattle.std.proofs.lemmas.Bool.{cases_eq}
use Rattle.std.proofs.lemmas.List.{ext_get_or, get_or_append_left, get_or_push, length_push}
use Rattle.link_store.specs.declared.slots.Held.{Held}
use Rattle.base_types.specs.Lists.{IsIn}
use Rattle.link_store.specs.Rings.{IsPath, AreRings, IsAdded, IsRing, at, ring_of}
use Rattle.link_store.specs.Kept.{AreNumbered, IsLinked, items_of, lists_of}
use Rattle.link_store.proofs.Paths.{all_more, all_wider, length-walk, path_kept, walk_path}
use Rattle.link_store.proofs.Views.{items_kept, items_none, length-lists_of, lists_at}

module _ (nexts prevs rings heads lens : List ℕ) (a b c : ℕ) (old : AreRings nexts prevs rings heads lens (length nexts)) where
  abbrev n' : List ℕ
  n' = nexts ++ a ∷ []

  abbrev p' : List ℕ
  p' = prevs ++ b ∷ []

  abbrev r' : List ℕ
  r' = rings ++ c ∷ []

  next_at : (k : ℕ) → k < length nexts → at n' k ≡ at nexts k
  next_at k inside = get_or_append_left nexts (a ∷ []) 0 k inside

  prev_at : (k : ℕ) → k < length nexts → at p' k ≡ at prevs k
  prev_at k inside = get_or_append_left prevs (b ∷ []) 0 k (subst (λ n. k < n) (sym old.prevs_len) inside)

  ring_at : (k : ℕ) → k < length nexts → at r' k ≡ at rings k
  ring_at k inside = get_or_append_left rings (c ∷ []) 0 k (subst (λ n. k < n) (sym old.rings_len) inside)

  module _ (j : ℕ) (within : j < length heads) where
    was : IsRing (at nexts) (at prevs) (at rings) (length nexts) j (at heads j) (ring_of nexts heads lens j)
    was = old.round j within

    path : IsPath (at n') (at p') (at heads j) (ring_of nexts heads lens j) (at heads j)
    path = path_kept (at nexts) (at prevs) (at n') (at p') (at heads j) (ring_of nexts heads lens j) (at heads j)
        (all_wider (λ k. k < length nexts) (λ k. at n' k ≡ at nexts k) (at heads j ∷ ring_of nexts heads lens j) next_at was.inside)
        (all_wider (λ k. k < length nexts) (λ k. at p' k ≡ at prevs k) (ring_of nexts heads lens j) prev_at was.inside.1)
        (prev_at (at heads j) was.inside.0) was.path

    -- the ring is as it was
    pub walked : ring_of n' heads lens j ≡ ring_of nexts heads lens j
    walked = walk_path (at n') (at p') (at heads j) (ring_of nexts heads lens j) (at heads j) (at lens j) path (length-walk (at nexts) (at lens j) (at nexts (at heads j)))

    owned : AllByRecursion (λ k. at r' k ≡ j) (at heads j ∷ ring_of nexts heads lens j)
    owned = both (at heads j ∷ ring_of nexts heads lens j) was.inside was.owned
      where
        both : (ks : List ℕ) → AllByRecursion (λ k. k < length nexts) ks → AllByRecursion (λ k. at rings k ≡ j) ks → AllByRecursion (λ k. at r' k ≡ j) ks
        both [] inside own = tt
        both (k ∷ ks) inside own = (ring_at k inside.0 ∙ own.0, both ks inside.1 own.1)

    pub ring : IsRing (at n') (at p') (at r') (length n') j (at heads j) (ring_of nexts heads lens j)
    ring = record {
      path = path;
      apart = was.apart;
      owned = owned;
      inside = all_wider (λ k. k < length nexts) (λ k. k < length n') (at heads j ∷ ring_of nexts heads lens j) (λ k inside. omega (arith, inside, length_push nexts a)) was.inside;
    }

  pub covered : (k : ℕ) → k < length nexts → (at r' k < length heads) × IsIn k (at heads (at r' k) ∷ ring_of nexts heads lens (at r' k))
  covered k inside = subst (λ i. (i < length heads) × IsIn k (at heads i ∷ ring_of nexts heads lens i)) (sym (ring_at k inside)) (old.covered k inside (λ e. absurd (omega (arith, e, inside))))

  -- the slot that came is in no ring yet
  pub widened : AreRings n' p' r' heads lens (length nexts)
  widened = record {
    round = λ j within. rw (walked j within) (ring j within);
    out_of = λ j within. rw (walked j within) (old.out_of j within);
    covered = λ k within other.
        let inside : k < length nexts = omega (arith, within, other, length_push nexts a) in
        let is = covered k inside in
        (is.0, subst (λ xs. IsIn k (at heads (at r' k) ∷ xs)) (sym (walked (at r' k) is.0)) is.1);
    prevs_len = length_push prevs b ∙ ap (λ n. n + 1) old.prevs_len ∙ sym (length_push nexts a);
    rings_len = length_push rings c ∙ ap (λ n. n + 1) old.rings_len ∙ sym (length_push nexts a);
    lens_len = old.lens_len;
  }

module _ {T : Type 0} where
  -- a slot that holds nothing is as good as none
  pub none_behind : (cells : List (Option (Held T))) (k : ℕ) → get_or (cells ++ None ∷ []) k None ≡ get_or cells k None
  none_behind [] zero = refl
  none_behind [] (suc k) = refl
  none_behind (cell ∷ cells) zero = refl
  none_behind (cell ∷ cells) (suc k) = none_behind cells k

  pub all_same : (cells : List (Option (Held T))) (ks : List ℕ) → AllByRecursion (λ k. get_or (cells ++ None ∷ []) k None ≡ get_or cells k None) ks
  all_same cells [] = tt
  all_same cells (k ∷ ks) = (none_behind cells k, all_same cells ks)

  pub numbered_behind : (cells : List (Option (Held T))) (n : ℕ) → AreNumbered cells n → AreNumbered (cells ++ None ∷ []) n
  numbered_behind cells n old = record {
    below = λ k held is. old.below k held (sym (none_behind cells k) ∙ is);
    unlike = λ k l one two is_one is_two same. old.unlike k l one two (sym (none_behind cells k) ∙ is_one) (sym (none_behind cells l) ∙ is_two) same;
  }

  module _ (nexts prevs rings heads lens : List ℕ) (cells : List (Option (Held T))) (old : IsLinked nexts prevs rings cells heads lens) where
    abbrev c' : List (Option (Held T))
    c' = cells ++ None ∷ []

    pub same : (P : Option (Held T) → Type 0) (ks : List ℕ) → AllByRecursion (λ k. P (get_or cells k None)) ks → AllByRecursion (λ k. P (get_or c' k None)) ks
    same P ks all = all_wider (λ k. P (get_or cells k None)) (λ k. P (get_or c' k None)) ks (λ k is. subst P (sym (none_behind cells k)) is) all

    -- the slot that came is free
    module _ (n p r n' p' r' l' : List ℕ) (added : IsAdded n p r heads lens 0 (ring_of n heads lens 0 ++ length nexts ∷ []) n' p' r' l')
        (walked : (j : ℕ) → j < length heads → ring_of n heads lens j ≡ ring_of nexts heads lens j) (longer : length n' ≡ length nexts + 1) (few : length nexts + 1 < 2 ^ 62) where
      ring_is : ring_of n' heads l' 0 ≡ ring_of nexts heads lens 0 ++ length nexts ∷ []
      ring_is = added.ring ∙ ap (λ xs. xs ++ length nexts ∷ []) (walked 0 old.some)

      free : AllByRecursion (λ k. get_or c' k None ≡ None) (ring_of n' heads l' 0)
      free = rw ring_is (all_more (λ k. get_or c' k None ≡ None) (ring_of nexts heads lens 0) (length nexts) (same (λ o. o ≡ None) (ring_of nexts heads lens 0) old.free) (get_or_push cells None None (length nexts) old.cells_len))

      other_is : (j : ℕ) → 0 < j → j < length heads → ring_of n' heads l' j ≡ ring_of nexts heads lens j
      other_is j some within = added.others j within (λ e. absurd (omega (arith, e, some))) ∙ walked j within

      pub linked_free : IsLinked n' p' r' c' heads l'
      linked_free = record {
        joined = added.kept;
        cells_len = length_push cells None ∙ ap (λ m. m + 1) old.cells_len ∙ sym longer;
        some = old.some;
        few = subst (λ m. m < 2 ^ 62) (sym longer) few;
        full = λ j some within. rw (other_is j some within) (same (λ o. IsSome o) (ring_of nexts heads lens j) (old.full j some within));
        free = free;
        ends = λ j within. none_behind cells (at heads j) ∙ old.ends j within;
      }

      pub lists_free : lists_of n' c' heads l' ≡ lists_of nexts cells heads lens
      lists_free =
          let len : length l' ≡ length heads = added.kept.lens_len in
          ext_get_or [] (lists_of n' c' heads l') (lists_of nexts cells heads lens) (length-lists_of n' c' heads l' len ∙ sym (length-lists_of nexts cells heads lens old.joined.lens_len))
          (λ j within. each j (cases_eq j 0) (subst (λ m. j < m) (length-lists_of n' c' heads l' len) within))
        where
          each : (j : ℕ) → (j ≡ 0) ⊎ (j ≢ 0) → j < length heads → get_or (lists_of n' c' heads l') j [] ≡ get_or (lists_of nexts cells heads lens) j []
          each j (inl e) within = subst (λ i. get_or (lists_of n' c' heads l') i [] ≡ get_or (lists_of nexts cells heads lens) i []) (sym e)
              (lists_at n' c' heads l' 0 old.some added.kept.lens_len ∙ items_none c' (ring_of n' heads l' 0) free
              ∙ sym (lists_at nexts cells heads lens 0 old.some old.joined.lens_len ∙ items_none cells (ring_of nexts heads lens 0) old.free))
          each j (inr some) within = lists_at n' c' heads l' j within added.kept.lens_len ∙ ap (items_of c') (other_is j (omega (arith, some)) within)
              ∙ items_kept c' cells (ring_of nexts heads lens j) (all_same cells (ring_of nexts heads lens j)) ∙ sym (lists_at nexts cells heads lens j within old.joined.lens_len)

      pub one_more_free : at l' 0 ≡ at lens 0 + 1
      one_more_free =
          let now : length (ring_of n' heads l' 0) ≡ at l' 0 = length-walk (at n') (at l' 0) (at n' (at heads 0)) in
          let is : length (ring_of nexts heads lens 0) ≡ at lens 0 = length-walk (at nexts) (at lens 0) (at nexts (at heads 0)) in
          omega (arith, now, is, ap length ring_is, length_push (ring_of nexts heads lens 0) (length nexts))
