-- A slot is joined out of its ring.
use Rattle.std.proofs.Common.{◌≡◌, ◌≢◌, ◌<◌, ◌+◌, ◌-◌, ◌∙◌, ◌⊎◌, ℕ, suc, List, [], ◌∷◌, ◌++◌, length, set, ap, sym, subst, inl, inr, arith, get_or-set_same, get_or-set_other}
use Rattle.std.specs.List.{AllByRecursion}
use Rattle.std.proofs.lemmas.Bool.{cases_eq}
use Rattle.std.proofs.lemmas.List.{length-set, length-append}
use Rattle.base_types.specs.Lists.{IsIn}
use Rattle.link_store.specs.Rings.{IsPath, IsRing, AreRings, IsRemoved, at, ring_of}
use Rattle.link_store.proofs.Paths.{all_wider, all_back, all_less, all_front, apart_less, apart_of, walk_path, length-walk, path_kept, before_all, first_all, path_back, IsJoinedOut, path_without}

-- what the writes to two lists come to
pub joined_out : (nexts prevs : List ℕ) (x : ℕ) → at prevs x < length nexts → at nexts x < length prevs → IsJoinedOut (at nexts) (at prevs) (at (set nexts (at prevs x) (at nexts x))) (at (set prevs (at nexts x) (at prevs x))) x
joined_out nexts prevs x before behind = record {
  next = get_or-set_same nexts (at prevs x) (at nexts x) 0 before;
  nexts = λ k other. get_or-set_other nexts (at prevs x) k (at nexts x) 0 other;
  prev = get_or-set_same prevs (at nexts x) (at prevs x) 0 behind;
  prevs = λ k other. get_or-set_other prevs (at nexts x) k (at prevs x) 0 other;
}

in_either : (k : ℕ) (xs : List ℕ) (x : ℕ) (ys : List ℕ) → IsIn k (xs ++ x ∷ ys) → k ≢ x → IsIn k (xs ++ ys)
in_either k [] x ys (inl e) other = absurd (other e)
in_either k [] x ys (inr later) other = later
in_either k (y ∷ xs) x ys (inl e) other = inl e
in_either k (y ∷ xs) x ys (inr later) other = inr (in_either k xs x ys later other)

module _ (nexts prevs rings heads lens : List ℕ) (j x : ℕ) (ps qs : List ℕ)
    (old : AreRings nexts prevs rings heads lens (length nexts)) (there : j < length heads)
    (stands : ring_of nexts heads lens j ≡ ps ++ x ∷ qs) where
  abbrev n' : List ℕ
  n' = set nexts (at prevs x) (at nexts x)

  abbrev p' : List ℕ
  p' = set prevs (at nexts x) (at prevs x)

  abbrev l' : List ℕ
  l' = set lens j (at lens j - 1)

  -- the ring as it was
  pub ring : IsRing (at nexts) (at prevs) (at rings) (length nexts) j (at heads j) (ps ++ x ∷ qs)
  ring = subst (λ xs. IsRing (at nexts) (at prevs) (at rings) (length nexts) j (at heads j) xs) stands (old.round j there)

  -- what holds of each slot of the ring holds of the two beside x
  pub before : (P : ℕ → Type 0) → AllByRecursion P (at heads j ∷ ps ++ x ∷ qs) → P (at prevs x)
  before P all = before_all P (at nexts) (at prevs) (at heads j) ps x qs (at heads j) (all_front P (at heads j ∷ ps) (x ∷ qs) all) ring.path

  pub behind : (P : ℕ → Type 0) → AllByRecursion P (at heads j ∷ ps ++ x ∷ qs) → P (at nexts x)
  behind P all = first_all P (at nexts) (at prevs) x qs (at heads j) (all_back P (at heads j ∷ ps) x qs all).1 all.0 (path_back (at nexts) (at prevs) (at heads j) ps x qs (at heads j) ring.path)

  joined : IsJoinedOut (at nexts) (at prevs) (at n') (at p') x
  joined = joined_out nexts prevs x (before (λ k. k < length nexts) ring.inside) (subst (λ m. at nexts x < m) (sym old.prevs_len) (behind (λ k. k < length nexts) ring.inside))

  count : length (ps ++ qs) ≡ at l' j
  count =
      let whole : length (ps ++ x ∷ qs) ≡ at lens j = ap length (sym stands) ∙ length-walk (at nexts) (at lens j) (at nexts (at heads j)) in
      let now : at l' j ≡ at lens j - 1 = get_or-set_same lens j (at lens j - 1) 0 (subst (λ m. j < m) (sym old.lens_len) there) in
      let a : length (ps ++ x ∷ qs) ≡ length ps + suc (length qs) = length-append ps (x ∷ qs) in
      let b : length (ps ++ qs) ≡ length ps + length qs = length-append ps qs in
      omega arith

  path : IsPath (at n') (at p') (at heads j) (ps ++ qs) (at heads j)
  path = path_without (at nexts) (at prevs) (at n') (at p') x (at heads j) ps qs (at heads j) joined ring.apart ring.apart.0 ring.path

  here : ring_of n' heads l' j ≡ ps ++ qs
  here = walk_path (at n') (at p') (at heads j) (ps ++ qs) (at heads j) (at l' j) path count

  -- another ring isn't touched
  differs : (i k : ℕ) → i ≢ j → at rings k ≡ i → (y : ℕ) → at rings y ≡ j → k ≢ y
  differs i k other mine y owned e = other (sym mine ∙ ap (at rings) e ∙ owned)

  module _ (i : ℕ) (within : i < length heads) (other : i ≢ j) where
    theirs : IsRing (at nexts) (at prevs) (at rings) (length nexts) i (at heads i) (ring_of nexts heads lens i)
    theirs = old.round i within

    their_path : IsPath (at n') (at p') (at heads i) (ring_of nexts heads lens i) (at heads i)
    their_path =
        let next : (k : ℕ) → at rings k ≡ i → at n' k ≡ at nexts k = λ k mine. joined.nexts k (differs i k other mine (at prevs x) (before (λ k. at rings k ≡ j) ring.owned)) in
        let prev : (k : ℕ) → at rings k ≡ i → at p' k ≡ at prevs k = λ k mine. joined.prevs k (differs i k other mine (at nexts x) (behind (λ k. at rings k ≡ j) ring.owned)) in
        path_kept (at nexts) (at prevs) (at n') (at p') (at heads i) (ring_of nexts heads lens i) (at heads i)
        (all_wider (λ k. at rings k ≡ i) (λ k. at n' k ≡ at nexts k) (at heads i ∷ ring_of nexts heads lens i) next theirs.owned)
        (all_wider (λ k. at rings k ≡ i) (λ k. at p' k ≡ at prevs k) (ring_of nexts heads lens i) prev theirs.owned.1)
        (prev (at heads i) theirs.owned.0)
        theirs.path

    there_too : ring_of n' heads l' i ≡ ring_of nexts heads lens i
    there_too = walk_path (at n') (at p') (at heads i) (ring_of nexts heads lens i) (at heads i) (at l' i) their_path
        (length-walk (at nexts) (at lens i) (at nexts (at heads i)) ∙ sym (get_or-set_other lens j i (at lens j - 1) 0 other))

  each_round : (i : ℕ) → (i ≡ j) ⊎ (i ≢ j) → i < length heads → IsRing (at n') (at p') (at rings) (length nexts) i (at heads i) (ring_of n' heads l' i)
  each_round i (inl e) within = rw (e, here) (record {
    path = path;
    apart = apart_less (at heads j ∷ ps) x qs ring.apart;
    owned = all_less (λ k. at rings k ≡ j) (at heads j ∷ ps) x qs ring.owned;
    inside = all_less (λ k. k < length nexts) (at heads j ∷ ps) x qs ring.inside;
  })
  each_round i (inr other) within = rw (there_too i within other) (record {
    path = their_path i within other;
    apart = (theirs i within other).apart;
    owned = (theirs i within other).owned;
    inside = (theirs i within other).inside;
  })

  each_out : (i : ℕ) → (i ≡ j) ⊎ (i ≢ j) → i < length heads → AllByRecursion (λ k. k ≢ x) (at heads i ∷ ring_of n' heads l' i)
  each_out i (inl e) within = rw (e, here) (apart_of (at heads j ∷ ps) x qs ring.apart)
  each_out i (inr other) within = rw (there_too i within other)
      (all_wider (λ k. at rings k ≡ i) (λ k. k ≢ x) (at heads i ∷ ring_of nexts heads lens i)
      (λ k mine. differs i k other mine x (all_back (λ k. at rings k ≡ j) (at heads j ∷ ps) x qs ring.owned).0) (theirs i within other).owned)

  each_covered : (k : ℕ) → (at rings k ≡ j) ⊎ (at rings k ≢ j) → at rings k < length heads → IsIn k (at heads (at rings k) ∷ ring_of nexts heads lens (at rings k)) → k ≢ x → IsIn k (at heads (at rings k) ∷ ring_of n' heads l' (at rings k))
  each_covered k (inl e) within is other =
      let old_in : IsIn k (at heads j ∷ ps ++ x ∷ qs) = subst (λ xs. IsIn k (at heads j ∷ xs)) stands (subst (λ i. IsIn k (at heads i ∷ ring_of nexts heads lens i)) e is) in
      subst (λ i. IsIn k (at heads i ∷ ring_of n' heads l' i)) (sym e) (subst (λ xs. IsIn k (at heads j ∷ xs)) (sym here) (in_either k (at heads j ∷ ps) x qs old_in other))
  each_covered k (inr ne) within is other = subst (λ xs. IsIn k (at heads (at rings k) ∷ xs)) (sym (there_too (at rings k) within ne)) is

  pub removed : IsRemoved nexts prevs rings heads lens j x ps qs n' p' l'
  removed = record {
    kept = record {
      round = λ i within. subst (λ size. IsRing (at n') (at p') (at rings) size i (at heads i) (ring_of n' heads l' i)) (sym (length-set nexts (at prevs x) (at nexts x))) (each_round i (cases_eq i j) within);
      out_of = λ i within. each_out i (cases_eq i j) within;
      covered = λ k within other.
          let was = old.covered k (subst (λ m. k < m) (length-set nexts (at prevs x) (at nexts x)) within) (λ e. absurd (omega (arith, within, length-set nexts (at prevs x) (at nexts x)))) in
          (was.0, each_covered k (cases_eq (at rings k) j) was.0 was.1 other);
      prevs_len = length-set prevs (at nexts x) (at prevs x) ∙ old.prevs_len ∙ sym (length-set nexts (at prevs x) (at nexts x));
      rings_len = old.rings_len ∙ sym (length-set nexts (at prevs x) (at nexts x));
      lens_len = length-set lens j (at lens j - 1) ∙ old.lens_len;
    };
    ring = here;
    others = λ i within other. there_too i within other;
  }
