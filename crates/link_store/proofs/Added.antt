-- A slot that is in no ring is joined into one.
use Rattle.std.proofs.Common.{◌≡◌, ◌≢◌, ◌<◌, ◌+◌, ◌∙◌, ◌⊎◌, ℕ, suc, List, [], ◌∷◌, ◌++◌, length, set, ap, sym, subst, refl, inl, inr, arith, get_or-set_same, get_or-set_other}
use Rattle.std.specs.List.{AllByRecursion}
use Rattle.std.proofs.lemmas.Bool.{cases_eq}
use Rattle.std.proofs.lemmas.List.{length-set, length-append}
use Rattle.base_types.specs.Lists.{IsIn}
use Rattle.link_store.specs.Rings.{IsPath, AreApart, IsRing, AreRings, IsAdded, at, ring_of}
use Rattle.link_store.proofs.Paths.{all_wider, all_both, all_more, apart_more, walk_path, length-walk, path_kept, last_all, first_all, IsJoinedLast, path_pushed, IsJoinedFirst, path_put}

-- how the slots of a ring come to be others, with x among them
pub record IsWith (x : ℕ) (xs ys : List ℕ) : Type 1 where
  pub all : (P : ℕ → Type 0) → P x → AllByRecursion P xs → AllByRecursion P ys
  pub old : (k : ℕ) → IsIn k xs → IsIn k ys
  pub new : IsIn x ys
  pub longer : length ys ≡ suc (length xs)

last_in : (x : ℕ) (xs : List ℕ) → IsIn x (xs ++ x ∷ [])
last_in x [] = inl refl
last_in x (y ∷ xs) = inr (last_in x xs)

still_in : (x k : ℕ) (xs : List ℕ) → IsIn k xs → IsIn k (xs ++ x ∷ [])
still_in x k [] is = absurd is
still_in x k (y ∷ xs) (inl e) = inl e
still_in x k (y ∷ xs) (inr later) = inr (still_in x k xs later)

pub with_last : (x : ℕ) (xs : List ℕ) → IsWith x xs (xs ++ x ∷ [])
with_last x xs = record {
  all = λ P here all. all_more P xs x all here;
  old = λ k is. still_in x k xs is;
  new = last_in x xs;
  longer = length-append xs (x ∷ []) ∙ omega arith;
}

pub with_first : (x : ℕ) (xs : List ℕ) → IsWith x xs (x ∷ xs)
with_first x xs = record { all = λ P here all. (here, all); old = λ k is. inr is; new = inl refl; longer = refl }

module _ (nexts prevs rings heads lens : List ℕ) (j x : ℕ)
    (old : AreRings nexts prevs rings heads lens x) (there : j < length heads) (slot : x < length nexts) where
  abbrev h : ℕ
  h = at heads j

  abbrev xs : List ℕ
  xs = ring_of nexts heads lens j

  abbrev r' : List ℕ
  r' = set rings x j

  abbrev l' : List ℕ
  l' = set lens j (at lens j + 1)

  pub ring : IsRing (at nexts) (at prevs) (at rings) (length nexts) j h xs
  ring = old.round j there

  module _ (n' p' ys : List ℕ) (with_x : IsWith x xs ys) (path : IsPath (at n') (at p') h ys h) (apart : AreApart (h ∷ ys))
      (nexts_kept : (k : ℕ) → at rings k ≢ j → k ≢ x → at n' k ≡ at nexts k) (prevs_kept : (k : ℕ) → at rings k ≢ j → k ≢ x → at p' k ≡ at prevs k)
      (nexts_len : length n' ≡ length nexts) (prevs_len : length p' ≡ length nexts) where
    names : at r' x ≡ j
    names = get_or-set_same rings x j 0 (subst (λ m. x < m) (sym old.rings_len) slot)

    names_other : (k : ℕ) → k ≢ x → at r' k ≡ at rings k
    names_other k other = get_or-set_other rings x k j 0 other

    here : ring_of n' heads l' j ≡ ys
    here = walk_path (at n') (at p') h ys h (at l' j) path
        (with_x.longer ∙ ap suc (length-walk (at nexts) (at lens j) (at nexts h)) ∙ sym (get_or-set_same lens j (at lens j + 1) 0 (subst (λ m. j < m) (sym old.lens_len) there) ∙ omega arith))

    all_with : (P : ℕ → Type 0) → P x → AllByRecursion P (h ∷ xs) → AllByRecursion P (h ∷ ys)
    all_with P new all = (all.0, with_x.all P new all.1)

    in_with : (k : ℕ) → IsIn k (h ∷ xs) → IsIn k (h ∷ ys)
    in_with k (inl e) = inl e
    in_with k (inr is) = inr (with_x.old k is)

    owned_still : AllByRecursion (λ k. at r' k ≡ j) (h ∷ ys)
    owned_still = all_with (λ k. at r' k ≡ j) names (all_both (λ k. k ≢ x) (λ k. at rings k ≡ j) (λ k. at r' k ≡ j) (h ∷ xs) (λ k other mine. names_other k other ∙ mine) (old.out_of j there) ring.owned)

    module _ (i : ℕ) (within : i < length heads) (other : i ≢ j) where
      theirs : IsRing (at nexts) (at prevs) (at rings) (length nexts) i (at heads i) (ring_of nexts heads lens i)
      theirs = old.round i within

      out : AllByRecursion (λ k. k ≢ x) (at heads i ∷ ring_of nexts heads lens i)
      out = old.out_of i within

      away : (k : ℕ) → at rings k ≡ i → at rings k ≢ j
      away k mine e = other (sym mine ∙ e)

      their_path : IsPath (at n') (at p') (at heads i) (ring_of nexts heads lens i) (at heads i)
      their_path = path_kept (at nexts) (at prevs) (at n') (at p') (at heads i) (ring_of nexts heads lens i) (at heads i)
          (all_both (λ k. at rings k ≡ i) (λ k. k ≢ x) (λ k. at n' k ≡ at nexts k) (at heads i ∷ ring_of nexts heads lens i) (λ k mine apart. nexts_kept k (away k mine) apart) theirs.owned out)
          (all_both (λ k. at rings k ≡ i) (λ k. k ≢ x) (λ k. at p' k ≡ at prevs k) (ring_of nexts heads lens i) (λ k mine apart. prevs_kept k (away k mine) apart) theirs.owned.1 out.1)
          (prevs_kept (at heads i) (away (at heads i) theirs.owned.0) out.0)
          theirs.path

      there_too : ring_of n' heads l' i ≡ ring_of nexts heads lens i
      there_too = walk_path (at n') (at p') (at heads i) (ring_of nexts heads lens i) (at heads i) (at l' i) their_path
          (length-walk (at nexts) (at lens i) (at nexts (at heads i)) ∙ sym (get_or-set_other lens j i (at lens j + 1) 0 other))

      their_owned : AllByRecursion (λ k. at r' k ≡ i) (at heads i ∷ ring_of nexts heads lens i)
      their_owned = all_both (λ k. k ≢ x) (λ k. at rings k ≡ i) (λ k. at r' k ≡ i) (at heads i ∷ ring_of nexts heads lens i) (λ k apart mine. names_other k apart ∙ mine) out theirs.owned

    each_round : (i : ℕ) → (i ≡ j) ⊎ (i ≢ j) → i < length heads → IsRing (at n') (at p') (at r') (length nexts) i (at heads i) (ring_of n' heads l' i)
    each_round i (inl e) within = rw (e, here) (record {
      path = path;
      apart = apart;
      owned = owned_still;
      inside = all_with (λ k. k < length nexts) slot ring.inside;
    })
    each_round i (inr other) within = rw (there_too i within other) (record {
      path = their_path i within other;
      apart = (theirs i within other).apart;
      owned = their_owned i within other;
      inside = (theirs i within other).inside;
    })

    each_covered : (k : ℕ) → (k ≡ x) ⊎ (k ≢ x) → (at rings k ≡ j) ⊎ (at rings k ≢ j) → k < length nexts → (at r' k < length heads) × IsIn k (at heads (at r' k) ∷ ring_of n' heads l' (at r' k))
    each_covered k (inl e) mine within = subst (λ m. (at r' m < length heads) × IsIn m (at heads (at r' m) ∷ ring_of n' heads l' (at r' m))) (sym e)
        (subst (λ i. (i < length heads) × IsIn x (at heads i ∷ ring_of n' heads l' i)) (sym names) (there, inr (subst (λ zs. IsIn x zs) (sym here) with_x.new)))
    each_covered k (inr other) (inl mine) within =
        let was = old.covered k within other in
        let is : IsIn k (h ∷ xs) = subst (λ i. IsIn k (at heads i ∷ ring_of nexts heads lens i)) mine was.1 in
        subst (λ i. (i < length heads) × IsIn k (at heads i ∷ ring_of n' heads l' i)) (sym (names_other k other ∙ mine)) (there, subst (λ zs. IsIn k (h ∷ zs)) (sym here) (in_with k is))
    each_covered k (inr other) (inr away) within =
        let was = old.covered k within other in
        subst (λ i. (i < length heads) × IsIn k (at heads i ∷ ring_of n' heads l' i)) (sym (names_other k other))
        (was.0, subst (λ zs. IsIn k (at heads (at rings k) ∷ zs)) (sym (there_too (at rings k) was.0 away)) was.1)

    -- no slot is out any more
    each_out : (i : ℕ) → i < length heads → AllByRecursion (λ k. k ≢ length n') (at heads i ∷ ring_of n' heads l' i)
    each_out i within = all_wider (λ k. k < length nexts) (λ k. k ≢ length n') (at heads i ∷ ring_of n' heads l' i)
        (λ k below e. absurd (omega (arith, below, e, nexts_len))) (each_round i (cases_eq i j) within).inside

    added : IsAdded nexts prevs rings heads lens j ys n' p' r' l'
    added = record {
      kept = record {
        round = λ i within. subst (λ size. IsRing (at n') (at p') (at r') size i (at heads i) (ring_of n' heads l' i)) (sym nexts_len) (each_round i (cases_eq i j) within);
        out_of = each_out;
        covered = λ k within other. each_covered k (cases_eq k x) (cases_eq (at rings k) j) (subst (λ m. k < m) nexts_len within);
        prevs_len = prevs_len ∙ sym nexts_len;
        rings_len = length-set rings x j ∙ old.rings_len ∙ sym nexts_len;
        lens_len = length-set lens j (at lens j + 1) ∙ old.lens_len;
      };
      ring = here;
      others = λ i within other. there_too i within other;
    }

  -- at the end
  abbrev n_last : List ℕ
  n_last = set (set nexts (at prevs h) x) x h

  abbrev p_last : List ℕ
  p_last = set (set prevs x (at prevs h)) h x

  h_other : h ≢ x
  h_other = (old.out_of j there).0

  pub last_of : (P : ℕ → Type 0) → AllByRecursion P (h ∷ xs) → P (at prevs h)
  last_of P all = last_all P (at nexts) (at prevs) h xs h all ring.path

  pub first_of : (P : ℕ → Type 0) → AllByRecursion P (h ∷ xs) → P (at nexts h)
  first_of P all = first_all P (at nexts) (at prevs) h xs h all.1 all.0 ring.path

  joined_last : IsJoinedLast (at nexts) (at prevs) (at n_last) (at p_last) h x
  joined_last =
      let a : at prevs h ≢ x = last_of (λ k. k ≢ x) (old.out_of j there) in
      let a_slot : at prevs h < length nexts = last_of (λ k. k < length nexts) ring.inside in
      record {
        before = get_or-set_other (set nexts (at prevs h) x) x (at prevs h) h 0 a ∙ get_or-set_same nexts (at prevs h) x 0 a_slot;
        next = get_or-set_same (set nexts (at prevs h) x) x h 0 (subst (λ m. x < m) (sym (length-set nexts (at prevs h) x)) slot);
        nexts = λ k b c. get_or-set_other (set nexts (at prevs h) x) x k h 0 c ∙ get_or-set_other nexts (at prevs h) k x 0 b;
        prev = get_or-set_other (set prevs x (at prevs h)) h x x 0 (λ e. h_other (sym e)) ∙ get_or-set_same prevs x (at prevs h) 0 (subst (λ m. x < m) (sym old.prevs_len) slot);
        behind = get_or-set_same (set prevs x (at prevs h)) h x 0 (subst (λ m. h < m) (sym (length-set prevs x (at prevs h) ∙ old.prevs_len)) ring.inside.0);
        prevs = λ k b c. get_or-set_other (set prevs x (at prevs h)) h k x 0 c ∙ get_or-set_other prevs x k (at prevs h) 0 b;
      }

  pub added_last : IsAdded nexts prevs rings heads lens j (xs ++ x ∷ []) n_last p_last r' l'
  added_last =
      let out = old.out_of j there in
      let away : (k y : ℕ) → at rings k ≢ j → at rings y ≡ j → k ≢ y = λ k y other mine e. other (ap (at rings) e ∙ mine) in
      added n_last p_last (xs ++ x ∷ []) (with_last x xs)
      (path_pushed (at nexts) (at prevs) (at n_last) (at p_last) x h xs h joined_last ring.apart out ring.apart.0 ring.path)
      (apart_more (h ∷ xs) x ring.apart out)
      (λ k other not_x. joined_last.nexts k (away k (at prevs h) other (last_of (λ k. at rings k ≡ j) ring.owned)) not_x)
      (λ k other not_x. joined_last.prevs k not_x (away k h other ring.owned.0))
      (length-set (set nexts (at prevs h) x) x h ∙ length-set nexts (at prevs h) x)
      (length-set (set prevs x (at prevs h)) h x ∙ length-set prevs x (at prevs h) ∙ old.prevs_len)

  -- at the front
  abbrev n_first : List ℕ
  n_first = set (set nexts x (at nexts h)) h x

  abbrev p_first : List ℕ
  p_first = set (set prevs (at nexts h) x) x h

  joined_first : IsJoinedFirst (at nexts) (at prevs) (at n_first) (at p_first) h x
  joined_first =
      let b : at nexts h ≢ x = first_of (λ k. k ≢ x) (old.out_of j there) in
      let b_slot : at nexts h < length nexts = first_of (λ k. k < length nexts) ring.inside in
      record {
        before = get_or-set_same (set nexts x (at nexts h)) h x 0 (subst (λ m. h < m) (sym (length-set nexts x (at nexts h))) ring.inside.0);
        next = get_or-set_other (set nexts x (at nexts h)) h x x 0 (λ e. h_other (sym e)) ∙ get_or-set_same nexts x (at nexts h) 0 slot;
        nexts = λ k c d. get_or-set_other (set nexts x (at nexts h)) h k x 0 c ∙ get_or-set_other nexts x k (at nexts h) 0 d;
        prev = get_or-set_same (set prevs (at nexts h) x) x h 0 (subst (λ m. x < m) (sym (length-set prevs (at nexts h) x ∙ old.prevs_len)) slot);
        behind = get_or-set_other (set prevs (at nexts h) x) x (at nexts h) h 0 b ∙ get_or-set_same prevs (at nexts h) x 0 (subst (λ m. at nexts h < m) (sym old.prevs_len) b_slot);
        prevs = λ k c d. get_or-set_other (set prevs (at nexts h) x) x k h 0 c ∙ get_or-set_other prevs (at nexts h) k x 0 d;
      }

  pub added_first : IsAdded nexts prevs rings heads lens j (x ∷ xs) n_first p_first r' l'
  added_first =
      let out = old.out_of j there in
      let away : (k y : ℕ) → at rings k ≢ j → at rings y ≡ j → k ≢ y = λ k y other mine e. other (ap (at rings) e ∙ mine) in
      let other_way : AllByRecursion (λ k. k ≢ x) xs = out.1 in
      added n_first p_first (x ∷ xs) (with_first x xs)
      (path_put (at nexts) (at prevs) (at n_first) (at p_first) x xs h joined_first ring.apart out ring.path)
      ((λ e. h_other (sym e), ring.apart.0), (other_way, ring.apart.1))
      (λ k other not_x. joined_first.nexts k (away k h other ring.owned.0) not_x)
      (λ k other not_x. joined_first.prevs k not_x (away k (at nexts h) other (first_of (λ k. at rings k ≡ j) ring.owned)))
      (length-set (set nexts x (at nexts h)) h x ∙ length-set nexts x (at nexts h))
      (length-set (set prevs (at nexts h) x) x h ∙ length-set prevs (at nexts h) x ∙ old.prevs_len)
