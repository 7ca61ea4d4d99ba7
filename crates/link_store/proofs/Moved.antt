-- A slot goes from one ring to another, and its cell may change.
use Rattle.std.proofs.Common.{◌≡◌, ◌≢◌, ◌<◌, ◌+◌, ◌^◌, ◌∙◌, ◌⊎◌, ℕ, suc, List, [], ◌∷◌, ◌++◌, length, get_or, set, Option, None, IsSome, ap, sym, subst, refl, inl, inr, arith, get_or-set_same, get_or-set_other}
use Rattle.std.specs.List.{AllByRecursion}
use Rattle.std.proofs.lemmas.Bool.{cases_eq}
use Rattle.std.proofs.lemmas.List.{length-set}
use Rattle.link_store.specs.declared.slots.Held.{Held}
use Rattle.link_store.specs.Rings.{IsShifted, IsRing, at, ring_of}
use Rattle.link_store.specs.Kept.{IsLinked, items_of, lists_of}
use Rattle.link_store.proofs.Added.{IsWith}
use Rattle.link_store.proofs.Paths.{all_wider, all_both, all_back, all_less, apart_of, length-walk}
use Rattle.link_store.proofs.Views.{items_kept, length-lists_of, lists_at, two_set}

module _ {T : Type 0} (nexts prevs rings heads lens : List ℕ) (cells : List (Option (Held T))) (from to x : ℕ) (ps qs ys n' p' r' l' : List ℕ) (cell : Option (Held T))
    (old : IsLinked nexts prevs rings cells heads lens) (differ : from ≢ to) (there : from < length heads) (there_to : to < length heads)
    (stands : ring_of nexts heads lens from ≡ ps ++ x ∷ qs) (with_x : IsWith x (ring_of nexts heads lens to) ys)
    (moved : IsShifted nexts heads lens from to (ps ++ qs) ys n' p' r' l') (as_many : length n' ≡ length nexts)
    (empty : to ≡ 0 → cell ≡ None) (filled : 0 < to → IsSome cell) where
  abbrev c' : List (Option (Held T))
  c' = set cells x cell

  ring : IsRing (at nexts) (at prevs) (at rings) (length nexts) from (at heads from) (ps ++ x ∷ qs)
  ring = subst (λ xs. IsRing (at nexts) (at prevs) (at rings) (length nexts) from (at heads from) xs) stands (old.joined.round from there)

  pub inside : x < length cells
  inside = subst (λ m. x < m) (sym old.cells_len) (all_back (λ k. k < length nexts) (at heads from ∷ ps) x qs ring.inside).0

  owned : at rings x ≡ from
  owned = (all_back (λ k. at rings k ≡ from) (at heads from ∷ ps) x qs ring.owned).0

  here : get_or c' x None ≡ cell
  here = get_or-set_same cells x cell None inside

  same_at : (k : ℕ) → k ≢ x → get_or c' k None ≡ get_or cells k None
  same_at k other = get_or-set_other cells x k cell None other

  -- the other slots of the same ring, and those of other rings, aren't x
  rest_apart : AllByRecursion (λ k. k ≢ x) (at heads from ∷ ps ++ qs)
  rest_apart = apart_of (at heads from ∷ ps) x qs ring.apart

  theirs_apart : (i : ℕ) → i < length heads → i ≢ from → AllByRecursion (λ k. k ≢ x) (at heads i ∷ ring_of nexts heads lens i)
  theirs_apart i within other = all_wider (λ k. at rings k ≡ i) (λ k. k ≢ x) (at heads i ∷ ring_of nexts heads lens i)
      (λ k mine e. other (sym mine ∙ ap (at rings) e ∙ owned)) (old.joined.round i within).owned

  abbrev Same : ℕ → Type 0
  Same k = get_or c' k None ≡ get_or cells k None

  rest_same : AllByRecursion Same (at heads from ∷ ps ++ qs)
  rest_same = all_wider (λ k. k ≢ x) Same (at heads from ∷ ps ++ qs) same_at rest_apart

  theirs_same : (i : ℕ) → i < length heads → i ≢ from → AllByRecursion Same (at heads i ∷ ring_of nexts heads lens i)
  theirs_same i within other = all_wider (λ k. k ≢ x) Same (at heads i ∷ ring_of nexts heads lens i) same_at (theirs_apart i within other)

  -- what held of the cells of some slots still does
  kept : (P : Option (Held T) → Type 0) (ks : List ℕ) → AllByRecursion Same ks → AllByRecursion (λ k. P (get_or cells k None)) ks → AllByRecursion (λ k. P (get_or c' k None)) ks
  kept P ks same all = all_both Same (λ k. P (get_or cells k None)) (λ k. P (get_or c' k None)) ks (λ k e is. subst P (sym e) is) same all

  -- what holds of the cells of a ring, where it holds of the one that came
  each : (P : Option (Held T) → Type 0) (j : ℕ) → (j ≡ from) ⊎ (j ≢ from) → (j ≡ to) ⊎ (j ≢ to) → j < length heads → (j ≡ to → P cell) → AllByRecursion (λ k. P (get_or cells k None)) (ring_of nexts heads lens j)
      → AllByRecursion (λ k. P (get_or c' k None)) (ring_of n' heads l' j)
  each P j (inl e) is_to within new all = rw (e, moved.left) (kept P (ps ++ qs) rest_same.1 (all_less (λ k. P (get_or cells k None)) ps x qs (subst (λ xs. AllByRecursion (λ k. P (get_or cells k None)) xs) (ap (ring_of nexts heads lens) e ∙ stands) all)))
  each P j (inr other) (inl e) within new all = rw (e, moved.come) (with_x.all (λ k. P (get_or c' k None)) (subst P (sym here) (new e)) (kept P (ring_of nexts heads lens to) (theirs_same to there_to (λ same. differ (sym same))).1 (subst (λ i. AllByRecursion (λ k. P (get_or cells k None)) (ring_of nexts heads lens i)) e all)))
  each P j (inr other) (inr apart) within new all = rw (moved.others j within other apart) (kept P (ring_of nexts heads lens j) (theirs_same j within other).1 all)

  head_same : (j : ℕ) → (j ≡ from) ⊎ (j ≢ from) → j < length heads → Same (at heads j)
  head_same j (inl e) within = rw e rest_same.0
  head_same j (inr other) within = (theirs_same j within other).0

  pub linked : IsLinked n' p' r' c' heads l'
  linked = record {
    joined = moved.kept;
    cells_len = length-set cells x cell ∙ old.cells_len ∙ sym as_many;
    some = old.some;
    few = subst (λ m. m < 2 ^ 62) (sym as_many) old.few;
    full = λ j some within. each (λ o. IsSome o) j (cases_eq j from) (cases_eq j to) within (λ e. filled (subst (λ i. 0 < i) e some)) (old.full j some within);
    free = each (λ o. o ≡ None) 0 (cases_eq 0 from) (cases_eq 0 to) old.some (λ e. empty (sym e)) old.free;
    ends = λ j within. head_same j (cases_eq j from) within ∙ old.ends j within;
  }

  left : items_of c' (ring_of n' heads l' from) ≡ items_of cells (ps ++ qs)
  left = ap (items_of c') moved.left ∙ items_kept c' cells (ps ++ qs) rest_same.1

  come : items_of c' (ring_of n' heads l' to) ≡ items_of c' ys
  come = ap (items_of c') moved.come

  others : (i : ℕ) → i < length heads → i ≢ from → i ≢ to → items_of c' (ring_of n' heads l' i) ≡ items_of cells (ring_of nexts heads lens i)
  others i within other apart = ap (items_of c') (moved.others i within other apart) ∙ items_kept c' cells (ring_of nexts heads lens i) (theirs_same i within other).1

  -- the slots of the ring that x came to hold what they held
  pub to_same : items_of c' (ring_of nexts heads lens to) ≡ items_of cells (ring_of nexts heads lens to)
  to_same = items_kept c' cells (ring_of nexts heads lens to) (theirs_same to there_to (λ same. differ (sym same))).1

  pub lists : lists_of n' c' heads l' ≡ set (set (lists_of nexts cells heads lens) from (items_of cells (ps ++ qs))) to (items_of c' ys)
  lists =
      let len : length l' ≡ length heads = moved.kept.lens_len in
      let len_old : length lens ≡ length heads = old.joined.lens_len in
      let count : length (lists_of n' c' heads l') ≡ length heads = length-lists_of n' c' heads l' len in
      let count_old : length (lists_of nexts cells heads lens) ≡ length heads = length-lists_of nexts cells heads lens len_old in
      two_set (lists_of nexts cells heads lens) (lists_of n' c' heads l') from to (items_of cells (ps ++ qs)) (items_of c' ys) (count ∙ sym count_old) differ (omega arith) (omega arith)
      (lists_at n' c' heads l' from there len ∙ left)
      (lists_at n' c' heads l' to there_to len ∙ come)
      (λ i within other apart.
      let within' : i < length heads = omega arith in
      lists_at n' c' heads l' i within' len ∙ others i within' other apart ∙ sym (lists_at nexts cells heads lens i within' len_old))

  pub one_less : at l' from + 1 ≡ at lens from
  one_less =
      let now : length (ring_of n' heads l' from) ≡ at l' from = length-walk (at n') (at l' from) (at n' (at heads from)) in
      let was : length (ring_of nexts heads lens from) ≡ at lens from = length-walk (at nexts) (at lens from) (at nexts (at heads from)) in
      let some = ap length stands in
      let less = ap length moved.left in
      let two : length (ps ++ x ∷ qs) ≡ suc (length (ps ++ qs)) = one_longer ps x qs in
      omega (arith, now, was, some, less, two)
    where
      one_longer : (ps : List ℕ) (x : ℕ) (qs : List ℕ) → length (ps ++ x ∷ qs) ≡ suc (length (ps ++ qs))
      one_longer [] x qs = refl
      one_longer (p ∷ ps) x qs = ap suc (one_longer ps x qs)

  pub one_more : at l' to ≡ at lens to + 1
  one_more =
      let now : length (ring_of n' heads l' to) ≡ at l' to = length-walk (at n') (at l' to) (at n' (at heads to)) in
      let was : length (ring_of nexts heads lens to) ≡ at lens to = length-walk (at nexts) (at lens to) (at nexts (at heads to)) in
      let come = ap length moved.come in
      omega (arith, now, was, come, with_x.longer)

  pub as_long : (i : ℕ) → i < length heads → i ≢ from → i ≢ to → at l' i ≡ at lens i
  as_long i within other apart = sym (length-walk (at n') (at l' i) (at n' (at heads i))) ∙ ap length (moved.others i within other apart) ∙ length-walk (at nexts) (at lens i) (at nexts (at heads i))
