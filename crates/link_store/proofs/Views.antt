-- The lists that contracts see, by their rings.
use Rattle.std.proofs.Common.{◌≡◌, ◌≢◌, ◌<◌, ◌+◌, ◌∙◌, ◌⊎◌, ℕ, zero, suc, List, [], ◌∷◌, ◌++◌, length, get_or, set, drop, Option, Some, None, ap, sym, subst, refl, inl, inr, arith, get_or-set_same, get_or-set_other}
use Rattle.std.specs.List.{AllByRecursion}
use Rattle.std.proofs.lemmas.Bool.{cases_eq}
use Rattle.std.proofs.lemmas.List.{length-set, ext_get_or, drop-set-add, set-get_or}
use Rattle.std.proofs.lemmas.Grind.{get_or_after_one}
use Rattle.link_store.specs.declared.slots.Held.{Held}
use Rattle.link_store.specs.Rings.{ring_of}
use Rattle.link_store.specs.Links.{Item}
use Rattle.link_store.specs.Kept.{items_of, lists_of, with_item}

-- two lists are others, and all else is as it was
pub two_set : {A : Type 0} (old new : List (List A)) (i j : ℕ) (xs ys : List A) → length new ≡ length old → i ≢ j → i < length old → j < length old → get_or new i [] ≡ xs → get_or new j [] ≡ ys
    → ((k : ℕ) → k < length old → k ≢ i → k ≢ j → get_or new k [] ≡ get_or old k []) → new ≡ set (set old i xs) j ys
two_set {A} old new i j xs ys same differ i_within j_within first second others =
    ext_get_or [] new (set (set old i xs) j ys) (same ∙ sym (length-set (set old i xs) j ys ∙ length-set old i xs)) (λ k within. each k within (cases_eq k i) (cases_eq k j))
  where
    each : (k : ℕ) → k < length new → (k ≡ i) ⊎ (k ≢ i) → (k ≡ j) ⊎ (k ≢ j) → get_or new k [] ≡ get_or (set (set old i xs) j ys) k []
    each k within is_i (inl e) = ap (λ n. get_or new n []) e ∙ second ∙ sym (get_or-set_same (set old i xs) j ys [] (subst (λ n. j < n) (sym (length-set old i xs)) j_within)) ∙ ap (λ n. get_or (set (set old i xs) j ys) n []) (sym e)
    each k within (inl e) (inr other) = ap (λ n. get_or new n []) e ∙ first ∙ sym (get_or-set_same old i xs [] i_within) ∙ ap (λ n. get_or (set old i xs) n []) (sym e) ∙ sym (get_or-set_other (set old i xs) j k ys [] other)
    each k within (inr apart) (inr other) = others k (subst (λ n. k < n) same within) apart other ∙ sym (get_or-set_other old i k xs [] apart) ∙ sym (get_or-set_other (set old i xs) j k ys [] other)

-- behind the first list
pub set_behind : {A : Type 0} (lists : List A) (k : ℕ) (a : A) → drop 1 (set lists (k + 1) a) ≡ set (drop 1 lists) k a
set_behind lists k a = let e : k + 1 ≡ 1 + k = omega arith in ap (λ n. drop 1 (set lists n a)) e ∙ drop-set-add 1 lists k a

pub get_behind : {A : Type 0} (lists : List A) (k : ℕ) (d : A) → get_or (drop 1 lists) k d ≡ get_or lists (k + 1) d
get_behind lists k d = let e : 1 + k ≡ k + 1 = omega arith in get_or_after_one lists k d ∙ ap (λ n. get_or lists n d) e

-- writing what stands there changes nothing
pub set_same : {A : Type 0} (lists : List A) (k : ℕ) (a d : A) → get_or lists k d ≡ a → set lists k a ≡ lists
set_same lists k a d e = ap (set lists k) (sym e) ∙ set-get_or lists k d

module _ {T : Type 0} where
  pub items_kept : (cells' cells : List (Option (Held T))) (ks : List ℕ) → AllByRecursion (λ k. get_or cells' k None ≡ get_or cells k None) ks → items_of cells' ks ≡ items_of cells ks
  items_kept cells' cells [] same = refl
  items_kept cells' cells (k ∷ ks) same = ap (λ o. with_item k o (items_of cells' ks)) same.0 ∙ ap (with_item k (get_or cells k None)) (items_kept cells' cells ks same.1)

  pub with_item_append : (k : ℕ) (o : Option (Held T)) (xs ys : List (Item T)) → with_item k o (xs ++ ys) ≡ with_item k o xs ++ ys
  with_item_append k None xs ys = refl
  with_item_append k (Some held) xs ys = refl

  pub items_append : (cells : List (Option (Held T))) (ks ls : List ℕ) → items_of cells (ks ++ ls) ≡ items_of cells ks ++ items_of cells ls
  items_append cells [] ls = refl
  items_append cells (k ∷ ks) ls = ap (with_item k (get_or cells k None)) (items_append cells ks ls) ∙ with_item_append k (get_or cells k None) (items_of cells ks) (items_of cells ls)

  -- free slots hold no items
  pub items_none : (cells : List (Option (Held T))) (ks : List ℕ) → AllByRecursion (λ k. get_or cells k None ≡ None) ks → items_of cells ks ≡ []
  items_none cells [] free = refl
  items_none cells (k ∷ ks) free = ap (λ o. with_item k o (items_of cells ks)) free.0 ∙ items_none cells ks free.1

  pub lists_at : (nexts : List ℕ) (cells : List (Option (Held T))) (heads lens : List ℕ) (j : ℕ) → j < length heads → length lens ≡ length heads → get_or (lists_of nexts cells heads lens) j [] ≡ items_of cells (ring_of nexts heads lens j)
  lists_at nexts cells [] lens j within same = absurd (omega (arith, within))
  lists_at nexts cells (head ∷ heads) [] j within same = absurd (omega (arith, same))
  lists_at nexts cells (head ∷ heads) (len ∷ lens) zero within same = refl
  lists_at nexts cells (head ∷ heads) (len ∷ lens) (suc j) within same = lists_at nexts cells heads lens j (omega (arith, within)) (omega (arith, same))

  pub length-lists_of : (nexts : List ℕ) (cells : List (Option (Held T))) (heads lens : List ℕ) → length lens ≡ length heads → length (lists_of nexts cells heads lens) ≡ length heads
  length-lists_of nexts cells [] lens same = refl
  length-lists_of nexts cells (head ∷ heads) [] same = absurd (omega (arith, same))
  length-lists_of nexts cells (head ∷ heads) (len ∷ lens) same = ap suc (length-lists_of nexts cells heads lens (omega (arith, same)))
