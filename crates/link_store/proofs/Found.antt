-- Where the item of a node stands.
use Rattle.std.proofs.Common.{◌≡◌, ◌≢◌, ◌<◌, ◌≤◌, ◌∙◌, ◌⊎◌, ℕ, suc, List, [], ◌∷◌, ◌++◌, length, get_or, set, Option, Some, None, IsSome, IfSome, ap, sym, subst, refl, inl, inr, arith, get_or-set_other}
use Rattle.std.specs.List.{AllByRecursion}
use Rattle.std.proofs.lemmas.Bool.{cases_eq, cases_lt}
use Rattle.std.proofs.lemmas.List.{get_or_past}
use Rattle.base_types.specs.Lists.{IsIn}
use Rattle.link_store.specs.declared.node.Node.{Node}
use Rattle.link_store.specs.declared.slots.Held.{Held}
use Rattle.link_store.specs.Rings.{AreApart, at, ring_of}
use Rattle.link_store.specs.Links.{Item}
use Rattle.link_store.specs.Kept.{IsCut, IsLinked, held_item, items_of, with_item}
use Rattle.link_store.proofs.Bounds.{all_in}
use Rattle.link_store.proofs.Paths.{all_back}
use Rattle.link_store.proofs.Views.{items_append, set_same}

-- what a slot that holds an item is: one of a list
pub record IsListed (nexts rings heads lens : List ℕ) (x : ℕ) : Type 0 where
  pub inside : x < length nexts
  pub there : at rings x < length heads
  pub list : 0 < at rings x
  pub stands : IsIn x (ring_of nexts heads lens (at rings x))

module _ {T : Type 0} where
  pub listed : (nexts prevs rings heads lens : List ℕ) (cells : List (Option (Held T))) (x : ℕ) (held : Held T) → IsLinked nexts prevs rings cells heads lens → get_or cells x None ≡ Some held → IsListed nexts rings heads lens x
  listed nexts prevs rings heads lens cells x held old is = record {
    inside = inside (cases_lt x (length nexts));
    there = covered.0;
    list = list (cases_eq (at rings x) 0);
    stands = stands covered.1;
  }
    where
      inside : (x < length nexts) ⊎ (length nexts ≤ x) → x < length nexts
      inside (inl here) = here
      inside (inr past) = absurd (cc (is, get_or_past cells x None (subst (λ n. n ≤ x) (sym old.cells_len) past)))

      covered : (at rings x < length heads) × IsIn x (at heads (at rings x) ∷ ring_of nexts heads lens (at rings x))
      covered = old.joined.covered x (inside (cases_lt x (length nexts))) (λ e. absurd (omega (arith, e, inside (cases_lt x (length nexts)))))

      stands : IsIn x (at heads (at rings x) ∷ ring_of nexts heads lens (at rings x)) → IsIn x (ring_of nexts heads lens (at rings x))
      stands (inl e) = absurd (cc (is, ap (λ k. get_or cells k None) e, old.ends (at rings x) covered.0))
      stands (inr later) = later

      list : (at rings x ≡ 0) ⊎ (at rings x ≢ 0) → 0 < at rings x
      list (inl e) = absurd (cc (is, all_in (λ k. get_or cells k None ≡ None) (ring_of nexts heads lens 0) x old.free (subst (λ j. IsIn x (ring_of nexts heads lens j)) e (stands covered.1))))
      list (inr some) = omega (arith, some)

  -- the items of a ring that is split at a slot
  pub items_split : (cells : List (Option (Held T))) (ps : List ℕ) (x : ℕ) (qs : List ℕ) (held : Held T) → get_or cells x None ≡ Some held → items_of cells (ps ++ x ∷ qs) ≡ items_of cells ps ++ held_item x held ∷ items_of cells qs
  items_split cells ps x qs held is = items_append cells ps (x ∷ qs) ∙ ap (λ o. items_of cells ps ++ with_item x o (items_of cells qs)) is

  pub node_item : (node : Node) (held : Held T) → held.number ≡ node.number → held_item node.slot held ≡ record { node = node; value = held.value }
  node_item node held e = ap (λ (n : ℕ). record { node = record { slot = node.slot; number = n }; value = held.value }) e

  pub cut : (node : Node) (held : Held T) (j : ℕ) (ps qs : List ℕ) (cells : List (Option (Held T))) (all after : List (List (Item T))) (answer : Option T) → answer ≡ Some held.value → held.number ≡ node.number → get_or cells node.slot None ≡ Some held
      → get_or all j [] ≡ items_of cells (ps ++ node.slot ∷ qs) → get_or all 0 [] ≡ [] → 0 < j → after ≡ set (set all j (items_of cells (ps ++ qs))) 0 [] → IfSome answer (λ value. IsCut node value all after)
  cut node held j ps qs cells all after answer e number is stood free some done = subst (λ o. IfSome o (λ value. IsCut node value all after)) (sym e) (record {
    ring = j;
    list = some;
    before = items_of cells ps;
    behind = items_of cells qs;
    stood = stood ∙ items_split cells ps node.slot qs held is ∙ ap (λ i. items_of cells ps ++ i ∷ items_of cells qs) (node_item node held number);
    left = done ∙ set_same (set all j (items_of cells (ps ++ qs))) 0 [] [] (get_or-set_other all j 0 (items_of cells (ps ++ qs)) [] (λ same. absurd (omega (arith, same, some))) ∙ free)
        ∙ ap (set all j) (items_append cells ps qs);
  })

  -- an item among those of slots that all hold one
  pub record IsShown (cells : List (Option (Held T))) (ks : List ℕ) (before : List (Item T)) (item : Item T) (behind : List (Item T)) : Type 0 where
    pub held : Held T
    pub holds : get_or cells item.node.slot None ≡ Some held
    pub number : held.number ≡ item.node.number
    pub value : held.value ≡ item.value
    pub front : List ℕ
    pub back : List ℕ
    pub split : ks ≡ front ++ item.node.slot ∷ back
    pub first : items_of cells front ≡ before
    pub last : items_of cells back ≡ behind

  shown_here : (cells : List (Option (Held T))) (k : ℕ) (ks : List ℕ) (cell : Option (Held T)) (item : Item T) (behind : List (Item T)) → get_or cells k None ≡ cell → IsSome cell → with_item k cell (items_of cells ks) ≡ item ∷ behind → IsShown cells (k ∷ ks) [] item behind
  shown_here cells k ks None item behind is some e = absurd (cc)
  shown_here cells k ks (Some held) item behind is some e =
      let same : held_item k held ≡ item = cc in
      let slot : k ≡ item.node.slot = ap (λ i. i.node.slot) same in
      record {
        held = held;
        holds = ap (λ n. get_or cells n None) (sym slot) ∙ is;
        number = ap (λ i. i.node.number) same;
        value = ap (λ i. i.value) same;
        front = [];
        back = ks;
        split = ap (λ n. n ∷ ks) slot;
        first = refl;
        last = cc;
      }

  shown_later : (cells : List (Option (Held T))) (k : ℕ) (ks : List ℕ) (cell : Option (Held T)) (first : Item T) (before : List (Item T)) (item : Item T) (behind : List (Item T)) → get_or cells k None ≡ cell → IsSome cell → with_item k cell (items_of cells ks) ≡ first ∷ before ++ item ∷ behind
      → (items_of cells ks ≡ before ++ item ∷ behind → IsShown cells ks before item behind) → IsShown cells (k ∷ ks) (first ∷ before) item behind
  shown_later cells k ks None first before item behind is some e rest = absurd (cc)
  shown_later cells k ks (Some held) first before item behind is some e rest =
      let was = rest (cc) in
      let same : held_item k held ≡ first = cc in
      record {
        held = was.held;
        holds = was.holds;
        number = was.number;
        value = was.value;
        front = k ∷ was.front;
        back = was.back;
        split = ap (λ xs. k ∷ xs) was.split;
        first = ap (λ o. with_item k o (items_of cells was.front)) is ∙ ap (λ i. i ∷ items_of cells was.front) same ∙ ap (λ xs. first ∷ xs) was.first;
        last = was.last;
      }

  pub shown : (cells : List (Option (Held T))) (ks : List ℕ) (before : List (Item T)) (item : Item T) (behind : List (Item T)) → AllByRecursion (λ k. IsSome (get_or cells k None)) ks → items_of cells ks ≡ before ++ item ∷ behind → IsShown cells ks before item behind
  shown cells [] [] item behind full e = absurd (cc)
  shown cells [] (first ∷ before) item behind full e = absurd (cc)
  shown cells (k ∷ ks) [] item behind full e = shown_here cells k ks (get_or cells k None) item behind refl full.0 e
  shown cells (k ∷ ks) (first ∷ before) item behind full e = shown_later cells k ks (get_or cells k None) first before item behind refl full.0 e (λ f. shown cells ks before item behind full.1 f)

  -- a list that has an item is there
  pub within_lists : (all : List (List (Item T))) (j : ℕ) (before : List (Item T)) (item : Item T) (behind : List (Item T)) → get_or all j [] ≡ before ++ item ∷ behind → j < length all
  within_lists all j before item behind e = by_case (cases_lt j (length all))
    where
      by_case : (j < length all) ⊎ (length all ≤ j) → j < length all
      by_case (inl is) = is
      by_case (inr past) = absurd (not_empty before (sym (get_or_past all j [] past) ∙ e))
        where
          not_empty : (before : List (Item T)) → [] ≡ before ++ item ∷ behind → ⊥
          not_empty [] e = cc
          not_empty (first ∷ before) e = cc

  -- a ring has as many items as slots
  pub length-items_of : (cells : List (Option (Held T))) (ks : List ℕ) → AllByRecursion (λ k. IsSome (get_or cells k None)) ks → length (items_of cells ks) ≡ length ks
  length-items_of cells [] full = refl
  length-items_of cells (k ∷ ks) full = one_longer k (get_or cells k None) (items_of cells ks) full.0 ∙ ap suc (length-items_of cells ks full.1)
    where
      one_longer : (k : ℕ) (cell : Option (Held T)) (rest : List (Item T)) → IsSome cell → length (with_item k cell rest) ≡ suc (length rest)
      one_longer k None rest is = absurd (cc)
      one_longer k (Some held) rest is = refl

-- where numbers are apart, each splits a list at one place
pub apart_once : (xs ys : List ℕ) (x : ℕ) (ps qs : List ℕ) → AreApart (xs ++ x ∷ ys) → xs ++ x ∷ ys ≡ ps ++ x ∷ qs → (xs ≡ ps) × (ys ≡ qs)
apart_once [] ys x [] qs apart e = (refl, cc)
apart_once [] ys x (p ∷ ps) qs apart e =
    let same : x ≡ p = cc in
    let rest : ys ≡ ps ++ x ∷ qs = cc in
    absurd ((all_back (λ k. k ≢ x) ps x qs (subst (AllByRecursion (λ k. k ≢ x)) rest apart.0)).0 refl)
apart_once (y ∷ xs) ys x [] qs apart e =
    let same : y ≡ x = cc in
    absurd ((all_back (λ k. k ≢ y) xs x ys apart.0).0 (sym same))
apart_once (y ∷ xs) ys x (p ∷ ps) qs apart e =
    let rest = apart_once xs ys x ps qs apart.1 (cc) in
    let same : y ≡ p = cc in
    (ap (λ z. z ∷ xs) same ∙ ap (λ zs. p ∷ zs) rest.0, rest.1)
