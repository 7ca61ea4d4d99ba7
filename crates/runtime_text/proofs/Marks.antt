-- What marking places leaves.
use Rattle.std.proofs.Common.{◌≡◌, ◌⊎◌, inl, inr, ◌<◌, ◌+◌, ℕ, zero, suc, replicate, true≢false, List, [], ◌∷◌, ◌++◌, Vec, Global, map, Bool, true, false, length, get_or, set, if◌then◌else◌, refl, sym, ap, subst, ◌∙◌, arith, length-append}
use Rattle.std.specs.Prelude.{sum_by}
use Rattle.std.proofs.Math.ListN.{length-set}
use Rattle.std.proofs.lemmas.List.{get_or-map, get_or-set_same, get_or-set_other, get_or_default, length-map, length-replicate}
use Rattle.std.proofs.lemmas.List.Sums.{sum_by-set}
use Rattle.std.proofs.lemmas.Bool.{cases_eq}
use Rattle.base_types.specs.Lists.{IsIn}
use Rattle.base_types.proofs.Members.{in_back, in_either, in_front}
use Rattle.runtime_text.specs.Wires.{is_found, marked, marked_all, wires_at, AreBelow, AreInside, First, Leads, Next, State}

-- ---- items of lists

pub in_one : {A : Type 0} (x y : A) → IsIn x (y ∷ []) → x ≡ y
in_one x y (inl same) = same
in_one x y (inr none) = absurd none

-- ---- one place

-- how many places aren't found
abbrev pub weight : Bool → ℕ
weight true = 0
weight false = 1

abbrev pub missing : List Bool → ℕ
missing found = sum_by weight found

-- what marking these places leaves
pub record Marks (places : List ℕ) (old new : State) : Type 0 where
  pub grows : (j : ℕ) → is_found old.0 j ≡ true → is_found new.0 j ≡ true
  pub comes : (j : ℕ) → is_found new.0 j ≡ true → (is_found old.0 j ≡ true) ⊎ IsIn j places
  pub found : (j : ℕ) → IsIn j places → is_found new.0 j ≡ true
  pub opened : (j : ℕ) → is_found new.0 j ≡ true → (is_found old.0 j ≡ true) ⊎ IsIn j new.1
  pub keeps : (j : ℕ) → IsIn j old.1 → IsIn j new.1
  pub only : (j : ℕ) → IsIn j new.1 → IsIn j old.1 ⊎ IsIn j places
  pub size : length new.0 ≡ length old.0
  pub left : length new.1 + missing new.0 ≡ length old.1 + missing old.0

marks_none : (s : State) → Marks [] s s
marks_none s = record {
  grows = λ j h. h;
  comes = λ j h. inl h;
  found = λ j h. absurd h;
  opened = λ j h. inl h;
  keeps = λ j h. h;
  only = λ j h. inl h;
  size = refl;
  left = refl;
}

set_found : (found : List Bool) (i j : ℕ) → i < length found → is_found (set found i true) j ≡ true → (is_found found j ≡ true) ⊎ (j ≡ i)
set_found found i j within h = elim (cases_eq j i) [ inl same ↦ inr same | inr other ↦ inl (sym (get_or-set_other found i j true false other) ∙ h) ]

stays_found : (found : List Bool) (i j : ℕ) → i < length found → is_found found j ≡ true → is_found (set found i true) j ≡ true
stays_found found i j within h =
    elim (cases_eq j i) [ inl same ↦ ap (is_found (set found i true)) same ∙ get_or-set_same found i true false within | inr other ↦ get_or-set_other found i j true false other ∙ h ]

one_less : (found : List Bool) (i : ℕ) → i < length found → is_found found i ≡ false → missing (set found i true) + 1 ≡ missing found
one_less found i within h =
    let counts = sum_by-set weight found i true false within in
    let here : weight (get_or found i false) ≡ weight false = ap weight h in
    omega (arith, counts, here)

pub marks_one : (b : Bool) (i : ℕ) (s : State) → i < length s.0 → is_found s.0 i ≡ b → Marks (i ∷ []) s (if b then s else (set s.0 i true, s.1 ++ i ∷ []))
marks_one true i s within is = record {
  grows = λ j h. h;
  comes = λ j h. inl h;
  found = λ j h. ap (is_found s.0) (in_one j i h) ∙ is;
  opened = λ j h. inl h;
  keeps = λ j h. h;
  only = λ j h. inl h;
  size = refl;
  left = refl;
}
marks_one false i s within is = record {
  grows = λ j h. stays_found s.0 i j within h;
  comes = λ j h. elim (set_found s.0 i j within h) [ inl old ↦ inl old | inr same ↦ inr (inl same) ];
  found = λ j h. ap (is_found (set s.0 i true)) (in_one j i h) ∙ get_or-set_same s.0 i true false within;
  opened = λ j h. elim (set_found s.0 i j within h) [ inl old ↦ inl old | inr same ↦ inr (in_back j s.1 (i ∷ []) (inl same)) ];
  keeps = λ j h. in_front j s.1 (i ∷ []) h;
  only = λ j h. in_either j s.1 (i ∷ []) h;
  size = length-set s.0 i true;
  left = omega (arith, one_less s.0 i within is, length-append s.1 (i ∷ []));
}

joins : (i : ℕ) (is : List ℕ) (old mid new : State) → Marks (i ∷ []) old mid → Marks is mid new → Marks (i ∷ is) old new
joins i is old mid new one more = record {
  grows = λ j h. more.grows j (one.grows j h);
  comes = λ j h. elim (more.comes j h) [
    | inl before ↦ elim (one.comes j before) [ inl first ↦ inl first | inr one_of ↦ inr (inl (in_one j i one_of)) ]
    | inr there ↦ inr (inr there)
  ];
  found = λ j h. elim h [ inl same ↦ more.grows j (one.found j (inl same)) | inr later ↦ more.found j later ];
  opened = λ j h. elim (more.opened j h) [
    | inl before ↦ elim (one.opened j before) [ inl first ↦ inl first | inr there ↦ inr (more.keeps j there) ]
    | inr there ↦ inr there
  ];
  keeps = λ j h. more.keeps j (one.keeps j h);
  only = λ j h. elim (more.only j h) [
    | inl before ↦ elim (one.only j before) [ inl first ↦ inl first | inr one_of ↦ inr (inl (in_one j i one_of)) ]
    | inr there ↦ inr (inr there)
  ];
  size = more.size ∙ one.size;
  left = more.left ∙ one.left;
}

pub marks_all : (is : List ℕ) (s : State) → AreBelow (length s.0) is → Marks is s (marked_all is s)
marks_all [] s below = marks_none s
marks_all (i ∷ is) s below =
    let one = marks_one (is_found s.0 i) i s (below i (inl refl)) refl in
    joins i is s (marked i s) (marked_all is (marked i s)) one
    (marks_all is (marked i s) (λ j h. subst (λ n. j < n) (sym one.size) (below j (inr h))))

-- ---- the whole search

-- What is found is reached; what is sent from the start is found, and what is sent from each found place that isn't to be
-- looked at any more.
pub record Explored (graph : List (List ℕ)) (start : ℕ) (s : State) : Type 0 where
  pub reached : (j : ℕ) → is_found s.0 j ≡ true → Leads graph start j
  pub begun : (j : ℕ) → IsIn j (wires_at graph start) → is_found s.0 j ≡ true
  pub closed : (i : ℕ) → is_found s.0 i ≡ true → IsIn i s.1 ⊎ ((j : ℕ) → IsIn j (wires_at graph i) → is_found s.0 j ≡ true)
  pub size : length s.0 ≡ length graph
  pub inside : (i : ℕ) → IsIn i s.1 → i < length graph
  pub known : (i : ℕ) → IsIn i s.1 → is_found s.0 i ≡ true

-- a place is taken out and looked at
pub looked_at : (graph : List (List ℕ)) (start i : ℕ) (found : List Bool) (waiting rest : List ℕ) (new : State) → AreInside graph → Explored graph start (found, waiting) → waiting ≡ rest ++ i ∷ []
    → Marks (wires_at graph i) (found, rest) new → Explored graph start new
looked_at graph start i found waiting rest new within so_far split marks = record {
  reached = λ j h. elim (marks.comes j h) [
    | inl old ↦ so_far.reached j old
    | inr sent ↦ Next i j (so_far.reached i (so_far.known i (taken i split (in_back i rest (i ∷ []) (inl refl))))) sent
  ];
  begun = λ j h. marks.grows j (so_far.begun j h);
  closed = λ k h. elim (marks.opened k h) [
    | inl old ↦ elim (so_far.closed k old) [
      | inl there ↦ elim (in_either k rest (i ∷ []) (subst (λ (l : List ℕ). IsIn k l) split there)) [
        | inl still ↦ inl (marks.keeps k still)
        | inr last ↦ inr (λ j sent. marks.found j (subst (λ n. IsIn j (wires_at graph n)) (in_one k i last) sent))
      ]
      | inr done ↦ inr (λ j sent. marks.grows j (done j sent))
    ]
    | inr there ↦ inl there
  ];
  size = marks.size ∙ so_far.size;
  inside = λ k h. elim (marks.only k h) [
    | inl still ↦ so_far.inside k (taken k split (in_front k rest (i ∷ []) still))
    | inr sent ↦ within.inside i k sent
  ];
  known = λ k h. elim (marks.only k h) [
    | inl still ↦ marks.grows k (so_far.known k (taken k split (in_front k rest (i ∷ []) still)))
    | inr sent ↦ marks.found k sent
  ];
}
  where
    taken : (k : ℕ) → waiting ≡ rest ++ i ∷ [] → IsIn k (rest ++ i ∷ []) → IsIn k waiting
    taken k split there = subst (λ (l : List ℕ). IsIn k l) (sym split) there

-- before anything is found
pub nothing_found : (n j : ℕ) → is_found (replicate n false) j ≡ true → ⊥
nothing_found n j h = absurd (true≢false (sym h ∙ all_false n j))
  where
    all_false : (n j : ℕ) → get_or (replicate n false) j false ≡ false
    all_false zero j = refl
    all_false (suc n) zero = refl
    all_false (suc n) (suc j) = all_false n j

-- at the start, what the start sends to was marked
pub started : (graph : List (List ℕ)) (start n : ℕ) (new : State) → AreInside graph → n ≡ length graph → Marks (wires_at graph start) (replicate n false, []) new → Explored graph start new
started graph start n new within size marks = record {
  reached = λ j h. elim (marks.comes j h) [ inl old ↦ absurd (nothing_found n j old) | inr sent ↦ First j sent ];
  begun = λ j h. marks.found j h;
  closed = λ k h. elim (marks.opened k h) [ inl old ↦ absurd (nothing_found n k old) | inr there ↦ inl there ];
  size = marks.size ∙ length-replicate n false ∙ size;
  inside = λ k h. elim (marks.only k h) [ inl none ↦ absurd none | inr sent ↦ within.inside start k sent ];
  known = λ k h. elim (marks.only k h) [ inl none ↦ absurd none | inr sent ↦ marks.found k sent ];
}

-- where nothing is to be looked at, all that is reached is found
pub all_found : (graph : List (List ℕ)) (start : ℕ) (found : List Bool) (waiting : List ℕ) (j : ℕ) → Explored graph start (found, waiting) → waiting ≡ [] → Leads graph start j → is_found found j ≡ true
all_found graph start found waiting j so_far none (First _ sent) = so_far.begun j sent
all_found graph start found waiting j so_far none (Next from _ before sent) =
    let here = all_found graph start found waiting from so_far none before in
    elim (so_far.closed from here) [
      | inl there ↦ absurd (subst (λ (l : List ℕ). IsIn from l) none there)
      | inr done ↦ done j sent
    ]

-- ---- the program's graph

-- what a place sends to, as the program has it
pub wires_here : (graph : List (Vec ℕ Global)) (i : ℕ) (wires : Vec ℕ Global) → i < length graph → wires ≡ get_or graph i wires → wires.items ≡ wires_at (map (λ (w : Vec ℕ Global). w.items) graph) i
wires_here graph i wires within is =
    ap (λ (w : Vec ℕ Global). w.items) is ∙ sym (get_or-map (λ (w : Vec ℕ Global). w.items) graph i wires [] within)

pub item_at : (xs : List ℕ) (i : ℕ) → i < length xs → IsIn (get_or xs i 0) xs
item_at [] i within = absurd (omega arith)
item_at (x ∷ xs) zero within = inl refl
item_at (x ∷ xs) (suc i) within = inr (item_at xs i (omega arith))

pub begun_by : (graph : List (List ℕ)) (start n : ℕ) (old new : State) → AreInside graph → n ≡ length graph → old ≡ (replicate n false, []) → new ≡ marked_all (wires_at graph start) old → Explored graph start new
begun_by graph start n old new within size is marks =
    started graph start n new within size
    (subst (λ (s : State). Marks (wires_at graph start) s new) is
    (subst (λ (s : State). Marks (wires_at graph start) old s) (sym marks)
    (marks_all (wires_at graph start) old (λ j sent. subst (λ m. j < m) (sym (ap (λ (s : State). length s.0) is ∙ length-replicate n false ∙ size)) (within.inside start j sent)))))

pub below_found : (graph : List (List ℕ)) (start i : ℕ) (s : State) → AreInside graph → Explored graph start s → AreBelow (length s.0) (wires_at graph i)
below_found graph start i s within so_far = λ j sent. subst (λ m. j < m) (sym so_far.size) (within.inside i j sent)

looked : (graph : List (List ℕ)) (start i : ℕ) (found : List Bool) (waiting rest : List ℕ) (new : State) → AreInside graph → Explored graph start (found, waiting) → new ≡ marked_all (wires_at graph i) (found, rest)
    → Marks (wires_at graph i) (found, rest) new
looked graph start i found waiting rest new within so_far marks =
    subst (λ (s : State). Marks (wires_at graph i) (found, rest) s) (sym marks)
    (marks_all (wires_at graph i) (found, rest) (below_found graph start i (found, waiting) within so_far))

pub goes_on : (graph : List (List ℕ)) (start i : ℕ) (found : List Bool) (waiting rest : List ℕ) (new : State) → AreInside graph → Explored graph start (found, waiting) → waiting ≡ rest ++ i ∷ []
    → new ≡ marked_all (wires_at graph i) (found, rest) → Explored graph start new
goes_on graph start i found waiting rest new within so_far split marks =
    looked_at graph start i found waiting rest new within so_far split (looked graph start i found waiting rest new within so_far marks)

pub fewer : (graph : List (List ℕ)) (start i : ℕ) (found : List Bool) (waiting rest : List ℕ) (new : State) → AreInside graph → Explored graph start (found, waiting) → waiting ≡ rest ++ i ∷ []
    → new ≡ marked_all (wires_at graph i) (found, rest) → length new.1 + missing new.0 < length waiting + missing found
fewer graph start i found waiting rest new within so_far split marks =
    let left = (looked graph start i found waiting rest new within so_far marks).left in
    let more = ap length split ∙ length-append rest (i ∷ []) in
    omega (arith, left, more)

pub place_inside : (graph : List (Vec ℕ Global)) (start i : ℕ) (found : List Bool) (waiting rest : List ℕ) → Explored (map (λ (w : Vec ℕ Global). w.items) graph) start (found, waiting) → waiting ≡ rest ++ i ∷ [] → i < length graph
place_inside graph start i found waiting rest so_far split =
    subst (λ n. i < n) (length-map graph (λ (w : Vec ℕ Global). w.items))
    (so_far.inside i (subst (λ (l : List ℕ). IsIn i l) (sym split) (in_back i rest (i ∷ []) (inl refl))))

pub answers : (graph : List (List ℕ)) (start : ℕ) (found : List Bool) (waiting : List ℕ) (b : Bool) → Explored graph start (found, waiting) → waiting ≡ [] → start < length graph → b ≡ get_or found start b
    → (b ≡ true → Leads graph start start) × (Leads graph start start → b ≡ true)
answers graph start found waiting b so_far none within is =
    let inside : start < length found = subst (λ n. start < n) (sym so_far.size) within in
    let same : b ≡ is_found found start = is ∙ get_or_default found start b false inside in
    ((λ h. so_far.reached start (sym same ∙ h)), (λ leads. same ∙ all_found graph start found waiting start so_far none leads))
