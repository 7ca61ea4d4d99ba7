-- What is found by name in the list of held files, before and after a change.
use Rattle.std.proofs.Common.{◌≡◌, ◌≢◌, ◌<◌, ℕ, zero, suc, Bool, true, false, if◌then◌else◌, List, [], ◌∷◌, ◌++◌, length, get_or, position, Option, Some, None, IsSome, is_some, unwrap_or, cond, ◌+◌, refl, sym, ap, ◌∙◌, arith}
use Rattle.std.proofs.Math.ListN.{set, length-set}
use Rattle.std.proofs.Math.Seq.{map-set_same}
use Rattle.std.specs.Str.{bytes_eq}
use Rattle.std.specs.List.{position_from}
use Rattle.std.proofs.lemmas.List.{get_or-set_same, get_or-set_other}
use Rattle.std.proofs.lemmas.List.Quantifiers.{position-Some}
use Rattle.std.proofs.lemmas.Iterator.Adapters.{position_from-zero}
use Rattle.std.proofs.lemmas.Slice.Eq.{bytes_eq-Decides}
use Rattle.edge_traits.specs.Named.{find_named}
use Rattle.edge_memory.specs.declared.shelf.Held.{Held}
use Rattle.edge_memory.specs.Shelf.{named}

-- something else is found under one name, and the same under each other
pub record Renewed {A : Type 0} (part : Held → A) (name : List ℕ) (old new : List Held) (value : A) : Type 0 where
  pub found : find_named name (named part new) ≡ Some value
  pub others : (other : List ℕ) → other ≢ name → find_named other (named part new) ≡ find_named other (named part old)

-- the first file of the name stands at this place
pub record IsPlace (name : List ℕ) (held : List Held) (i : ℕ) (d : Held) : Type 0 where
  pub within : i < length held
  pub here : bytes_eq name (get_or held i d).name ≡ true
  pub before : (k : ℕ) → k < i → bytes_eq name (get_or held k d).name ≡ false

pub eq_same : (a : List ℕ) → bytes_eq a a ≡ true
eq_same a = (bytes_eq-Decides a a).1 refl

not_eq : (a b : List ℕ) → a ≢ b → bytes_eq a b ≡ false
not_eq a b ne = by_test (bytes_eq a b) refl
  where
    by_test : (t : Bool) → t ≡ bytes_eq a b → t ≡ false
    by_test true e = absurd (ne ((bytes_eq-Decides a b).0 (sym e)))
    by_test false e = refl

-- the place of a name in the list
abbrev pub place : List ℕ → List Held → Option ℕ
place name held = position (λ h. bytes_eq name h.name) held

pub is_place : (name : List ℕ) (held seen : List Held) (i : ℕ) (d : Held) (r : Option ℕ) → seen ≡ held → r ≡ place name seen → r ≡ Some i → IsPlace name held i d
is_place name held seen i d r same looked is =
    let facts = position-Some (λ h. bytes_eq name h.name) held i d (sym (looked ∙ ap (place name) same) ∙ is) in
    record { within = facts.0; here = facts.1; before = facts.2 }

pub found_at : {A : Type 0} (part : Held → A) (name : List ℕ) (d : Held) (held : List Held) (i : ℕ) → IsPlace name held i d → find_named name (named part held) ≡ Some (part (get_or held i d))
found_at part name d [] i is = absurd (omega (arith, is.within))
found_at part name d (x ∷ held) zero is = let here : bytes_eq name x.name ≡ true = is.here in rw here
found_at part name d (x ∷ held) (suc i) is =
    let first : bytes_eq name x.name ≡ false = is.before zero (omega arith) in
    let rest : IsPlace name held i d = record { within = omega (arith, is.within); here = is.here; before = λ k lt. is.before (suc k) (omega arith) } in
    rw first (found_at part name d held i rest)

others_set : {A : Type 0} (part : Held → A) (other : List ℕ) (d y : Held) (held : List Held) (i : ℕ) → i < length held → bytes_eq other y.name ≡ false → y.name ≡ (get_or held i d).name → find_named other (named part (set held i y)) ≡ find_named other (named part held)
others_set part other d y [] i lt differs same = absurd (omega arith)
others_set part other d y (x ∷ held) zero lt differs same =
    let before : bytes_eq other x.name ≡ false = ap (bytes_eq other) (sym same) ∙ differs in
    rw (differs, before)
others_set part other d y (x ∷ held) (suc i) lt differs same =
    ap (λ o. if bytes_eq other x.name then Some (part x) else o) (others_set part other d y held i (omega arith) differs same)

place_set : (name : List ℕ) (held : List Held) (i : ℕ) (d y : Held) → IsPlace name held i d → y.name ≡ (get_or held i d).name → IsPlace name (set held i y) i d
place_set name held i d y is same =
    let lt : i < length held = is.within in
    record {
      within = rw length-set is.within;
      here = rw (get_or-set_same held i y d lt, same) is.here;
      before = λ k below. let ne : k ≢ i = omega arith in rw (get_or-set_other held i k y d ne) (is.before k below);
    }

-- the file at the name's place is changed, and keeps its name
pub renewed_set : {A : Type 0} (part : Held → A) (name : List ℕ) (held : List Held) (i : ℕ) (d y : Held) → IsPlace name held i d → y.name ≡ (get_or held i d).name → Renewed part name held (set held i y) (part y)
renewed_set part name held i d y is same =
    let at : name ≡ y.name = (bytes_eq-Decides name (get_or held i d).name).0 is.here ∙ sym same in
    record {
      found = found_at part name d (set held i y) i (place_set name held i d y is same) ∙ ap (λ h. Some (part h)) (get_or-set_same held i y d is.within);
      others = λ other ne. others_set part other d y held i is.within (not_eq other y.name (λ e. ne (e ∙ sym at))) same;
    }

-- nothing is held under a name that has no place
absent_from : {A : Type 0} (part : Held → A) (name : List ℕ) (n : ℕ) (held : List Held) → position_from (λ h. bytes_eq name h.name) n held ≡ None → find_named name (named part held) ≡ None
absent_from part name n [] none = refl
absent_from part name n (x ∷ held) none = by_test (bytes_eq name x.name) none (absent_from part name (n + 1) held)
  where
    by_test : (t : Bool) → cond t (Some n) (position_from (λ h. bytes_eq name h.name) (n + 1) held) ≡ None → (position_from (λ h. bytes_eq name h.name) (n + 1) held ≡ None → find_named name (named part held) ≡ None) → (if t then Some (part x) else find_named name (named part held)) ≡ None
    by_test true none rest = absurd (cc)
    by_test false none rest = rest none

absent : {A : Type 0} (part : Held → A) (name : List ℕ) (held : List Held) → place name held ≡ None → find_named name (named part held) ≡ None
absent part name held none = absent_from part name 0 held (sym (position_from-zero (λ h. bytes_eq name h.name) held) ∙ none)

found_push : {A : Type 0} (part : Held → A) (name : List ℕ) (held : List Held) (y : Held) → find_named name (named part held) ≡ None → bytes_eq name y.name ≡ true → find_named name (named part (held ++ y ∷ [])) ≡ Some (part y)
found_push part name [] y none is = rw is
found_push part name (x ∷ held) y none is = by_test (bytes_eq name x.name) none (λ e. found_push part name held y e is)
  where
    by_test : (t : Bool) → (if t then Some (part x) else find_named name (named part held)) ≡ None → (find_named name (named part held) ≡ None → find_named name (named part (held ++ y ∷ [])) ≡ Some (part y)) → (if t then Some (part x) else find_named name (named part (held ++ y ∷ []))) ≡ Some (part y)
    by_test true none rest = absurd (cc)
    by_test false none rest = rest none

others_push : {A : Type 0} (part : Held → A) (other : List ℕ) (held : List Held) (y : Held) → bytes_eq other y.name ≡ false → find_named other (named part (held ++ y ∷ [])) ≡ find_named other (named part held)
others_push part other [] y differs = rw differs
others_push part other (x ∷ held) y differs = ap (λ o. if bytes_eq other x.name then Some (part x) else o) (others_push part other held y differs)

-- a file of a new name is put behind the others
pub renewed_push : {A : Type 0} (part : Held → A) (name : List ℕ) (held new : List Held) (y : Held) → find_named name (named part held) ≡ None → y.name ≡ name → new ≡ held ++ y ∷ [] → Renewed part name held new (part y)
renewed_push part name held new y none same pushed =
    record {
      found = rw pushed (found_push part name held y none (ap (bytes_eq name) same ∙ eq_same name));
      others = λ other ne. rw pushed (others_push part other held y (not_eq other y.name (λ e. ne (e ∙ same))));
    }

-- what was found is found still, or something else
pub still_found : {A : Type 0} (part : Held → A) (name : List ℕ) (old new : List Held) (value : A) → Renewed part name old new value → (any : List ℕ) → IsSome (find_named any (named part old)) → IsSome (find_named any (named part new))
still_found part name old new value is any was = by_test (bytes_eq any name) refl
  where
    by_test : (t : Bool) → t ≡ bytes_eq any name → IsSome (find_named any (named part new))
    by_test true e =
        let same : any ≡ name = (bytes_eq-Decides any name).0 (sym e) in
        ap (λ k. is_some (find_named k (named part new))) same ∙ ap is_some is.found
    by_test false e = ap is_some (is.others any (λ same. let yes_same = (bytes_eq-Decides any name).1 same in absurd (cc))) ∙ was

-- the count of what is found under a name
abbrev count_in : List ℕ → List Held → ℕ
count_in name held = unwrap_or (find_named name (named (λ h. h.faults) held)) 0

-- a file with another count of faults
abbrev pub with_faults : Held → ℕ → Held
with_faults h n = record { name = h.name; content = h.content; reads_to_fail = h.reads_to_fail; faults = n }

-- a file with other reads that are to fail
abbrev pub with_reads : Held → List ℕ → Held
with_reads h reads = record { name = h.name; content = h.content; reads_to_fail = reads; faults = h.faults }

pub found_here : {A : Type 0} (part : Held → A) (name : List ℕ) (held : List Held) (i : ℕ) (d : Held) → IsPlace name held i d → d ≡ get_or held i d → find_named name (named part held) ≡ Some (part d)
found_here part name held i d is same = found_at part name d held i is ∙ ap (λ h. Some (part h)) (sym same)

pub name_here : (name : List ℕ) (held : List Held) (i : ℕ) (d : Held) → IsPlace name held i d → d ≡ get_or held i d → d.name ≡ name
name_here name held i d is same = ap (λ h. h.name) same ∙ sym ((bytes_eq-Decides name (get_or held i d).name).0 is.here)

-- a change of another part leaves what is found of this one
pub same_parts : {A : Type 0} (part : Held → A) (held : List Held) (i : ℕ) (d y : Held) → d ≡ get_or held i d → y.name ≡ d.name → part y ≡ part d → named part (set held i y) ≡ named part held
same_parts part held i d y same name_same part_same =
    let pair : (y.name, part y) ≡ (d.name, part d) = cc in
    map-set_same (λ h. (h.name, part h)) held i y d (pair ∙ ap (λ h. (h.name, part h)) same)

-- the counts after a file got another one
pub recounted : (name : List ℕ) (held : List Held) (i : ℕ) (d : Held) (n : ℕ) → IsPlace name held i d → d ≡ get_or held i d → Renewed (λ h. h.faults) name held (set held i (with_faults d n)) n
recounted name held i d n is same = renewed_set (λ h. h.faults) name held i d (with_faults d n) is (ap (λ h. h.name) same)

pub count_here : (name : List ℕ) (held : List Held) (i : ℕ) (d : Held) → IsPlace name held i d → d ≡ get_or held i d → count_in name held ≡ d.faults
count_here name held i d is same = ap (λ o. unwrap_or o 0) (found_here (λ h. h.faults) name held i d is same)

-- a file of a new name has no faults, as the name had none
pub count_added : (name : List ℕ) (old new : List Held) → Renewed (λ h. h.faults) name old new 0 → find_named name (named (λ h. h.faults) old) ≡ None → (any : List ℕ) → count_in any new ≡ count_in any old
count_added name old new is none any = by_test (bytes_eq any name) refl
  where
    by_test : (t : Bool) → t ≡ bytes_eq any name → count_in any new ≡ count_in any old
    by_test true e =
        let same : any ≡ name = (bytes_eq-Decides any name).0 (sym e) in
        let now : count_in name new ≡ 0 = ap (λ o. unwrap_or o 0) is.found in
        let was : count_in name old ≡ 0 = ap (λ o. unwrap_or o 0) none in
        rw same (now ∙ sym was)
    by_test false e = ap (λ o. unwrap_or o 0) (is.others any (λ same. let yes_same = (bytes_eq-Decides any name).1 same in absurd (cc)))

pub not_held : {A : Type 0} (part : Held → A) (name : List ℕ) (held seen : List Held) (r : Option ℕ) → seen ≡ held → r ≡ place name seen → r ≡ None → find_named name (named part held) ≡ None
not_held part name held seen r same looked none = absent part name held (sym (looked ∙ ap (place name) same) ∙ none)
