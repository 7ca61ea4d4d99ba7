-- Names of files, in byte order.
use Rattle.std.proofs.Common.{◌≡◌, ◌≤◌, ◌&&◌, ℕ, List, [], ◌∷◌, ◌++◌, Bool, true, false, length, map, drop, Option, Some, None, Result, Ok, Err, Ordering, Less, Equal, Greater, string_bytes, is_some, option_map, option_and_then, unwrap_or, codes, if◌then◌else◌, refl, sym, ap, subst, ◌∙◌, arith, length-append}
use Rattle.std.proofs.lemmas.Bool.{and_from, and_parts}
use Rattle.std.proofs.Math.Seq.{drop-append_seam, take-append_seam}
use Rattle.std.proofs.lemmas.List.{length-map, map-append}
use Rattle.std.proofs.lemmas.Cmp.{nat_list_cmp_total, tied_itself}
use Rattle.std.specs.FinMap.{is_sorted}
use Rattle.std.specs.FinMap.Entries.{below_all}
use Rattle.std.specs.Str.{bytes_eq}
use Rattle.std.specs.Ordering.{is_lt, ordering_reverse}
use Rattle.std.specs.List.{insert, AllByRecursion}
use Rattle.std.specs.List.Sorted.{IsStrictlySortedBy}
use Rattle.serde_json.specs.Data.{Data, Members, member, no_members}
use Rattle.serde_json.specs.Find.{as_str}
use Rattle.serde_json.specs.View.{view, members_view}
use Rattle.base_types.specs.Place.{is_above_all, BelongsAt, IsPlace, StandsAt}
use Rattle.base_types.proofs.Places.{less_of, lt_of, order, PairsOf}
use Rattle.event_model.specs.Trees.{tree_in}
use Rattle.event_model.proofs.TreeLemmas.{Entry}
use Rattle.runtime_text.specs.Named.{are_objects, file_given, file_name, file_named, named_files, named_from, named_in, placed, with_file, with_name, IsPlaceOf}
use Rattle.module_settings.specs.Modules.{reads_file}
use Rattle.module_settings.specs.Parameters.{is_file_name}
use Rattle.runtime_text.specs.Runtime.{given, global_key, module_of, object_of, object_under}

abbrev pub Names : Type 0
Names = List (List ℕ)

-- ---- one name

below_first : (r : Ordering) (name n : List ℕ) (ns rest : Names) → is_lt r ≡ true → placed r name n ns rest ≡ n ∷ rest
below_first Less name n ns rest is = refl
below_first Equal name n ns rest is = absurd (cc)
below_first Greater name n ns rest is = absurd (cc)

equal_first : (r : Ordering) (name n : List ℕ) (ns rest : Names) → r ≡ Equal → placed r name n ns rest ≡ n ∷ ns
equal_first Less name n ns rest is = absurd (cc)
equal_first Equal name n ns rest is = refl
equal_first Greater name n ns rest is = absurd (cc)

above_first : (r : Ordering) (name n : List ℕ) (ns rest : Names) → r ≡ Greater → placed r name n ns rest ≡ name ∷ n ∷ ns
above_first Less name n ns rest is = absurd (cc)
above_first Equal name n ns rest is = absurd (cc)
above_first Greater name n ns rest is = refl

-- names as pairs, which a search goes by
abbrev Pairs : Type 0
Pairs = PairsOf (Unit {0})

abbrev pub paired : List ℕ → List ℕ × Unit {0}
paired name = (name, tt)

abbrev unpaired : Pairs → Names
unpaired pairs = map (λ (p : List ℕ × Unit {0}). p.0) pairs

names_again : (names : Names) → unpaired (map paired names) ≡ names
names_again [] = refl
names_again (n ∷ ns) = ap (λ (xs : Names). n ∷ xs) (names_again ns)

below_pairs : (x : List ℕ) (ns : Names) → AllByRecursion (λ y. order x y ≡ Less) ns → below_all order x (map paired ns) ≡ true
below_pairs x [] all = refl
below_pairs x (n ∷ ns) all = and_from _ _ (lt_of _ all.0) (below_pairs x ns all.1)

pub pairs_rise : (names : Names) → IsStrictlySortedBy order names → is_sorted order (map paired names) ≡ true
unfolding IsStrictlySortedBy
pairs_rise [] rise = refl
pairs_rise (n ∷ ns) rise = and_from _ _ (below_pairs n ns rise.0) (pairs_rise ns rise.1)

-- a name is put among what stands behind lower ones
behind_lower : (name : List ℕ) (front : Pairs) (rest : Names) → is_above_all name front ≡ true → with_name name (unpaired front ++ rest) ≡ unpaired front ++ with_name name rest
behind_lower name [] rest above = refl
behind_lower name (e ∷ front) rest above =
    let parts = and_parts (is_lt (order e.0 name)) (is_above_all name front) above in
    below_first (order e.0 name) name e.0 (unpaired front ++ rest) (with_name name (unpaired front ++ rest)) parts.0
    ∙ ap (λ (xs : Names). e.0 ∷ xs) (behind_lower name front rest parts.1)

-- in front of higher ones
before_higher : (name : List ℕ) (back : Pairs) → below_all order name back ≡ true → with_name name (unpaired back) ≡ name ∷ unpaired back
before_higher name [] below = refl
before_higher name (e ∷ back) below =
    let less : order name e.0 ≡ Less = less_of _ (and_parts (is_lt (order name e.0)) (below_all order name back) below).0 in
    let higher : order e.0 name ≡ Greater = nat_list_cmp_total.antisymm e.0 name ∙ ap ordering_reverse less in
    above_first (order e.0 name) name e.0 (unpaired back) (with_name name (unpaired back)) higher

split_names : (names : Names) (front back : Pairs) → map paired names ≡ front ++ back → names ≡ unpaired front ++ unpaired back
split_names names front back splits = sym (names_again names) ∙ ap unpaired splits ∙ map-append (λ (p : List ℕ × Unit {0}). p.0) front back

there : (name : List ℕ) (names : Names) (i : ℕ) → StandsAt name (map paired names) i → with_name name names ≡ names
there name names i at =
    let back = (name, at.value) ∷ at.back in
    let split = split_names names at.front back at.splits in
    let same = equal_first (order name name) name name (unpaired at.back) (with_name name (unpaired at.back)) (tied_itself nat_list_cmp_total name) in
    ap (with_name name) split ∙ behind_lower name at.front (unpaired back) at.above ∙ ap (λ (xs : Names). unpaired at.front ++ xs) same ∙ sym split

inserted : (front back names : Names) (i : ℕ) (name : List ℕ) → names ≡ front ++ back → length front ≡ i → (i ≤ length names) × (insert names i name ≡ front ++ name ∷ back)
inserted front back names i name split place = (
  subst (λ (k : ℕ). k ≤ length names) place (subst (λ (xs : Names). length front ≤ length xs) (sym split) (omega (arith, length-append front back))),
  ap (λ (xs : Names). insert xs i name) split ∙ ap (λ (k : ℕ). insert (front ++ back) k name) (sym place) ∙ ap (λ (xs : Names). xs ++ name ∷ drop (length front) (front ++ back)) (take-append_seam front back)
      ∙ ap (λ (xs : Names). front ++ name ∷ xs) (drop-append_seam front back),
)

new : (name : List ℕ) (names : Names) (i : ℕ) → BelongsAt name (map paired names) i → (i ≤ length names) × (with_name name names ≡ insert names i name)
new name names i at =
    let split = split_names names at.front at.back at.splits in
    let in_place = inserted (unpaired at.front) (unpaired at.back) names i name split (length-map at.front (λ (p : List ℕ × Unit {0}). p.0) ∙ at.place) in
    (in_place.0, ap (with_name name) split ∙ behind_lower name at.front (unpaired at.back) at.above ∙ ap (λ (xs : Names). unpaired at.front ++ xs) (before_higher name at.back at.below) ∙ sym in_place.1)

-- what is found among the pairs is where the name stands, or would stand
pub placed_so : (name : List ℕ) (names : Names) (r : Result ℕ ℕ) → IsPlace name (map paired names) r → IsPlaceOf name names r
placed_so name names (Ok i) at = there name names i at
placed_so name names (Err i) at = new name names i at

-- ---- the members of a runtime text

pub some_mapped : {A B : Type 0} (f : A → B) (o : Option A) → is_some (option_map f o) ≡ is_some o
some_mapped f None = refl
some_mapped f (Some x) = refl

pub objects_first : (left rest : List Entry) (e : Entry) → left ≡ e ∷ rest → are_objects (members_view left) ≡ (is_some (object_of (view e.1)) && are_objects (members_view rest))
objects_first left rest e step = ap (λ (es : List Entry). are_objects (members_view es)) step

pub named_first : (global : Members) (names : Names) (left rest : List Entry) (e : Entry) (name : List ℕ) → left ≡ e ∷ rest → name ≡ string_bytes e.0
    → named_from global names (members_view left) ≡ named_from global (with_file (file_named global name (view e.1)) names) (members_view rest)
named_first global names left rest e name step same =
    ap (λ (es : List Entry). named_from global names (members_view es)) step
    ∙ ap (λ (n : List ℕ). named_from global (with_file (file_named global n (view e.1)) names) (members_view rest)) (sym same)

-- ---- their order

turned : (a b : List ℕ) → order a b ≡ Greater → order b a ≡ Less
turned a b is = nat_list_cmp_total.antisymm b a ∙ ap ordering_reverse is

below_each : (x y : List ℕ) (ns : Names) → order x y ≡ Less → AllByRecursion (λ n. order y n ≡ Less) ns → AllByRecursion (λ n. order x n ≡ Less) ns
below_each x y [] less below = tt
below_each x y (n ∷ ns) less below = (nat_list_cmp_total.trans x y n less below.0, below_each x y ns less below.1)

-- what holds of a name and of others holds of all of them
all_placed : (P : List ℕ → Type 0) (r : Ordering) (name n : List ℕ) (ns rest : Names) → P name → AllByRecursion P (n ∷ ns) → AllByRecursion P rest → AllByRecursion P (placed r name n ns rest)
all_placed P Less name n ns rest is all later = (all.0, later)
all_placed P Equal name n ns rest is all later = all
all_placed P Greater name n ns rest is all later = (is, all)

all_with : (P : List ℕ → Type 0) (name : List ℕ) (names : Names) → P name → AllByRecursion P names → AllByRecursion P (with_name name names)
all_with P name [] is all = (is, tt)
all_with P name (n ∷ ns) is all = all_placed P (order n name) name n ns (with_name name ns) is all (all_with P name ns is all.1)

all_from : (P : List ℕ → Type 0) (global : Members) (names : Names) (ms : Members) → ((name : List ℕ) (d : Data) (f : List ℕ) → file_named global name d ≡ Some f → P f) → AllByRecursion P names → AllByRecursion P (named_from global names ms)
all_from P global names no_members each all = all
all_from P global names (member name d ms) each all = all_from P global (with_file (file_named global name d) names) ms each (one (file_named global name d) (each name d))
  where
    one : (o : Option (List ℕ)) → ((f : List ℕ) → o ≡ Some f → P f) → AllByRecursion P (with_file o names)
    one None is = all
    one (Some f) is = all_with P f names (is f refl) all

rise_placed : (r : Ordering) (name n : List ℕ) (ns : Names) → order n name ≡ r → IsStrictlySortedBy order (n ∷ ns) → IsStrictlySortedBy order (with_name name ns) → IsStrictlySortedBy order (placed r name n ns (with_name name ns))
unfolding IsStrictlySortedBy
rise_placed Less name n ns is rise later = (all_with (λ y. order n y ≡ Less) name ns is rise.0, later)
rise_placed Equal name n ns is rise later = rise
rise_placed Greater name n ns is rise later = ((turned n name is, below_each name n ns (turned n name is) rise.0), rise)

rise_with : (name : List ℕ) (names : Names) → IsStrictlySortedBy order names → IsStrictlySortedBy order (with_name name names)
unfolding IsStrictlySortedBy
rise_with name [] rise = (tt, tt)
rise_with name (n ∷ ns) rise = rise_placed (order n name) name n ns refl rise (rise_with name ns rise.1)

pub rise_with_file : (o : Option (List ℕ)) (names : Names) → IsStrictlySortedBy order names → IsStrictlySortedBy order (with_file o names)
rise_with_file None names rise = rise
rise_with_file (Some f) names rise = rise_with f names rise

rise_from : (global : Members) (names : Names) (ms : Members) → IsStrictlySortedBy order names → IsStrictlySortedBy order (named_from global names ms)
rise_from global names no_members rise = rise
rise_from global names (member name d ms) rise = rise_from global (with_file (file_named global name d) names) ms (rise_with_file (file_named global name d) names rise)

pub no_names : IsStrictlySortedBy order []
unfolding IsStrictlySortedBy
no_names = tt

-- ---- their lengths

short_text : (b : Bool) (text f : List ℕ) → is_file_name text ≡ b → (if b then Some text else None) ≡ Some f → is_file_name f ≡ true
short_text true text f short is = ap is_file_name (same f text is) ∙ short
  where
    same : (a c : List ℕ) → Some c ≡ Some a → a ≡ c
    same a c e = cc
short_text false text f short is = absurd (cc)

short_string : (o : Option (List ℕ)) (f : List ℕ) → option_and_then (λ text. if is_file_name text then Some text else None) o ≡ Some f → is_file_name f ≡ true
short_string None f is = absurd (cc)
short_string (Some text) f is = short_text (is_file_name text) text f refl is

short_given : (b : Bool) (o : Option Data) (f : List ℕ) → (if b then option_and_then file_name o else None) ≡ Some f → is_file_name f ≡ true
short_given true None f is = absurd (cc)
short_given true (Some d) f is = short_string (as_str d) f is
short_given false o f is = absurd (cc)

short_named : (b : Bool) (global bot : Members) (f : List ℕ) → (if b then None else file_given global bot) ≡ Some f → is_file_name f ≡ true
short_named true global bot f is = absurd (cc)
short_named false global bot f is = short_given (reads_file (module_of ([], bot))) (given global ([], bot) (codes "file")) f is

-- ---- the files of a runtime text

each_in : (P : Names → Type 0) (o : Option Members) → P [] → ((ms : Members) → P (named_from (object_under global_key ms) [] ms)) → P (named_in o)
each_in P None none some = none
each_in P (Some ms) none some = one (are_objects ms)
  where
    one : (b : Bool) → P (if b then named_from (object_under global_key ms) [] ms else [])
    one true = some ms
    one false = none

pub named_rise : (runtime : List ℕ) → IsStrictlySortedBy order (named_files runtime)
unfolding named_files
named_rise runtime = each_in (λ ns. IsStrictlySortedBy order ns) (option_and_then object_of (tree_in runtime)) no_names (λ ms. rise_from (object_under global_key ms) [] ms no_names)

pub named_short : (runtime : List ℕ) → AllByRecursion (λ name. is_file_name name ≡ true) (named_files runtime)
unfolding named_files
named_short runtime =
    each_in (λ ns. AllByRecursion (λ name. is_file_name name ≡ true) ns) (option_and_then object_of (tree_in runtime)) tt
    (λ ms. all_from (λ name. is_file_name name ≡ true) (object_under global_key ms) [] ms
    (λ name d f is. short_named (bytes_eq name global_key) (object_under global_key ms) (unwrap_or (object_of d) no_members) f is) tt)
