-- Members that are put in order of their names, one by one.
use Rattle.std.proofs.Common.{◌≡◌, ℕ, suc, ◌-◌, ◌≤◌, List, [], ◌∷◌, ◌++◌, length, take, get_or, true, option_and_then, Less, Greater, refl, sym, ap, subst, ◌∙◌, append_assoc, Bor}
use Rattle.std.specs.declared.alloc.Global.{Global}
use Rattle.std.specs.List.{insert as place_in}
use Rattle.std.specs.Ordering.{is_lt, ordering_reverse}
use Rattle.std.specs.FinMap.{is_sorted}
use Rattle.std.specs.FinMap.Entries.{below_all}
use Rattle.std.proofs.lemmas.Bool.{and_parts, and_from}
use Rattle.std.proofs.lemmas.Cmp.{nat_list_cmp_total}
use Rattle.json.specs.Json as json
use Rattle.event_json.specs.Quoted.{quoted_view, quoted_members_view}
use Rattle.json.specs.declared.value.Value.{Value as Tree}
use Rattle.serde_json.specs.Data.{no_members, member, put}
use Rattle.serde_json.specs.Read.{of_members}
use Rattle.base_types.specs.Place.{is_above_all, BelongsAt}
use Rattle.base_types.proofs.Places.{Key, order, less_of, lt_of}
use Rattle.event_json.proofs.Slices.{last_of}
use Rattle.event_json.specs.Direct.{Named, named_values, data_of, data_members, IsData, AreData, PutsMember}

abbrev pub Held : Type 0
Held = Key × Bor (Tree Global)

-- ---- a member at its place

data_between : (k : Key) (j : json.Json) (front back : List Named) → AreData (front ++ (k, j) ∷ back) → AreData (front ++ back) × IsData j
data_between k j [] back all = (all.1, all.0)
data_between k j (e ∷ front) back all = let later = data_between k j front back all.1 in ((all.0, later.0), later.1)

-- a member of a new name goes between those below it and those above it
put_between : (k : Key) (j : json.Json) (front back : List Named) → is_above_all k front ≡ true → below_all order k back ≡ true
    → put k (data_of j) (data_members (front ++ back)) ≡ data_members (front ++ (k, j) ∷ back)
put_between k j [] [] above below = refl
put_between k j [] (e ∷ back) above below =
    let less = less_of _ (and_parts (is_lt (order k e.0)) (below_all order k back) below).0 in rw less refl
put_between k j (e ∷ front) back above below =
    let parts = and_parts (is_lt (order e.0 k)) (is_above_all k front) above in
    let greater : order k e.0 ≡ Greater = nat_list_cmp_total.antisymm k e.0 ∙ ap ordering_reverse (less_of _ parts.0) in
    rw greater (ap (member e.0 (data_of e.1)) (put_between k j front back parts.1 below))

pub below_between : (x k : Key) (j : json.Json) (front back : List Named) → below_all order x (front ++ back) ≡ true → is_lt (order x k) ≡ true → below_all order x (front ++ (k, j) ∷ back) ≡ true
below_between x k j [] back below less = and_from _ _ less below
below_between x k j (e ∷ front) back below less =
    let parts = and_parts (is_lt (order x e.0)) (below_all order x (front ++ back)) below in
    and_from _ _ parts.0 (below_between x k j front back parts.1 less)

pub sorted_between : (k : Key) (j : json.Json) (front back : List Named) → is_sorted order (front ++ back) ≡ true → is_above_all k front ≡ true → below_all order k back ≡ true
    → is_sorted order (front ++ (k, j) ∷ back) ≡ true
sorted_between k j [] back sorted above below = and_from _ _ below sorted
sorted_between k j (e ∷ front) back sorted above below =
    let parts = and_parts (below_all order e.0 (front ++ back)) (is_sorted order (front ++ back)) sorted in
    let overs = and_parts (is_lt (order e.0 k)) (is_above_all k front) above in
    and_from _ _ (below_between e.0 k j front back parts.0 overs.0) (sorted_between k j front back parts.1 overs.1 below)

-- ---- a place that is looked for from the end

below_last : (x : Key) (front : List Named) (last : Named) → below_all order x (front ++ last ∷ []) ≡ true → is_lt (order x last.0) ≡ true
below_last x [] last below = (and_parts (is_lt (order x last.0)) true below).0
below_last x (e ∷ front) last below = below_last x front last (and_parts (is_lt (order x e.0)) (below_all order x (front ++ last ∷ [])) below).1

-- a name that is above the last is above all
pub above_last : (name : Key) (front : List Named) (last : Named) → is_sorted order (front ++ last ∷ []) ≡ true → order last.0 name ≡ Less → is_above_all name (front ++ last ∷ []) ≡ true
above_last name [] last sorted less = and_from _ _ (lt_of _ less) refl
above_last name (e ∷ front) last sorted less =
    let parts = and_parts (below_all order e.0 (front ++ last ∷ [])) (is_sorted order (front ++ last ∷ [])) sorted in
    let below : order e.0 last.0 ≡ Less = less_of _ (below_last e.0 front last parts.0) in
    and_from _ _ (lt_of _ (nat_list_cmp_total.trans e.0 last.0 name below less)) (above_last name front last parts.1 less)

-- the name stands before what isn't looked at any more
pub record Passed (name : Key) (all rest : List Named) : Type 0 where
  pub back : List Named
  pub splits : all ≡ rest ++ back
  pub sorted : is_sorted order rest ≡ true
  pub below : below_all order name back ≡ true

front_sorted : (front back : List Named) → is_sorted order (front ++ back) ≡ true → is_sorted order front ≡ true
front_sorted [] back sorted = refl
front_sorted (e ∷ front) back sorted =
    let parts = and_parts (below_all order e.0 (front ++ back)) (is_sorted order (front ++ back)) sorted in
    and_from _ _ (below_front e.0 front back parts.0) (front_sorted front back parts.1)
  where
    below_front : (x : Key) (front back : List Named) → below_all order x (front ++ back) ≡ true → below_all order x front ≡ true
    below_front x [] back below = refl
    below_front x (e ∷ front) back below =
        let parts = and_parts (is_lt (order x e.0)) (below_all order x (front ++ back)) below in
        and_from _ _ parts.0 (below_front x front back parts.1)

named-append : (a b : List Held) → named_values (a ++ b) ≡ named_values a ++ named_values b
named-append [] b = refl
named-append (m ∷ a) b = ap (λ (t : List Named). (m.0, quoted_view m.1.now) ∷ t) (named-append a b)

pub named_split : (all front back : List Held) → all ≡ front ++ back → named_values all ≡ named_values front ++ named_values back
named_split all front back is = ap named_values is ∙ named-append front back

pub named-length : (ms : List Held) → length ms ≡ length (named_values ms)
named-length [] = refl
named-length (m ∷ ms) = ap suc (named-length ms)

pub named_last : (rest : List Held) (last : Held) → 1 ≤ length rest → last ≡ get_or rest (length rest - 1) last
    → named_values rest ≡ named_values (take (length rest - 1) rest) ++ (last.0, quoted_view last.1.now) ∷ []
named_last rest last some is = ap named_values (last_of rest last some is) ∙ named-append (take (length rest - 1) rest) (last ∷ [])

pub passes_last : (name : Key) (all rest front : List Named) (last : Named) → rest ≡ front ++ last ∷ [] → order last.0 name ≡ Greater → Passed name all rest → Passed name all front
passes_last name all rest front last is greater so_far = record {
  back = last ∷ so_far.back;
  splits = so_far.splits ∙ ap (λ (t : List Named). t ++ so_far.back) is ∙ append_assoc front (last ∷ []) so_far.back;
  sorted = front_sorted front (last ∷ []) (ap (is_sorted order) (sym is) ∙ so_far.sorted);
  below = and_from _ _ (lt_of _ (nat_list_cmp_total.antisymm name last.0 ∙ ap ordering_reverse greater)) so_far.below;
}

pub belongs_behind : (name : Key) (all rest front : List Named) (last : Named) (n : ℕ) → rest ≡ front ++ last ∷ [] → order last.0 name ≡ Less → Passed name all rest → n ≡ length rest → BelongsAt name all n
belongs_behind name all rest front last n is less so_far size = record {
  front = rest;
  back = so_far.back;
  splits = so_far.splits;
  place = sym size;
  above = ap (is_above_all name) is ∙ above_last name front last (ap (is_sorted order) (sym is) ∙ so_far.sorted) less;
  below = so_far.below;
}

-- ---- the place in the vector

named_insert : (items : List Held) (front back : List Named) (m : Held) → named_values items ≡ front ++ back → named_values (place_in items (length front) m) ≡ front ++ (m.0, quoted_view m.1.now) ∷ back
named_insert items [] back m is = ap (λ ns. (m.0, quoted_view m.1.now) ∷ ns) is
named_insert [] (e ∷ front) back m is = absurd (cc)
named_insert (i ∷ items) (e ∷ front) back m is =
    let head : (i.0, quoted_view i.1.now) ≡ e = cc in
    let tail : named_values items ≡ front ++ back = cc in
    ap (λ n. n ∷ named_values (place_in items (length front) m)) head ∙ ap (λ ns. e ∷ ns) (named_insert items front back m tail)

pub put_there : (items new : List Held) (m : Held) (i : ℕ) → BelongsAt m.0 (named_values items) i → new ≡ place_in items i m → PutsMember m.0 (quoted_view m.1.now) (named_values items) (named_values new)
put_there items new m i at is = record {
  front = at.front;
  back = at.back;
  old_is = at.splits;
  new_is = ap named_values (is ∙ ap (λ n. place_in items n m) (sym at.place)) ∙ named_insert items at.front at.back m at.splits;
  above = at.above;
  below = at.below;
}

-- ---- one more member

pub still_sorted : (k : Key) (j : json.Json) (old new : List Named) → PutsMember k j old new → is_sorted order old ≡ true → is_sorted order new ≡ true
still_sorted k j old new puts sorted =
    ap (is_sorted order) puts.new_is ∙ sorted_between k j puts.front puts.back (ap (is_sorted order) (sym puts.old_is) ∙ sorted) puts.above puts.below

-- what is read of all members is what is read of the later ones once these are there
abbrev pub ReadsOn : List (Bor (List ℕ) × Tree Global) → List (Bor (List ℕ) × Tree Global) → List Named → Type 0
ReadsOn all later found = AreData found → of_members (quoted_members_view all) no_members ≡ of_members (quoted_members_view later) (data_members found)

pub one_more : (all later more : List (Bor (List ℕ) × Tree Global)) (m : Bor (List ℕ) × Tree Global) (name : Key) (old new : List Named) → later ≡ m ∷ more → name ≡ m.0.now → PutsMember name (quoted_view m.1) old new
    → ReadsOn all later old → ReadsOn all more new
one_more all later more m name old new step named new_puts so_far = λ all_in_range.
    let k = m.0.now in
    let j = quoted_view m.1 in
    let puts = subst (λ n. PutsMember n j old new) named new_puts in
    let parts = data_between k j puts.front puts.back (subst AreData puts.new_is all_in_range) in
    let rest = quoted_members_view more in
    so_far (subst AreData (sym puts.old_is) parts.0)
    ∙ ap (λ ms. of_members (quoted_members_view ms) (data_members old)) step
    ∙ ap (option_and_then (λ d. of_members rest (put k d (data_members old)))) parts.1
    ∙ ap (λ ns. of_members rest (put k (data_of j) (data_members ns))) puts.old_is
    ∙ ap (of_members rest) (put_between k j puts.front puts.back puts.above puts.below ∙ ap data_members (sym puts.new_is))
