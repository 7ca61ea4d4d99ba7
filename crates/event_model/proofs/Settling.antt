-- Fields that were set one after the other: their names in order, and the last of those of one name.
use Rattle.std.proofs.Common.{◌≡◌, [], ◌∷◌, ◌++◌, reverse, filter, Bool, true, false, cond, not, ◌&&◌, Option, Some, None, Ordering, Less, Equal, Greater, refl, sym, ap, subst, ◌∙◌, append_assoc}
use Rattle.std.specs.Ordering.{is_lt, is_eq, eq_by_cmp, ordering_reverse}
use Rattle.std.specs.List.{dedup, dedup_from, AllByRecursion}
use Rattle.std.specs.List.Sorted.{IsPermutation, IsSortedBy, IsStableBy, IsStrictlySortedBy, ties}
use Rattle.std.specs.Cmp.Lexicographic.{on_texts}
use Rattle.std.specs.FinMap.{insert, from_entries, find, put, is_sorted, entries-insert, get-from_entries, same_map, same_entries_map, slice_cmp-IsAntisymmetric, nat_cmp-IsAntisymmetric}
use Rattle.std.specs.FinMap.Entries.{below_all}
use Rattle.std.proofs.lemmas.Bool.{and_parts, and_from}
use Rattle.std.proofs.lemmas.Cmp.{nat_list_cmp_total}
use Rattle.std.proofs.lemmas.List.{append-nil}
use Rattle.std.proofs.lemmas.List.Elements.{All-from_recursion, recursion_from_All}
use Rattle.std.proofs.lemmas.List.Sorted.{All-permutation, IsPermutation-reverse}
use Rattle.std.proofs.lemmas.List.Filters.{All-dedup}
use Rattle.std.proofs.lemmas.List.Kept.{IsStrictlySortedBy-dedup}
use Rattle.field_types.specs.declared.value.Value.{Value}
use Rattle.field_types.specs.declared.value.Value.TheVariants as as_value
use Rattle.event_model.specs.Built.{is_below, has_same_name, AreBuilt, AreSettled}
use Rattle.event_model.specs.Fields.{IsField, AreFields}
use Rattle.event_model.specs.Lenient.{set_all}
use Rattle.base_types.specs.Place.{is_above_all}
use Rattle.base_types.proofs.Places.{Key, order, lt_of, same_key}
use Rattle.event_model.proofs.Pairs.{Pairs, put_between, entries-from_entries}
use Rattle.event_model.specs.Gathered.{put_pairs}
use Rattle.event_model.proofs.Gathering.{all_set}
use Rattle.event_model.proofs.Last.{sorted_push, fields_push, above_front}

abbrev Pair : Type 0
Pair = Key × Value

-- ---- names that rise

-- one more field that is set
pub built_push : (key : Key) (value : Value) (pairs : Pairs) (rises on : Bool) → AreBuilt pairs rises → IsField key value → on ≡ (rises && is_above_all key pairs) → AreBuilt (pairs ++ (key, value) ∷ []) on
built_push key value pairs rises on is field e = record {
  fields = fields_push key value pairs is.fields field;
  order = λ goes_on. let parts = and_parts rises (is_above_all key pairs) (sym e ∙ goes_on) in sorted_push key value pairs (is.order parts.0) parts.1;
}

front_sorted : (front back : Pairs) → is_sorted order (front ++ back) ≡ true → is_sorted order front ≡ true
front_sorted [] back sorted = refl
front_sorted (e ∷ front) back sorted =
    let parts = and_parts (below_all order e.0 (front ++ back)) (is_sorted order (front ++ back)) sorted in
    and_from _ _ (below_front e.0 front back parts.0) (front_sorted front back parts.1)
  where
    below_front : (x : Key) (front back : Pairs) → below_all order x (front ++ back) ≡ true → below_all order x front ≡ true
    below_front x [] back below = refl
    below_front x (e ∷ front) back below =
        let parts = and_parts (is_lt (order x e.0)) (below_all order x (front ++ back)) below in
        and_from _ _ parts.0 (below_front x front back parts.1)

-- a pair whose name is above all goes behind them
insert_last : (pair : Pair) (front : Pairs) → is_sorted order (front ++ pair ∷ []) ≡ true → insert (from_entries front) pair.0 pair.1 ≡ from_entries {R = order} (front ++ pair ∷ [])
insert_last pair front sorted =
    same_entries_map _ _ (
    entries-insert nat_list_cmp_total (from_entries front) pair.0 pair.1
    ∙ ap (put order pair.0 pair.1) (entries-from_entries front (front_sorted front (pair ∷ []) sorted))
    ∙ ap (put order pair.0 pair.1) (sym (append-nil front))
    ∙ put_between pair.0 pair.1 front [] (above_front pair.0 pair.1 front [] sorted) refl
    ∙ sym (entries-from_entries (front ++ pair ∷ []) sorted))

put_rising : (front pairs : Pairs) → is_sorted order (front ++ pairs) ≡ true → put_pairs pairs (from_entries front) ≡ from_entries (front ++ pairs)
put_rising front [] sorted = ap from_entries (sym (append-nil front))
put_rising front (pair ∷ pairs) sorted =
    let shift : (front ++ pair ∷ []) ++ pairs ≡ front ++ pair ∷ pairs = append_assoc front (pair ∷ []) pairs in
    let sorted_too = ap (is_sorted order) shift ∙ sorted in
    ap (put_pairs pairs) (insert_last pair front (front_sorted (front ++ pair ∷ []) pairs sorted_too))
    ∙ put_rising (front ++ pair ∷ []) pairs sorted_too
    ∙ ap from_entries shift

-- pairs whose names rise are the map that they set
pub rising_set : (pairs : Pairs) → is_sorted order pairs ≡ true → from_entries pairs ≡ set_all pairs
rising_set pairs sorted = sym (put_rising [] pairs sorted) ∙ all_set pairs

-- ---- a stable sort keeps the first of one name

abbrev first_value : Pairs → Option Value
first_value [] = None
first_value (e ∷ es) = Some e.1

tied_by : (r : Ordering) → is_eq r ≡ (not (is_lt r) && not (is_lt (ordering_reverse r)))
tied_by Less = refl
tied_by Equal = refl
tied_by Greater = refl

tied : (q : Key) (v : Value) (e : Pair) → eq_by_cmp order q e.0 ≡ ties is_below (q, v) e
tied q v e = tied_by (order q e.0) ∙ ap (λ r. not (is_lt (order q e.0)) && not (is_lt r)) (sym (nat_list_cmp_total.antisymm e.0 q))

by_test : (b : Bool) (e : Pair) (es : Pairs) (later : Option Value) → later ≡ first_value es → cond b (Some e.1) later ≡ first_value (cond b (e ∷ es) es)
by_test true e es later is = refl
by_test false e es later is = is

-- what is found is the first of those that tie
found_first : (q : Key) (v : Value) (es : Pairs) → find order q es ≡ first_value (filter (ties is_below (q, v)) es)
found_first q v [] = refl
found_first q v (e ∷ es) =
    by_test (eq_by_cmp order q e.0) e (filter (ties is_below (q, v)) es) (find order q es) (found_first q v es)
    ∙ ap (λ b. first_value (cond b (e ∷ filter (ties is_below (q, v)) es) (filter (ties is_below (q, v)) es))) (tied q v e)

found_stable : (q : Key) (xs ys : Pairs) → IsStableBy is_below xs ys → find order q ys ≡ find order q xs
found_stable q xs ys stable =
    let v = as_value.Flag true in
    found_first q v ys ∙ ap first_value (stable (q, v)) ∙ sym (found_first q v xs)

-- ---- the first of neighbours of one name

same_test : (x k : Pair) → has_same_name x k ≡ true → x.0 ≡ k.0
same_test x k e = same_key x.0 k.0 (equal_of (order x.0 k.0) e)
  where
    equal_of : (r : Ordering) → is_eq r ≡ true → r ≡ Equal
    equal_of Less h = absurd (cc)
    equal_of Equal h = refl
    equal_of Greater h = absurd (cc)

again : (b : Bool) (x y z : Option Value) → cond b x z ≡ cond b x (cond b y z)
again true x y z = refl
again false x y z = refl

found_from : (q : Key) (k : Pair) (xs : Pairs) → find order q (dedup_from has_same_name k xs) ≡ find order q (k ∷ xs)
found_from q k [] = refl
found_from q k (x ∷ xs) = by_name (has_same_name x k) refl (found_from q k xs) (found_from q x xs)
  where
    by_name : (b : Bool) → has_same_name x k ≡ b → find order q (dedup_from has_same_name k xs) ≡ find order q (k ∷ xs) → find order q (dedup_from has_same_name x xs) ≡ find order q (x ∷ xs)
        → find order q (cond b (dedup_from has_same_name k xs) (k ∷ dedup_from has_same_name x xs)) ≡ find order q (k ∷ x ∷ xs)
    by_name true same first second =
        first ∙ again (eq_by_cmp order q k.0) (Some k.1) (Some x.1) (find order q xs)
        ∙ ap (λ n. cond (eq_by_cmp order q k.0) (Some k.1) (cond (eq_by_cmp order q n) (Some x.1) (find order q xs))) (sym (same_test x k same))
    by_name false other first second = ap (cond (eq_by_cmp order q k.0) (Some k.1)) second

found_dedup : (q : Key) (xs : Pairs) → find order q (dedup has_same_name xs) ≡ find order q xs
found_dedup q [] = refl
found_dedup q (x ∷ xs) = found_from q x xs

-- ---- pairs that were settled

below_of : (x : Pair) (es : Pairs) → AllByRecursion (λ e. order x.0 e.0 ≡ Less) es → below_all order x.0 es ≡ true
below_of x [] all = refl
below_of x (e ∷ es) all = and_from _ _ (lt_of _ all.0) (below_of x es all.1)

sorted_of : (es : Pairs) → IsStrictlySortedBy (λ a b. order a.0 b.0) es → is_sorted order es ≡ true
unfolding IsStrictlySortedBy
sorted_of [] sorted = refl
sorted_of (e ∷ es) sorted = and_from _ _ (below_of e es sorted.0) (sorted_of es sorted.1)

abbrev FieldOf : Pair → Type 0
FieldOf pair = IsField pair.0 pair.1

-- turned round, sorted stably, and the first of one name kept
pub settled : (set sorted left : Pairs) → IsPermutation (reverse set) sorted → IsSortedBy is_below sorted → IsStableBy is_below (reverse set) sorted → left ≡ dedup has_same_name sorted → AreSettled set left
settled set sorted left moved rises stable is = record {
  fields = λ fields. subst AreFields (sym is) (recursion_from_All FieldOf _ (All-dedup has_same_name FieldOf sorted
      (All-permutation FieldOf (reverse set) sorted moved (All-permutation FieldOf set (reverse set) (IsPermutation-reverse set) (All-from_recursion FieldOf set fields)))));
  order = ap (is_sorted order) is ∙ sorted_of _ (IsStrictlySortedBy-dedup (on_texts (λ (e : Pair). e.0)) (λ x y. refl) sorted rises);
  map_is = same_map nat_list_cmp_total (slice_cmp-IsAntisymmetric nat_cmp-IsAntisymmetric) _ _ (λ q.
      get-from_entries nat_list_cmp_total left q ∙ ap (find order q) is ∙ found_dedup q sorted ∙ found_stable q (reverse set) sorted stable
      ∙ sym (get-from_entries nat_list_cmp_total (reverse set) q));
}
