-- The fields of two sets together.
use Rattle.std.proofs.Common.{◌≡◌, ℕ, zero, suc, ◌+◌, ◌<◌, ◌≤◌, List, [], ◌∷◌, ◌++◌, length, get_or, take, drop, Bool, true, false, cond, Option, Some, None, Ordering, Less, Equal, Greater, T, refl, sym, ◌∙◌, ap, subst, append_assoc, arith}
use Rattle.std.proofs.lemmas.List.{append-nil, drop_all, take_all, take_more}
use Rattle.std.specs.Prelude.{is_some, if◌then◌else◌, slice_get, unwrap_or}
use Rattle.std.specs.Option.{option_or}
use Rattle.std.specs.Ordering.{is_eq, eq_by_cmp}
use Rattle.std.specs.FinMap.{empty, entries, get, insert, from_entries, find, is_sorted, entries_sorted, get-entries, get-from_entries, same_map, same_entries_map, from_entries_push, slice_cmp-IsAntisymmetric, nat_cmp-IsAntisymmetric}
use Rattle.std.proofs.lemmas.Cmp.{nat_list_cmp_total}
use Rattle.field_types.specs.declared.value.Value.{Value}
use Rattle.event_model.specs.Fields.{FieldMap, IsField, AreFields}
use Rattle.event_model.proofs.Pairs.{Pairs, entries-from_entries}
use Rattle.base_types.proofs.Places.{Key, order, same_key}
use Rattle.expert_rules.specs.Enrich.{joined, union, with_set}

-- ---- each pair is a field

field_at : (pairs : Pairs) (i : ℕ) (d : List ℕ × Value) → AreFields pairs → i < length pairs → IsField (get_or pairs i d).0 (get_or pairs i d).1
field_at [] i d are within = absurd (omega arith)
field_at (pair ∷ pairs) zero d are within = are.0
field_at (pair ∷ pairs) (suc i) d are within = field_at pairs i d are.1 (omega arith)

pub field_read : (pairs : Pairs) (i : ℕ) (pair : List ℕ × Value) → AreFields pairs → i < length pairs → pair ≡ get_or pairs i pair → IsField pair.0 pair.1
field_read pairs i pair are within at = subst (λ (x : List ℕ × Value). IsField x.0 x.1) (sym at) (field_at pairs i pair are within)

-- ---- what is found in two lists

found_by : (b : Bool) (v : Value) (o p : Option Value) → cond b (Some v) (option_or o p) ≡ option_or (cond b (Some v) o) p
found_by true v o p = refl
found_by false v o p = refl

find_in_both : (q : Key) (first second : Pairs) → find order q (first ++ second) ≡ option_or (find order q first) (find order q second)
find_in_both q [] second = refl
find_in_both q (e ∷ first) second =
    ap (cond (eq_by_cmp order q e.0) (Some e.1)) (find_in_both q first second) ∙ found_by (eq_by_cmp order q e.0) e.1 (find order q first) (find order q second)

pub get-union : (first second : FieldMap) (q : Key) → get (union first second) q ≡ option_or (get first q) (get second q)
unfolding union
get-union first second q =
    get-from_entries nat_list_cmp_total (entries first ++ entries second) q
    ∙ find_in_both q (entries first) (entries second)
    ∙ ap (λ o. option_or o (find order q (entries second))) (sym (get-entries first q))
    ∙ ap (option_or (get first q)) (sym (get-entries second q))

-- ---- all pairs, from the last to the first

sorted_of : (b : Bool) → T b → b ≡ true
sorted_of true h = refl
sorted_of false h = absurd h

pub of_its_entries : (fields : FieldMap) → from_entries (entries fields) ≡ fields
of_its_entries fields =
    same_entries_map (from_entries (entries fields)) fields (entries-from_entries (entries fields) (sorted_of (is_sorted order (entries fields)) (entries_sorted fields)))

pub all_at_first : (fields both : FieldMap) (pairs : Pairs) (n : ℕ) → both ≡ fields → length pairs ≤ n → both ≡ from_entries (drop n pairs ++ entries fields)
all_at_first fields both pairs n same le =
    same ∙ sym (of_its_entries fields) ∙ ap (λ (es : Pairs). from_entries (es ++ entries fields)) (sym (drop_all n pairs le))

pub all_in_the_end : (fields others both : FieldMap) (pairs : Pairs) (left : ℕ) → pairs ≡ entries others → left ≤ 0 → both ≡ from_entries (drop left pairs ++ entries fields) → both ≡ union others fields
unfolding union
all_in_the_end fields others both pairs left are le is =
    let none : left ≡ 0 = omega arith in
    is ∙ ap (λ n. from_entries (drop n pairs ++ entries fields)) none ∙ ap (λ (es : Pairs). from_entries (es ++ entries fields)) are

-- ---- the pairs that are absent, from the first to the last

equal_of : (r : Ordering) → is_eq r ≡ true → r ≡ Equal
equal_of Less h = absurd (cc)
equal_of Equal h = refl
equal_of Greater h = absurd (cc)

or_none : (o : Option Value) → option_or o None ≡ o
or_none None = refl
or_none (Some v) = refl

still_found : (b : Bool) (o : Option Value) (v w : Value) → (b ≡ true → o ≡ Some w) → option_or o (cond b (Some v) None) ≡ o
still_found true o v w found = ap (λ x. option_or x (Some v)) (found refl) ∙ sym (found refl)
still_found false o v w found = or_none o

-- a pair behind another of its name changes nothing
present : (es : Pairs) (pair : List ℕ × Value) (w : Value) → find order pair.0 es ≡ Some w → from_entries {R = order} (es ++ pair ∷ []) ≡ from_entries es
present es pair w found =
    same_map nat_list_cmp_total (slice_cmp-IsAntisymmetric nat_cmp-IsAntisymmetric) _ _
    (λ q. get-from_entries nat_list_cmp_total (es ++ pair ∷ []) q
    ∙ find_in_both q es (pair ∷ [])
    ∙ still_found (eq_by_cmp order q pair.0) (find order q es) pair.1 w (λ tie. ap (λ k. find order k es) (same_key q pair.0 (equal_of (order q pair.0) tie)) ∙ found)
    ∙ sym (get-from_entries nat_list_cmp_total es q))

next_by : (o : Option Value) (es : Pairs) (pair : List ℕ × Value) → find order pair.0 es ≡ o → (if is_some o then from_entries es else insert (from_entries es) pair.0 pair.1) ≡ from_entries {R = order} (es ++ pair ∷ [])
next_by (Some w) es pair found = sym (present es pair w found)
next_by None es pair found = sym (from_entries_push nat_list_cmp_total (slice_cmp-IsAntisymmetric nat_cmp-IsAntisymmetric) es pair.0 pair.1 found)

next_whole : (es : Pairs) (pair : List ℕ × Value) → (if is_some (get (from_entries {R = order} es) pair.0) then from_entries es else insert (from_entries es) pair.0 pair.1) ≡ from_entries {R = order} (es ++ pair ∷ [])
next_whole es pair = rw (get-from_entries nat_list_cmp_total es pair.0) (next_by (find order pair.0 es) es pair refl)

pub absent_at_first : (fields both : FieldMap) → both ≡ fields → both ≡ from_entries (entries fields ++ [])
absent_at_first fields both same = same ∙ sym (of_its_entries fields) ∙ ap from_entries (sym (append-nil (entries fields)))

pub absent_next : (fields both new : FieldMap) (pairs : Pairs) (i : ℕ) (pair : List ℕ × Value) → i < length pairs → pair ≡ get_or pairs i pair
    → both ≡ from_entries (entries fields ++ take i pairs) → new ≡ (if is_some (get both pair.0) then both else insert both pair.0 pair.1) → new ≡ from_entries (entries fields ++ take (i + 1) pairs)
absent_next fields both new pairs i pair within at so_far is =
    let more : take (i + 1) pairs ≡ take i pairs ++ pair ∷ [] = take_more pairs i pair within ∙ ap (λ (x : List ℕ × Value). take i pairs ++ x ∷ []) (sym at) in
    is ∙ ap (λ (m : FieldMap). if is_some (get m pair.0) then m else insert m pair.0 pair.1) so_far
    ∙ next_whole (entries fields ++ take i pairs) pair
    ∙ ap from_entries (append_assoc (entries fields) (take i pairs) (pair ∷ []) ∙ ap (λ (es : Pairs). entries fields ++ es) (sym more))

pub absent_in_the_end : (fields others both : FieldMap) (pairs : Pairs) (i : ℕ) → pairs ≡ entries others → length pairs ≤ i → both ≡ from_entries (entries fields ++ take i pairs) → both ≡ union fields others
unfolding union
absent_in_the_end fields others both pairs i are le is = is ∙ ap (λ (es : Pairs). from_entries (entries fields ++ es)) (take_all i pairs le ∙ are)

-- ---- the set of a row

pub row_set : (overwrite : Bool) (sets : List FieldMap) (fields : FieldMap) (o : Option ℕ) (row : ℕ) (set : FieldMap) → o ≡ Some row → slice_get sets row ≡ Some set → joined overwrite set fields ≡ with_set overwrite sets fields o
row_set overwrite sets fields o row set is at =
    ap (λ (s : Option FieldMap). joined overwrite (unwrap_or s empty) fields) (sym at) ∙ ap (with_set overwrite sets fields) (sym is)
