-- Fields as pairs in byte order of their names: looking one up, setting it, taking it out.
use Rattle.std.proofs.Common.{◌≡◌, ◌<◌, ◌≤◌, ℕ, suc, [], ◌∷◌, ◌++◌, length, get_or, Bool, true, false, cond, Option, Some, None, Ordering, Less, Equal, Greater, T, drop, refl, sym, ap, subst, ◌∙◌, arith}
use Rattle.std.specs.Ordering.{is_lt, is_eq, eq_by_cmp, ordering_reverse}
use Rattle.std.specs.FinMap.{empty, entries, insert, get, remove, retain_keys, from_entries, find, put, is_sorted, entries-insert, entries_sorted, len-entries, len-empty, get-from_entries, get-remove, get-retain_keys, same_map, same_entries_map, slice_cmp-IsAntisymmetric, nat_cmp-IsAntisymmetric}
use Rattle.std.specs.FinMap.Entries.{below_all, where_key, find-where_key, is_sorted-where_key}
use Rattle.std.proofs.Math.ListN.{set}
use Rattle.std.proofs.Math.Seq.{set-append_seam, take-append_seam, drop-append_seam, get_or-append_seam}
use Rattle.std.specs.List.{insert as place_in, remove as without_item}
use Rattle.std.proofs.lemmas.Bool.{and_parts, and_from}
use Rattle.std.proofs.lemmas.Cmp.{nat_list_cmp_total, tied_itself}
use Rattle.std.proofs.lemmas.List.{length-append}
use Rattle.field_types.specs.declared.value.Value.{Value}
use Rattle.event_model.specs.Fields.{FieldMap, IsField, AreFields, AreFieldsInOrder}
use Rattle.base_types.specs.Place.{is_above_all, StandsAt, BelongsAt}
use Rattle.base_types.proofs.Places.{Key, order, PairsOf, less_of, same_key}

abbrev pub Pairs : Type 0
Pairs = PairsOf Value

-- ---- a key among others

above : (x key : Key) → is_lt (order x key) ≡ true → order key x ≡ Greater
above x key h = nat_list_cmp_total.antisymm key x ∙ ap ordering_reverse (less_of _ h)

pub put_first : (key : Key) (value : Value) (es : Pairs) → below_all order key es ≡ true → put order key value es ≡ (key, value) ∷ es
put_first key value [] below = refl
put_first key value (e ∷ es) below =
    let less : order key e.0 ≡ Less = less_of _ (and_parts (is_lt (order key e.0)) (below_all order key es) below).0 in
    rw less refl

-- a key that stands behind others below it gets the value
pub put_at : (key : Key) (old value : Value) (front back : Pairs) → is_above_all key front ≡ true → put order key value (front ++ (key, old) ∷ back) ≡ front ++ (key, value) ∷ back
put_at key old value [] back over = let same : order key key ≡ Equal = tied_itself nat_list_cmp_total key in rw same refl
put_at key old value (e ∷ front) back over =
    let parts = and_parts (is_lt (order e.0 key)) (is_above_all key front) over in
    let greater : order key e.0 ≡ Greater = above e.0 key parts.0 in
    rw greater (ap (λ (t : Pairs). e ∷ t) (put_at key old value front back parts.1))

-- a new key goes between those below it and those above it
pub put_between : (key : Key) (value : Value) (front back : Pairs) → is_above_all key front ≡ true → below_all order key back ≡ true → put order key value (front ++ back) ≡ front ++ (key, value) ∷ back
put_between key value [] back over below = put_first key value back below
put_between key value (e ∷ front) back over below =
    let parts = and_parts (is_lt (order e.0 key)) (is_above_all key front) over in
    let greater : order key e.0 ≡ Greater = above e.0 key parts.0 in
    rw greater (ap (λ (t : Pairs). e ∷ t) (put_between key value front back parts.1 below))

find_at : (key : Key) (value : Value) (front back : Pairs) → is_above_all key front ≡ true → find order key (front ++ (key, value) ∷ back) ≡ Some value
find_at key value [] back over = ap (λ r. cond (is_eq r) (Some value) (find order key back)) (tied_itself nat_list_cmp_total key)
find_at key value (e ∷ front) back over =
    let parts = and_parts (is_lt (order e.0 key)) (is_above_all key front) over in
    let greater : order key e.0 ≡ Greater = above e.0 key parts.0 in
    rw greater (find_at key value front back parts.1)

find_below : (key : Key) (es : Pairs) → below_all order key es ≡ true → find order key es ≡ None
find_below key [] below = refl
find_below key (e ∷ es) below =
    let parts = and_parts (is_lt (order key e.0)) (below_all order key es) below in
    let less : order key e.0 ≡ Less = less_of _ parts.0 in
    rw less (find_below key es parts.1)

find_between : (key : Key) (front back : Pairs) → is_above_all key front ≡ true → below_all order key back ≡ true → find order key (front ++ back) ≡ None
find_between key [] back over below = find_below key back below
find_between key (e ∷ front) back over below =
    let parts = and_parts (is_lt (order e.0 key)) (is_above_all key front) over in
    let greater : order key e.0 ≡ Greater = above e.0 key parts.0 in
    rw greater (find_between key front back parts.1 below)

-- ---- the map of pairs in order

none_left : (es : Pairs) → length es ≡ 0 → es ≡ []
none_left [] h = refl
none_left (e ∷ es) h = absurd (omega arith)

pub entries-from_entries : (es : Pairs) → is_sorted order es ≡ true → entries {R = order} (from_entries es) ≡ es
entries-from_entries [] sorted = none_left _ (sym (len-entries empty) ∙ len-empty order Value)
entries-from_entries (e ∷ es) sorted =
    let parts = and_parts (below_all order e.0 es) (is_sorted order es) sorted in
    entries-insert nat_list_cmp_total (from_entries es) e.0 e.1
    ∙ ap (put order e.0 e.1) (entries-from_entries es parts.1)
    ∙ put_first e.0 e.1 es parts.0

true_of : (b : Bool) → T b → b ≡ true
true_of true t = refl
true_of false t = absurd t

pub sorted_entries : (m : FieldMap) → is_sorted order (entries m) ≡ true
sorted_entries m = true_of _ (entries_sorted m)

-- pairs are those of a map that has them
pub same_pairs : (es : Pairs) (m : FieldMap) → AreFieldsInOrder es → entries m ≡ es → from_entries es ≡ m
same_pairs es m is e = same_entries_map _ _ (entries-from_entries es is.order ∙ sym e)

pub got_at : (key : Key) (pairs : Pairs) (i : ℕ) (at : StandsAt key pairs i) → get {R = order} (from_entries pairs) key ≡ Some at.value
got_at key pairs i at =
    get-from_entries nat_list_cmp_total pairs key ∙ ap (find order key) at.splits ∙ find_at key at.value at.front at.back at.above

pub got_none : (key : Key) (pairs : Pairs) (i : ℕ) → BelongsAt key pairs i → get {R = order} (from_entries pairs) key ≡ None
got_none key pairs i at =
    get-from_entries nat_list_cmp_total pairs key ∙ ap (find order key) at.splits ∙ find_between key at.front at.back at.above at.below

-- ---- pairs of fields

fields_set : (key : Key) (old value : Value) (front back : Pairs) → AreFields (front ++ (key, old) ∷ back) → IsField key value → AreFields (front ++ (key, value) ∷ back)
fields_set key old value [] back fields field = (field, fields.1)
fields_set key old value (e ∷ front) back fields field = (fields.0, fields_set key old value front back fields.1 field)

fields_between : (key : Key) (value : Value) (front back : Pairs) → AreFields (front ++ back) → IsField key value → AreFields (front ++ (key, value) ∷ back)
fields_between key value [] back fields field = (field, fields)
fields_between key value (e ∷ front) back fields field = (fields.0, fields_between key value front back fields.1 field)

fields_out : (key : Key) (value : Value) (front back : Pairs) → AreFields (front ++ (key, value) ∷ back) → AreFields (front ++ back)
fields_out key value [] back fields = fields.1
fields_out key value (e ∷ front) back fields = (fields.0, fields_out key value front back fields.1)

field_at : (key : Key) (value : Value) (front back : Pairs) → AreFields (front ++ (key, value) ∷ back) → IsField key value
field_at key value [] back fields = fields.0
field_at key value (e ∷ front) back fields = field_at key value front back fields.1

pub field_here : (key : Key) (pairs : Pairs) (i : ℕ) (at : StandsAt key pairs i) → AreFieldsInOrder pairs → IsField key at.value
field_here key pairs i at is = field_at key at.value at.front at.back (subst AreFields at.splits is.fields)

-- ---- what the pairs are after a change

-- pairs of fields in order, which are that map
pub record ArePairsOf (map : FieldMap) (pairs : Pairs) : Type 0 where
  pub order : AreFieldsInOrder pairs
  pub map_is : from_entries pairs ≡ map

-- pairs that are the entries of a map are in its order
pairs_of : (map : FieldMap) (pairs : Pairs) → AreFields pairs → entries map ≡ pairs → ArePairsOf map pairs
pairs_of map pairs fields e =
    let in_order : AreFieldsInOrder pairs = record { fields = fields; order = ap (is_sorted order) (sym e) ∙ sorted_entries map } in
    record { order = in_order; map_is = same_pairs pairs map in_order e }

entries_put : (key : Key) (value : Value) (pairs : Pairs) → AreFieldsInOrder pairs → entries {R = order} (insert (from_entries pairs) key value) ≡ put order key value pairs
entries_put key value pairs is = entries-insert nat_list_cmp_total (from_entries pairs) key value ∙ ap (put order key value) (entries-from_entries pairs is.order)

pub set_there : (key : Key) (value : Value) (pairs : Pairs) (i : ℕ) → StandsAt key pairs i → AreFieldsInOrder pairs → IsField key value → ArePairsOf (insert (from_entries pairs) key value) (set pairs i (key, value))
set_there key value pairs i at is field =
    let new : set pairs i (key, value) ≡ at.front ++ (key, value) ∷ at.back =
    ap (λ (es : Pairs). set es i (key, value)) at.splits ∙ ap (λ k. set (at.front ++ (key, at.value) ∷ at.back) k (key, value)) (sym at.place)
    ∙ set-append_seam at.front (key, at.value) at.back (key, value) in
    let there : put order key value pairs ≡ at.front ++ (key, value) ∷ at.back = ap (put order key value) at.splits ∙ put_at key at.value value at.front at.back at.above in
    pairs_of _ _ (subst AreFields (sym new) (fields_set key at.value value at.front at.back (subst AreFields at.splits is.fields) field))
    (entries_put key value pairs is ∙ there ∙ sym new)

pub set_between : (key : Key) (value : Value) (pairs : Pairs) (i : ℕ) → BelongsAt key pairs i → AreFieldsInOrder pairs → IsField key value → ArePairsOf (insert (from_entries pairs) key value) (place_in pairs i (key, value))
set_between key value pairs i at is field =
    let new : place_in pairs i (key, value) ≡ at.front ++ (key, value) ∷ at.back =
    ap (λ (es : Pairs). place_in es i (key, value)) at.splits ∙ ap (λ k. place_in (at.front ++ at.back) k (key, value)) (sym at.place)
    ∙ ap (λ (t : Pairs). t ++ (key, value) ∷ drop (length at.front) (at.front ++ at.back)) (take-append_seam at.front at.back)
    ∙ ap (λ (t : Pairs). at.front ++ (key, value) ∷ t) (drop-append_seam at.front at.back) in
    let there : put order key value pairs ≡ at.front ++ (key, value) ∷ at.back = ap (put order key value) at.splits ∙ put_between key value at.front at.back at.above at.below in
    pairs_of _ _ (subst AreFields (sym new) (fields_between key value at.front at.back (subst AreFields at.splits is.fields) field))
    (entries_put key value pairs is ∙ there ∙ sym new)

-- what is read there
pub read_at : (key : Key) (pairs : Pairs) (i : ℕ) (d : Key × Value) (at : StandsAt key pairs i) → (get_or pairs i d).1 ≡ at.value
read_at key pairs i d at =
    ap (λ (es : Pairs). (get_or es i d).1) at.splits ∙ ap (λ k. (get_or (at.front ++ (key, at.value) ∷ at.back) k d).1) (sym at.place)
    ∙ ap (λ (e : Key × Value). e.1) (get_or-append_seam at.front (key, at.value) at.back d)

-- ---- a field that is taken out

below_out : (x key : Key) (value : Value) (front back : Pairs) → below_all order x (front ++ (key, value) ∷ back) ≡ true → below_all order x (front ++ back) ≡ true
below_out x key value [] back below = (and_parts (is_lt (order x key)) (below_all order x back) below).1
below_out x key value (e ∷ front) back below =
    let parts = and_parts (is_lt (order x e.0)) (below_all order x (front ++ (key, value) ∷ back)) below in
    and_from _ _ parts.0 (below_out x key value front back parts.1)

sorted_out : (key : Key) (value : Value) (front back : Pairs) → is_sorted order (front ++ (key, value) ∷ back) ≡ true → is_sorted order (front ++ back) ≡ true
sorted_out key value [] back sorted = (and_parts (below_all order key back) (is_sorted order back) sorted).1
sorted_out key value (e ∷ front) back sorted =
    let parts = and_parts (below_all order e.0 (front ++ (key, value) ∷ back)) (is_sorted order (front ++ (key, value) ∷ back)) sorted in
    and_from _ _ (below_out e.0 key value front back parts.0) (sorted_out key value front back parts.1)

-- behind a key in order all keys are above it
sorted_behind : (key : Key) (value : Value) (front back : Pairs) → is_sorted order (front ++ (key, value) ∷ back) ≡ true → below_all order key back ≡ true
sorted_behind key value [] back sorted = (and_parts (below_all order key back) (is_sorted order back) sorted).0
sorted_behind key value (e ∷ front) back sorted =
    sorted_behind key value front back (and_parts (below_all order e.0 (front ++ (key, value) ∷ back)) (is_sorted order (front ++ (key, value) ∷ back)) sorted).1

-- another key is found without that pair as with it
find_other : (q key : Key) (value : Value) (front back : Pairs) → eq_by_cmp order q key ≡ false → find order q (front ++ back) ≡ find order q (front ++ (key, value) ∷ back)
find_other q key value [] back other = sym (ap (λ b. cond b (Some value) (find order q back)) other)
find_other q key value (e ∷ front) back other = ap (cond (eq_by_cmp order q e.0) (Some e.1)) (find_other q key value front back other)

tied_key : (q key : Key) → eq_by_cmp order q key ≡ true → q ≡ key
tied_key q key e = same_key q key (equal_of (order q key) e)
  where
    equal_of : (r : Ordering) → is_eq r ≡ true → r ≡ Equal
    equal_of Less h = absurd (cc)
    equal_of Equal h = refl
    equal_of Greater h = absurd (cc)

find_without : (q key : Key) (value : Value) (front back : Pairs) (b : Bool) → eq_by_cmp order q key ≡ b → is_above_all key front ≡ true → below_all order key back ≡ true
    → find order q (front ++ back) ≡ cond b None (find order q (front ++ (key, value) ∷ back))
find_without q key value front back true e over below = ap (λ k. find order k (front ++ back)) (tied_key q key e) ∙ find_between key front back over below
find_without q key value front back false e over below = find_other q key value front back e

drop_behind : (front : Pairs) (e : Key × Value) (back : Pairs) → drop (suc (length front)) (front ++ e ∷ back) ≡ back
drop_behind [] e back = refl
drop_behind (f ∷ front) e back = drop_behind front e back

pub taken_out : (key : Key) (pairs : Pairs) (i : ℕ) → StandsAt key pairs i → AreFieldsInOrder pairs → ArePairsOf (remove (from_entries pairs) key) (without_item pairs i)
taken_out key pairs i at is =
    let sorted = ap (is_sorted order) (sym at.splits) ∙ is.order in
    let below = sorted_behind key at.value at.front at.back sorted in
    let new : without_item pairs i ≡ at.front ++ at.back =
    ap (λ (es : Pairs). without_item es i) at.splits ∙ ap (λ k. without_item (at.front ++ (key, at.value) ∷ at.back) k) (sym at.place)
    ∙ ap (λ (t : Pairs). t ++ drop (suc (length at.front)) (at.front ++ (key, at.value) ∷ at.back)) (take-append_seam at.front ((key, at.value) ∷ at.back))
    ∙ ap (λ (t : Pairs). at.front ++ t) (drop_behind at.front (key, at.value) at.back) in
    record {
      order = record {
        fields = subst AreFields (sym new) (fields_out key at.value at.front at.back (subst AreFields at.splits is.fields));
        order = ap (is_sorted order) new ∙ sorted_out key at.value at.front at.back sorted;
      };
      map_is = same_map nat_list_cmp_total (slice_cmp-IsAntisymmetric nat_cmp-IsAntisymmetric) _ _ (λ q.
          get-from_entries nat_list_cmp_total (without_item pairs i) q ∙ ap (find order q) new
          ∙ find_without q key at.value at.front at.back (eq_by_cmp order q key) refl at.above below
          ∙ ap (λ (es : Pairs). cond (eq_by_cmp order q key) None (find order q es)) (sym at.splits)
          ∙ ap (cond (eq_by_cmp order q key) None) (sym (get-from_entries nat_list_cmp_total pairs q))
          ∙ sym (get-remove nat_list_cmp_total (from_entries pairs) key q));
    }

none_tied : (q key : Key) (m : FieldMap) (b : Bool) → eq_by_cmp order q key ≡ b → get m key ≡ None → get m q ≡ cond b None (get m q)
none_tied q key m true e none = ap (get m) (tied_key q key e) ∙ none
none_tied q key m false e none = refl

-- a key that isn't there leaves the map as it is
pub none_out : (key : Key) (pairs : Pairs) (i : ℕ) → BelongsAt key pairs i → from_entries {R = order} pairs ≡ remove (from_entries pairs) key
none_out key pairs i at =
    same_map nat_list_cmp_total (slice_cmp-IsAntisymmetric nat_cmp-IsAntisymmetric) _ _ (λ q.
    none_tied q key (from_entries pairs) (eq_by_cmp order q key) refl (got_none key pairs i at)
    ∙ sym (get-remove nat_list_cmp_total (from_entries pairs) key q))

-- ---- the same of what a call was given

pub moved : (k key : Key) (es pairs : Pairs) (i : ℕ) → k ≡ key → es ≡ pairs → StandsAt k es i → StandsAt key pairs i
moved k key es pairs i same is at = subst (λ x. StandsAt x pairs i) same (subst (λ (ps : Pairs). StandsAt k ps i) is at)

pub moved_gap : (k key : Key) (es pairs : Pairs) (i : ℕ) → k ≡ key → es ≡ pairs → BelongsAt k es i → BelongsAt key pairs i
moved_gap k key es pairs i same is at = subst (λ x. BelongsAt x pairs i) same (subst (λ (ps : Pairs). BelongsAt k ps i) is at)

pub found_value : (key : Key) (pairs : Pairs) (i : ℕ) (e : Key × Value) → StandsAt key pairs i → e ≡ get_or pairs i e → Some e.1 ≡ get {R = order} (from_entries pairs) key
found_value key pairs i e at read = ap (λ (p : Key × Value). Some p.1) read ∙ ap Some (read_at key pairs i e at) ∙ sym (got_at key pairs i at)

pub found_field : (key : Key) (pairs : Pairs) (i : ℕ) (e : Key × Value) → AreFieldsInOrder pairs → StandsAt key pairs i → e ≡ get_or pairs i e → IsField key e.1
found_field key pairs i e is at read = subst (IsField key) (sym (ap (λ (p : Key × Value). p.1) read ∙ read_at key pairs i e at)) (field_here key pairs i at is)

-- ---- fields that are kept

as_T : (b : Bool) → b ≡ true → T b
as_T b e = subst T (sym e) tt

fields_kept : (p : Key → Bool) (es : Pairs) → AreFields es → AreFields (where_key order p es)
fields_kept p [] fields = tt
fields_kept p (e ∷ es) fields =
    elim (p e.0) as (λ b. AreFields (cond b (e ∷ where_key order p es) (where_key order p es))) [
      | true ↦ (fields.0, fields_kept p es fields.1)
      | false ↦ fields_kept p es fields.1
    ]

pub kept_of : (p : Key → Bool) (pairs : Pairs) (m : FieldMap) → AreFieldsInOrder pairs → from_entries pairs ≡ m → ArePairsOf (retain_keys m p) (where_key order p pairs)
kept_of p pairs m is map =
    let alike = λ (q x : Key) (e : order q x ≡ Equal). ap p (sym (same_key q x e)) in
    record {
      order = record {
        fields = fields_kept p pairs is.fields;
        order = true_of _ (is_sorted-where_key order p pairs (as_T _ is.order));
      };
      map_is = same_map nat_list_cmp_total (slice_cmp-IsAntisymmetric nat_cmp-IsAntisymmetric) _ _ (λ q.
          get-from_entries nat_list_cmp_total (where_key order p pairs) q
          ∙ find-where_key order p q (alike q) pairs
          ∙ ap (λ (o : Option Value). cond (p q) o None) (sym (get-from_entries nat_list_cmp_total pairs q) ∙ ap (λ (n : FieldMap). get n q) map)
          ∙ sym (get-retain_keys m p q (alike q)));
    }

pub entries_of : (pairs : Pairs) (m : FieldMap) → AreFieldsInOrder pairs → from_entries pairs ≡ m → pairs ≡ entries m
entries_of pairs m is map = sym (entries-from_entries pairs is.order) ∙ ap (λ (n : FieldMap). entries n) map

-- a place among the entries of a map is one among the pairs that are this map
pub stands_in : (key : Key) (pairs : Pairs) (m : FieldMap) (i : ℕ) → AreFieldsInOrder pairs → from_entries pairs ≡ m → StandsAt key (entries m) i → StandsAt key pairs i
stands_in key pairs m i is map at = subst (λ (ps : Pairs). StandsAt key ps i) (sym (entries_of pairs m is map)) at

pub belongs_in : (key : Key) (pairs : Pairs) (m : FieldMap) (i : ℕ) → AreFieldsInOrder pairs → from_entries pairs ≡ m → BelongsAt key (entries m) i → BelongsAt key pairs i
belongs_in key pairs m i is map at = subst (λ (ps : Pairs). BelongsAt key ps i) (sym (entries_of pairs m is map)) at

pub stands_inside : (key : Key) (pairs : Pairs) (i : ℕ) → StandsAt key pairs i → i < length pairs
stands_inside key pairs i at =
    let size = ap (λ (ps : Pairs). length ps) at.splits ∙ length-append at.front ((key, at.value) ∷ at.back) in
    let place = at.place in
    omega (arith, size, place)

pub belongs_inside : (key : Key) (pairs : Pairs) (i : ℕ) → BelongsAt key pairs i → i ≤ length pairs
belongs_inside key pairs i at =
    let size = ap (λ (ps : Pairs). length ps) at.splits ∙ length-append at.front at.back in
    let place = at.place in
    omega (arith, size, place)
