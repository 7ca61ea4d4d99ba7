-- Names in order, and one that is above the last.
use Rattle.std.proofs.Common.{◌≡◌, suc, ◌-◌, [], ◌∷◌, ◌++◌, ◌&&◌, length, Some, Bool, true, false, Less, refl, sym, ap, ◌∙◌, arith}
use Rattle.std.specs.Ordering.{is_lt}
use Rattle.std.specs.FinMap.{is_sorted, entries, from_entries}
use Rattle.std.specs.FinMap.Entries.{below_all}
use Rattle.std.specs.List.{slice_get}
use Rattle.std.proofs.lemmas.Option.{same_Some}
use Rattle.std.proofs.Math.Bool.{and-true}
use Rattle.std.proofs.lemmas.Bool.{and_parts, and_from}
use Rattle.std.proofs.lemmas.Cmp.{nat_list_cmp_total}
use Rattle.field_types.specs.declared.value.Value.{Value}
use Rattle.base_types.specs.Place.{is_above_all}
use Rattle.base_types.proofs.Places.{Key, order, less_of, lt_of}
use Rattle.event_model.specs.Fields.{FieldMap, IsField, AreFields, AreFieldsInOrder}
use Rattle.event_model.proofs.Pairs.{Pairs, entries-from_entries}

abbrev Pair : Type 0
Pair = Key × Value

-- ---- a name above the last

-- a test that holds wherever another one does changes nothing beside it
beside : (a b : Bool) → (b ≡ true → a ≡ true) → b ≡ (a && b)
beside true true h = refl
beside true false h = refl
beside false true h = absurd (cc (h refl))
beside false false h = refl

-- where names rise, a name is above all of them just where it is above the last
pub above_last : (key : Key) (pairs : Pairs) (last : Pair) → is_sorted order pairs ≡ true → slice_get pairs (length pairs - 1) ≡ Some last → is_lt (order last.0 key) ≡ is_above_all key pairs
above_last key [] last sorted at = absurd (cc at)
above_last key (e ∷ []) last sorted at = ap (λ (p : Pair). is_lt (order p.0 key)) (sym (same_Some e last at)) ∙ sym (and-true _)
above_last key (e ∷ f ∷ es) last sorted at =
    let parts = and_parts (below_all order e.0 (f ∷ es)) (is_sorted order (f ∷ es)) sorted in
    let next : order e.0 f.0 ≡ Less = less_of _ (and_parts (is_lt (order e.0 f.0)) (below_all order e.0 es) parts.0).0 in
    let place : suc (length (f ∷ es) - 1) ≡ length (e ∷ f ∷ es) - 1 = omega arith in
    above_last key (f ∷ es) last parts.1 (ap (slice_get (e ∷ f ∷ es)) place ∙ at)
    ∙ beside (is_lt (order e.0 key)) (is_above_all key (f ∷ es))
    (λ over. lt_of _ (nat_list_cmp_total.trans e.0 f.0 key next (less_of _ (and_parts (is_lt (order f.0 key)) (is_above_all key es) over).0)))

below_push : (x key : Key) (value : Value) (es : Pairs) → below_all order x es ≡ true → is_lt (order x key) ≡ true → below_all order x (es ++ (key, value) ∷ []) ≡ true
below_push x key value [] below less = and_from _ _ less refl
below_push x key value (e ∷ es) below less =
    let parts = and_parts (is_lt (order x e.0)) (below_all order x es) below in
    and_from _ _ parts.0 (below_push x key value es parts.1 less)

pub sorted_push : (key : Key) (value : Value) (es : Pairs) → is_sorted order es ≡ true → is_above_all key es ≡ true → is_sorted order (es ++ (key, value) ∷ []) ≡ true
sorted_push key value [] sorted over = refl
sorted_push key value (e ∷ es) sorted over =
    let parts = and_parts (below_all order e.0 es) (is_sorted order es) sorted in
    let overs = and_parts (is_lt (order e.0 key)) (is_above_all key es) over in
    and_from _ _ (below_push e.0 key value es parts.0 overs.0) (sorted_push key value es parts.1 overs.1)

pub fields_push : (key : Key) (value : Value) (es : Pairs) → AreFields es → IsField key value → AreFields (es ++ (key, value) ∷ [])
fields_push key value [] fields field = (field, tt)
fields_push key value (e ∷ es) fields field = (fields.0, fields_push key value es fields.1 field)

pub above_none : (key : Key) (pairs : Pairs) → length pairs ≡ 0 → true ≡ is_above_all key pairs
above_none key [] none = refl
above_none key (e ∷ es) none = absurd (omega arith)

-- ---- a field behind all others

below_at : (x key : Key) (value : Value) (front back : Pairs) → below_all order x (front ++ (key, value) ∷ back) ≡ true → is_lt (order x key) ≡ true
below_at x key value [] back below = (and_parts (is_lt (order x key)) (below_all order x back) below).0
below_at x key value (e ∷ front) back below =
    below_at x key value front back (and_parts (is_lt (order x e.0)) (below_all order x (front ++ (key, value) ∷ back)) below).1

-- what stands behind others in order is above them
pub above_front : (key : Key) (value : Value) (front back : Pairs) → is_sorted order (front ++ (key, value) ∷ back) ≡ true → is_above_all key front ≡ true
above_front key value [] back sorted = refl
above_front key value (e ∷ front) back sorted =
    let parts = and_parts (below_all order e.0 (front ++ (key, value) ∷ back)) (is_sorted order (front ++ (key, value) ∷ back)) sorted in
    and_from _ _ (below_at e.0 key value front back parts.0) (above_front key value front back parts.1)

pub in_order_with : (key : Key) (value : Value) (es pairs : Pairs) → pairs ≡ es → AreFieldsInOrder es → is_above_all key pairs ≡ true → IsField key value → AreFieldsInOrder (es ++ (key, value) ∷ [])
in_order_with key value es pairs same is above field =
    let over : is_above_all key es ≡ true = ap (is_above_all key) (sym same) ∙ above in
    record { fields = fields_push key value es is.fields field; order = sorted_push key value es is.order over }

pub pushed : (key : Key) (value : Value) (es items : Pairs) (map : FieldMap) → items ≡ es ++ (key, value) ∷ [] → from_entries es ≡ map → AreFieldsInOrder es → AreFieldsInOrder (es ++ (key, value) ∷ [])
    → entries {R = order} (from_entries items) ≡ entries map ++ (key, value) ∷ []
pushed key value es items map new view is with =
    ap (λ (ps : Pairs). entries {R = order} (from_entries ps)) new ∙ entries-from_entries (es ++ (key, value) ∷ []) with.order
    ∙ ap (λ (ps : Pairs). ps ++ (key, value) ∷ []) (sym (entries-from_entries es is.order) ∙ ap (λ (m : FieldMap). entries m) view)

pub not_above : (key : Key) (es pairs : Pairs) (map : FieldMap) → pairs ≡ es → from_entries es ≡ map → AreFieldsInOrder es → is_above_all key pairs ≡ false → is_above_all key (entries map) ≡ false
not_above key es pairs map same view is none =
    ap (λ (m : FieldMap). is_above_all key (entries m)) (sym view) ∙ ap (is_above_all key) (entries-from_entries es is.order ∙ sym same) ∙ none
