-- Fields that fill gaps among others, one after the other.
use Rattle.std.proofs.Common.{◌≡◌, ℕ, List, [], ◌∷◌, ◌++◌, Bool, true, false, cond, Option, Some, None, is_some, zero, suc, ◌+◌, ◌<◌, ◌≤◌, length, take, get_or, subst, arith, add-one, append_assoc, if◌then◌else◌, Ordering, Less, Equal, Greater, refl, sym, ap, ◌∙◌}
use Rattle.std.specs.Option.{option_or}
use Rattle.std.specs.Ordering.{is_eq}
use Rattle.std.specs.FinMap.{find, get, insert, entries, from_entries, get-entries, get-insert, get-from_entries, same_map, slice_cmp-IsAntisymmetric, nat_cmp-IsAntisymmetric}
use Rattle.std.proofs.lemmas.List.{take_all}
use Rattle.std.proofs.lemmas.Cmp.{nat_list_cmp_total}
use Rattle.std.proofs.lemmas.Bool.{false≢true}
use Rattle.std.proofs.Math.Seq.{take-suc}
use Rattle.base_types.proofs.Places.{Key, order, PairsOf, same_key}
use Rattle.scalar_text.specs.Raw.{raw_text}
use Rattle.field_types.specs.declared.value.Value.{Value}
use Rattle.field_types.specs.declared.value.Value.TheVariants.{Text}
use Rattle.event_model.specs.Fields.{FieldMap, IsField, AreFields, AreFieldsInOrder}
use Rattle.feed_rows.specs.Reports.{filled, put_absent, raw_key, with_raw}

abbrev Pairs : Type 0
Pairs = PairsOf Value

or_if : (b : Bool) (v : Value) (o p : Option Value) → (if b then Some v else option_or o p) ≡ option_or (if b then Some v else o) p
or_if true v o p = refl
or_if false v o p = refl

-- what is found in two lists is found in the first, or else in the second
find_in_both : (key : Key) (xs ys : Pairs) → find order key (xs ++ ys) ≡ option_or (find order key xs) (find order key ys)
find_in_both key [] ys = refl
find_in_both key (x ∷ xs) ys =
    ap (λ o. cond (is_eq (order key x.0)) (Some x.1) o) (find_in_both key xs ys)
    ∙ or_if (is_eq (order key x.0)) x.1 (find order key xs) (find order key ys)

pub filled_gets : (others fields : FieldMap) (key : Key) → get (filled others fields) key ≡ option_or (get fields key) (get others key)
unfolding filled
filled_gets others fields key =
    get-from_entries nat_list_cmp_total (entries fields ++ entries others) key ∙ find_in_both key (entries fields) (entries others)
    ∙ ap (λ o. option_or o (find order key (entries others))) (sym (get-entries fields key))
    ∙ ap (option_or (get fields key)) (sym (get-entries others key))

or_none : (o : Option Value) → option_or o None ≡ o
or_none None = refl
or_none (Some v) = refl

or_there : (o p : Option Value) → is_some o ≡ true → option_or o p ≡ o
or_there None p there = absurd (false≢true there)
or_there (Some v) p there = refl

none_of : (o : Option Value) → is_some o ≡ false → o ≡ None
none_of None there = refl
none_of (Some v) there = absurd (cc)

tied : (r : Ordering) → is_eq r ≡ true → r ≡ Equal
tied Less e = absurd (false≢true e)
tied Equal e = refl
tied Greater e = absurd (false≢true e)

-- the field that is put is looked at, or another
there_at : (q key : Key) (v : Value) (es : Pairs) (b : Bool) → is_eq (order q key) ≡ b → is_some (find order key es) ≡ true → find order q es ≡ option_or (find order q es) (cond b (Some v) None)
there_at q key v es true e there =
    let same : q ≡ key = same_key q key (tied (order q key) e) in
    sym (or_there (find order q es) (Some v) (ap (λ k. is_some (find order k es)) same ∙ there))
there_at q key v es false e there = sym (or_none (find order q es))

absent_at : (q key : Key) (v : Value) (es : Pairs) (b : Bool) → is_eq (order q key) ≡ b → is_some (find order key es) ≡ false → cond b (Some v) (find order q es) ≡ option_or (find order q es) (cond b (Some v) None)
absent_at q key v es true e there =
    let same : q ≡ key = same_key q key (tied (order q key) e) in
    let none : find order q es ≡ None = ap (λ k. find order k es) same ∙ none_of (find order key es) there in
    rw none refl
absent_at q key v es false e there = sym (or_none (find order q es))

put_gets : (q key : Key) (v : Value) (es : Pairs) (t : Bool) → is_some (find order key es) ≡ t
    → get (if t then from_entries {R = order} es else insert (from_entries es) key v) q ≡ option_or (find order q es) (cond (is_eq (order q key)) (Some v) None)
put_gets q key v es true there = get-from_entries nat_list_cmp_total es q ∙ there_at q key v es (is_eq (order q key)) refl there
put_gets q key v es false there =
    get-insert nat_list_cmp_total (from_entries es) key v q
    ∙ ap (λ o. cond (is_eq (order q key)) (Some v) o) (get-from_entries nat_list_cmp_total es q)
    ∙ absent_at q key v es (is_eq (order q key)) refl there

same_maps : (m n : FieldMap) → ((q : Key) → get m q ≡ get n q) → m ≡ n
same_maps m n = same_map nat_list_cmp_total (slice_cmp-IsAntisymmetric nat_cmp-IsAntisymmetric) m n

-- one field more fills its gap
pub one_more : (key : Key) (v : Value) (es : Pairs) → put_absent (key, v) (from_entries es) ≡ from_entries (es ++ (key, v) ∷ [])
one_more key v es =
    ap (λ t. if t then from_entries es else insert (from_entries es) key v) (ap is_some (get-from_entries nat_list_cmp_total es key))
    ∙ same_maps _ _ (λ q. put_gets q key v es (is_some (find order key es)) refl
    ∙ sym (find_in_both q es ((key, v) ∷ [])) ∙ sym (get-from_entries nat_list_cmp_total (es ++ (key, v) ∷ []) q))

pub from_all : (m : FieldMap) → from_entries (entries m) ≡ m
from_all m = same_maps _ _ (λ q. get-from_entries nat_list_cmp_total (entries m) q ∙ sym (get-entries m q))

field_in : (es : Pairs) (i : ℕ) (d : Key × Value) → AreFields es → i < length es → IsField (get_or es i d).0 (get_or es i d).1
field_in [] i d are within = absurd (omega arith)
field_in (e ∷ es) zero d are within = are.0
field_in (e ∷ es) (suc i) d are within = field_in es i d are.1 (omega arith)

-- each of these pairs is a field and its value
pub field_at : (es : Pairs) (i : ℕ) (pair : Key × Value) → AreFieldsInOrder es → i < length es → pair ≡ get_or es i pair → IsField pair.0 pair.1
field_at es i pair are within is = subst (λ (p : Key × Value). IsField p.0 p.1) (sym is) (field_in es i pair are.fields within)

-- a turn of the loop
pub next_fills : (es items : Pairs) (i : ℕ) (pair : Key × Value) (old new : FieldMap) → old ≡ from_entries (es ++ take i items) → i < length items → pair ≡ get_or items i pair
    → new ≡ put_absent pair old → new ≡ from_entries (es ++ take (i + 1) items)
next_fills es items i pair old new was within is put =
    let more : es ++ take (i + 1) items ≡ (es ++ take i items) ++ pair ∷ [] =
    ap (λ n. es ++ take n items) (add-one i) ∙ ap (λ (t : Pairs). es ++ t) (take-suc items i pair within ∙ ap (λ (p : Key × Value). take i items ++ p ∷ []) (sym is))
    ∙ sym (append_assoc es (take i items) (pair ∷ [])) in
    put ∙ ap (put_absent pair) was ∙ one_more pair.0 pair.1 (es ++ take i items) ∙ ap from_entries (sym more)

-- the end of the loop
pub all_fill : (fields others : FieldMap) (items : Pairs) (i : ℕ) (last : FieldMap) → last ≡ from_entries (entries fields ++ take i items) → length items ≤ i → items ≡ entries others → last ≡ filled others fields
unfolding filled
all_fill fields others items i last is end all =
    is ∙ ap (λ (t : Pairs). from_entries (entries fields ++ t)) (take_all i items end ∙ all)

-- ---- a content among the fields that fill gaps

absent_gets : (key : Key) (v : Value) (fields : FieldMap) (q : Key) → get (put_absent (key, v) fields) q ≡ option_or (get fields q) (cond (is_eq (order q key)) (Some v) None)
absent_gets key v fields q =
    ap (λ (m : FieldMap). get (put_absent (key, v) m) q) (sym (from_all fields))
    ∙ ap (λ (m : FieldMap). get m q) (one_more key v (entries fields))
    ∙ get-from_entries nat_list_cmp_total (entries fields ++ (key, v) ∷ []) q
    ∙ find_in_both q (entries fields) ((key, v) ∷ [])
    ∙ ap (λ o. option_or o (cond (is_eq (order q key)) (Some v) None)) (sym (get-entries fields q))

or_or : (o p r : Option Value) → option_or (option_or o p) r ≡ option_or o (option_or p r)
or_or None p r = refl
or_or (Some v) p r = refl

or_cond : (b : Bool) (v : Value) (o : Option Value) → option_or (cond b (Some v) None) o ≡ cond b (Some v) o
or_cond true v o = refl
or_cond false v o = refl

-- to set a field that is absent and then to fill the gaps is to fill them from the others with that field
absent_fills : (others fields : FieldMap) (key : Key) (v : Value) → filled others (put_absent (key, v) fields) ≡ filled (insert others key v) fields
absent_fills others fields key v = same_maps _ _ (λ q.
    filled_gets others (put_absent (key, v) fields) q
    ∙ ap (λ o. option_or o (get others q)) (absent_gets key v fields q)
    ∙ or_or (get fields q) (cond (is_eq (order q key)) (Some v) None) (get others q)
    ∙ ap (option_or (get fields q)) (or_cond (is_eq (order q key)) v (get others q) ∙ sym (get-insert nat_list_cmp_total others key v q))
    ∙ sym (filled_gets (insert others key v) fields q))

pub fills_with_raw : (others fields : FieldMap) (content : List ℕ) → filled others (put_absent (raw_key, Text (raw_text content)) fields) ≡ filled (with_raw others content) fields
unfolding with_raw
fills_with_raw others fields content = absent_fills others fields raw_key (Text (raw_text content))
