-- A field that was put behind the others of a message.
use Rattle.std.proofs.Common.{◌≡◌, [], ◌∷◌, ◌++◌, Bool, true, false, Result, Ok, Err, IfOk, OnErr, refl, sym, ap, ap₂, subst, ◌∙◌, append_assoc}
use Rattle.std.specs.FinMap.{empty, entries, is_sorted}
use Rattle.std.specs.Ordering.{is_lt}
use Rattle.std.specs.Str.{is_utf8}
use Rattle.std.proofs.lemmas.Bool.{and_from, and_parts, false≢true}
use Rattle.std.proofs.lemmas.Grind.{flat_map-append}
use Rattle.std.proofs.lemmas.List.{append-nil}
use Rattle.base_types.specs.Place.{is_above_all}
use Rattle.base_types.specs.declared.memory.OutOfMemory.{OutOfMemory}
use Rattle.base_types.proofs.Places.{Key, order}
use Rattle.field_types.specs.Writing.{is_utf8_value}
use Rattle.field_types.specs.declared.value.Value.{Value}
use Rattle.event_model.specs.Edits.{IsPush}
use Rattle.event_model.specs.Fields.{FieldMap, IsField}
use Rattle.event_model.specs.Lenient.{type_key}
use Rattle.event_model.specs.declared.message.Kind.{Kind}
use Rattle.event_model.proofs.Last.{above_front}
use Rattle.event_model.proofs.Pairs.{Pairs, entries-from_entries, sorted_entries}
use Rattle.event_text.specs.Decode.{opening, pairs_text}
use Rattle.event_json.specs.Direct.{last_behind, written, PutsPair}
use Rattle.event_text.specs.Strict.{AreTyped}
use Rattle.event_text.specs.Text.{pair_text}
use Rattle.event_text.proofs.MessageText.{field_above}
use Rattle.event_json.proofs.Putting.{fields_on, texts_on}

last_above : (key from : Key) (es : Pairs) → is_lt (order from key) ≡ true → is_above_all key es ≡ true → is_lt (order (last_behind from es) key) ≡ true
last_above key from [] below above = below
last_above key from (e ∷ es) below above = let parts = and_parts (is_lt (order e.0 key)) (is_above_all key es) above in last_above key e.0 es parts.0 parts.1

last_is : (from : Key) (es : Pairs) (e : Key × Value) → last_behind from (es ++ e ∷ []) ≡ e.0
last_is from [] e = refl
last_is from (first ∷ es) e = last_is first.0 es e

pairs_on : (opened : Key) (es : Pairs) (e : Key × Value) → opened ++ pairs_text (es ++ e ∷ []) ≡ (opened ++ pairs_text es) ++ 44 ∷ pair_text e
pairs_on opened es e =
    ap (λ (t : Key). opened ++ t) (flat_map-append (λ (pair : Key × Value). 44 ∷ pair_text pair) es (e ∷ []) ∙ ap (λ (t : Key). pairs_text es ++ 44 ∷ t) (append-nil (pair_text e)))
    ∙ sym (append_assoc opened (pairs_text es) (44 ∷ pair_text e))

-- a message without fields
pub nothing_written : (kind : Kind) (fields : FieldMap) → fields ≡ empty → written kind fields ≡ (opening kind, type_key)
nothing_written kind fields none =
    ap (λ (es : Pairs). (opening kind ++ pairs_text es, last_behind type_key es)) (ap entries none ∙ entries-from_entries [] refl)
    ∙ ap (λ (t : Key). (t, type_key)) (append-nil (opening kind))

-- a field that went behind the others of a message stands behind them in its text
pub field_put : (key : Key) (v : Value) (kind : Kind) (old new : FieldMap) → IsField key v → is_utf8 key ≡ true → is_utf8_value v ≡ true → entries new ≡ entries old ++ (key, v) ∷ []
    → PutsPair (key, v) (written kind old) (written kind new)
field_put key v kind old new field good value_good are =
    let sorted = subst (λ (es : Pairs). is_sorted order es ≡ true) are (sorted_entries new) in
    record {
      above = last_above key type_key (entries old) (field_above key v field) (above_front key v (entries old) [] sorted);
      texts = and_from _ _ good value_good;
      line = ap (λ (es : Pairs). (opening kind ++ pairs_text es, last_behind type_key es)) are
          ∙ ap₂ (λ (t l : Key). (t, l)) (pairs_on (opening kind) (entries old) (key, v)) (last_is type_key (entries old) (key, v));
    }

typed_put : (key : Key) (v : Value) (old new : FieldMap) → IsField key v → is_utf8 key ≡ true → is_utf8_value v ≡ true → entries new ≡ entries old ++ (key, v) ∷ [] → AreTyped (entries old) → AreTyped (entries new)
typed_put key v old new field good value_good are typed =
    subst AreTyped (sym are) (record {
      fields = fields_on (entries old) ((key, v) ∷ []) typed.fields (field, tt);
      texts = texts_on (entries old) ((key, v) ∷ []) typed.texts (and_from _ _ (and_from _ _ good value_good) refl);
    })

-- the fields are canonical ones whatever the call answers
pub typed_after : (r : Result Bool OutOfMemory) (name key : Key) (v : Value) (old new : FieldMap) → name ≡ key → IsField key v → is_utf8 key ≡ true → is_utf8_value v ≡ true
    → IfOk r (λ pushed. IsPush pushed name v old new) → OnErr r (new ≡ old) → AreTyped (entries old) → AreTyped (entries new)
typed_after (Ok true) name key v old new same field good value_good push stays typed =
    typed_put key v old new field good value_good (subst (λ k. entries new ≡ entries old ++ (k, v) ∷ []) same push) typed
typed_after (Ok false) name key v old new same field good value_good push stays typed = subst (λ (m : FieldMap). AreTyped (entries m)) (sym push.1) typed
typed_after (Err e) name key v old new same field good value_good push stays typed = subst (λ (m : FieldMap). AreTyped (entries m)) (sym stays) typed

-- and where it says so, the pair stands in the text
pub put_after : (r : Result Bool OutOfMemory) (name key : Key) (v : Value) (kind : Kind) (old new : FieldMap) → name ≡ key → IsField key v → is_utf8 key ≡ true → is_utf8_value v ≡ true
    → IfOk r (λ pushed. IsPush pushed name v old new) → IfOk r (λ is_above. is_above ≡ true → PutsPair (key, v) (written kind old) (written kind new))
put_after (Ok true) name key v kind old new same field good value_good push =
    λ _. field_put key v kind old new field good value_good (subst (λ k. entries new ≡ entries old ++ (k, v) ∷ []) same push)
put_after (Ok false) name key v kind old new same field good value_good push = λ is. absurd (false≢true is)
put_after (Err e) name key v kind old new same field good value_good push = tt
