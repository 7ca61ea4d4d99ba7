-- The strict reading finds each message in its text, and nothing else.
use Rattle.std.proofs.Common.{◌≡◌, ◌<◌, ◌⊎◌, ⊎_elim, inl, inr, codes, ℕ, zero, suc, [], ◌∷◌, ◌++◌, ◌&&◌, length, drop, Bool, true, false, Option, Some, None, option_map, option_and_then, if◌then◌else◌, refl, sym, ap, subst, ◌∙◌, arith, append_assoc}
use Rattle.std.specs.FinMap.{entries, is_sorted}
use Rattle.std.specs.List.{list_all}
use Rattle.std.specs.Option.{option_or}
use Rattle.std.specs.Str.{bytes_eq}
use Rattle.std.proofs.Math.Seq.{drop-append_seam}
use Rattle.std.proofs.lemmas.Bool.{and_parts, and_from}
use Rattle.std.proofs.lemmas.List.{length-append}
use Rattle.std.proofs.lemmas.Option.{cond_some, none-some, option_and_then_some, same_Some}
use Rattle.std.proofs.lemmas.Slice.Eq.{bytes_eq-Decides}
use Rattle.base_types.proofs.Places.{Key, order}
use Rattle.field_types.specs.Cleaning.{clean}
use Rattle.field_types.specs.Field.{type_of}
use Rattle.field_types.specs.declared.kind.FieldType.{FieldType}
use Rattle.field_types.specs.declared.value.Value.{Value}
use Rattle.field_types.proofs.CleanedTwice.{cleaned_stays}
use Rattle.field_types.proofs.Twice.{mapped}
use Rattle.event_model.specs.Fields.{AreFields, FieldMap, IsField, value_for}
use Rattle.event_model.specs.declared.message.Kind.{Kind}
use Rattle.event_model.specs.declared.message.Kind.TheVariants.{Report, Event}
use Rattle.event_model.specs.declared.message.Message.{Message}
use Rattle.event_model.proofs.Pairs.{entries-from_entries, same_pairs, sorted_entries}
use Rattle.event_text.specs.Decode.{behind_comma, opening, pair_at, pairs_text, IsTypedPair}
use Rattle.event_text.specs.Exact.{canonical_pair, message_if, message_with, is_text_with, pairs_behind, pairs_in, strict, strict_as, with_later, Pairs}
use Rattle.event_text.specs.Strict.{AreTyped, IsNoText, IsTextOf, is_utf8_pair}
use Rattle.event_text.specs.Text.{message_text, pair_text}
use Rattle.event_text.proofs.MessageText.{message_text-parts}
use Rattle.event_text.proofs.Messages.{same_opening}
use Rattle.event_text.proofs.PairTexts.{pair_here, stops}

abbrev Pair : Type 0
Pair = Key × Value

-- ---- what is found is canonical

stays_by : (u v : Value) (type : Option FieldType) → option_and_then (λ kind. clean kind u) type ≡ Some v → option_and_then (λ kind. clean kind v) type ≡ Some v
stays_by u v (Some kind) is = cleaned_stays kind u v is
stays_by u v None is = absurd (none-some v is)

canonical_stays : (key : Key) (u v : Value) → value_for key u ≡ Some v → IsField key v
unfolding value_for
canonical_stays key u v is = stays_by u v (type_of key) is

pair_is_field : (raw at : Pair × Key) → canonical_pair raw ≡ Some at → IsField at.0.0 at.0.1
pair_is_field raw at is =
    let (v, found, same) = mapped (λ (v : Value). ((raw.0.0, v), raw.1)) (value_for raw.0.0 raw.0.1) at is in
    subst (λ (a : Pair × Key). IsField a.0.0 a.0.1) (sym same) (canonical_stays raw.0.0 raw.0.1 v found)

ended : (t : Bool) (later : Option Pairs) (pairs : Pairs) → (if t then Some [] else later) ≡ Some pairs → (later ≡ Some pairs → AreFields pairs) → AreFields pairs
ended true later pairs is f = subst AreFields (same_Some [] pairs is) tt
ended false later pairs is f = f is

pairs_are_fields : (most : ℕ) (text : Key) (pairs : Pairs) → pairs_in most text ≡ Some pairs → AreFields pairs
pairs_are_fields zero text pairs is = absurd (none-some pairs is)
pairs_are_fields (suc most) text pairs is =
    ended (bytes_eq text (codes "}")) (option_and_then (pairs_behind (pairs_in most)) (behind_comma text)) pairs is λ is.
    option_and_then_some (pairs_behind (pairs_in most)) (behind_comma text) pairs is λ more comma behind.
    option_and_then_some (with_later (pairs_in most)) (option_and_then canonical_pair (pair_at more)) pairs behind λ at found of.
    option_and_then_some canonical_pair (pair_at more) at found λ raw read of_raw.
    let (later, are, same) = mapped (λ (later : Pairs). at.0 ∷ later) (pairs_in most at.1) pairs of in
    subst AreFields (sym same) (pair_is_field raw at of_raw, pairs_are_fields most at.1 later are)

-- ---- what is read is a message with that text

text_of_tested : (bytes : Key) (kind : Kind) (pairs : Pairs) → AreFields pairs → is_text_with bytes kind pairs ≡ true → IsTextOf bytes (message_with kind pairs)
text_of_tested bytes kind pairs fields is =
    let parts = and_parts (is_sorted order pairs) (list_all is_utf8_pair pairs && bytes_eq (message_text (message_with kind pairs)) bytes) is in
    let more = and_parts (list_all is_utf8_pair pairs) (bytes_eq (message_text (message_with kind pairs)) bytes) parts.1 in
    record {
      typed = subst AreTyped (sym (entries-from_entries pairs parts.0)) (record { fields = fields; texts = more.0 });
      text = (bytes_eq-Decides (message_text (message_with kind pairs)) bytes).0 more.1;
    }

-- the bytes are the text of the message, which is of this kind
abbrev IsTextAs : Key → Kind → Message → Type 0
IsTextAs bytes kind message = IsTextOf bytes message × (message.kind ≡ kind)

strict_as-only : (kind : Kind) (bytes : Key) (message : Message) → strict_as kind bytes ≡ Some message → IsTextAs bytes kind message
strict_as-only kind bytes message is =
    option_and_then_some (message_if bytes kind) (pairs_in (length bytes) (drop (length (opening kind)) bytes)) message is λ pairs found of.
    let tested = cond_some (is_text_with bytes kind pairs) (message_with kind pairs) message of in
    subst (IsTextAs bytes kind) tested.1 (text_of_tested bytes kind pairs (pairs_are_fields (length bytes) (drop (length (opening kind)) bytes) pairs found) tested.0, refl)

either : (o p : Option Message) (message : Message) → option_or o p ≡ Some message → (o ≡ Some message) ⊎ (p ≡ Some message)
either (Some m) p message is = inl is
either None p message is = inr is

pub strict-only : (bytes : Key) (message : Message) → strict bytes ≡ Some message → IsTextOf bytes message
unfolding strict
strict-only bytes message is =
    ⊎_elim (λ event. (strict_as-only Event bytes message event).0) (λ report. (strict_as-only Report bytes message report).0)
    (either (strict_as Event bytes) (strict_as Report bytes) message is)

-- ---- each message is read in its text

first_pair : (e : Pair) (es : Pairs) → AreTyped (e ∷ es) → IsTypedPair e
first_pair e es are = record { field = are.fields.0; texts = (and_parts (is_utf8_pair e) (list_all is_utf8_pair es) are.texts).0 }

later_pairs : (e : Pair) (es : Pairs) → AreTyped (e ∷ es) → AreTyped es
later_pairs e es are = record { fields = are.fields.1; texts = (and_parts (is_utf8_pair e) (list_all is_utf8_pair es) are.texts).1 }

pairs_in-reads : (most : ℕ) (es : Pairs) → length es < most → AreTyped es → pairs_in most (pairs_text es ++ 125 ∷ []) ≡ Some es
pairs_in-reads zero es few are = absurd (omega (arith, few))
pairs_in-reads (suc most) [] few are = refl
pairs_in-reads (suc most) (e ∷ es) few are =
    let rest = pairs_text es ++ 125 ∷ [] in
    let at : pair_at ((pair_text e ++ pairs_text es) ++ 125 ∷ []) ≡ Some (e, rest) =
    pair_here _ e rest (first_pair e es are) (stops es) (append_assoc (pair_text e) (pairs_text es) (125 ∷ [])) in
    ap (λ o. option_and_then (with_later (pairs_in most)) (option_and_then canonical_pair o)) at
    ∙ ap (λ o. option_and_then (with_later (pairs_in most)) (option_map (λ (v : Value). ((e.0, v), rest)) o)) are.fields.0
    ∙ ap (option_map (λ (later : Pairs). e ∷ later)) (pairs_in-reads most es (omega (arith, few)) (later_pairs e es are))

enough : (es : Pairs) → length es < length (pairs_text es ++ 125 ∷ [])
enough [] = omega arith
enough (e ∷ es) =
    omega (arith, enough es, length-append (pairs_text es) (125 ∷ []), length-append (pair_text e ++ pairs_text es) (125 ∷ []), length-append (pair_text e) (pairs_text es))

fields_back : (message : Message) → AreFields (entries message.fields) → message_with message.kind (entries message.fields) ≡ message
fields_back message fields =
    ap (λ (f : FieldMap). let m : Message = record { kind = message.kind; fields = f } in m)
    (same_pairs (entries message.fields) message.fields (record { fields = fields; order = sorted_entries message.fields }) refl)

tested_true : (bytes : Key) (message : Message) → IsTextOf bytes message → is_text_with bytes message.kind (entries message.fields) ≡ true
tested_true bytes message is =
    and_from _ _ (sorted_entries message.fields) (and_from _ _ is.typed.texts
    ((bytes_eq-Decides _ _).1 (ap message_text (fields_back message is.typed.fields) ∙ is.text)))

strict_as-reads : (bytes : Key) (message : Message) → IsTextOf bytes message → strict_as message.kind bytes ≡ Some message
strict_as-reads bytes message is =
    let es = entries message.fields in
    let rest = pairs_text es ++ 125 ∷ [] in
    let whole : bytes ≡ opening message.kind ++ rest = sym is.text ∙ message_text-parts message is.typed.fields in
    let behind : drop (length (opening message.kind)) bytes ≡ rest = ap (drop (length (opening message.kind))) whole ∙ drop-append_seam (opening message.kind) rest in
    let few : length es < length bytes = omega (arith, enough es, ap length whole, length-append (opening message.kind) rest) in
    ap (λ t. option_and_then (message_if bytes message.kind) (pairs_in (length bytes) t)) behind
    ∙ ap (option_and_then (message_if bytes message.kind)) (pairs_in-reads (length bytes) es few is.typed)
    ∙ ap (λ t. if t then Some (message_with message.kind es) else None) (tested_true bytes message is)
    ∙ ap Some (fields_back message is.typed.fields)

-- a text is that of one kind
one_kind : (bytes : Key) (a b : Message) → IsTextOf bytes a → IsTextOf bytes b → a.kind ≡ b.kind
one_kind bytes a b is_a is_b =
    (same_opening a.kind b.kind (pairs_text (entries a.fields) ++ 125 ∷ []) (pairs_text (entries b.fields) ++ 125 ∷ [])
    (sym (message_text-parts a is_a.typed.fields) ∙ is_a.text ∙ sym is_b.text ∙ message_text-parts b is_b.typed.fields)).0

report_is_no_event : ◌≡◌ {A = Kind} Event Report → ⊥
report_is_no_event e = cc (e)

second_of : (o p : Option Message) (message : Message) → ((m : Message) → o ≡ Some m → ⊥) → p ≡ Some message → option_or o p ≡ Some message
second_of (Some m) p message none is = absurd (none m refl)
second_of None p message none is = is

by_kind : (bytes : Key) (message : Message) (kind : Kind) → message.kind ≡ kind → strict_as kind bytes ≡ Some message → IsTextOf bytes message → strict bytes ≡ Some message
unfolding strict
by_kind bytes message Event of found is = ap (λ o. option_or o (strict_as Report bytes)) found
by_kind bytes message Report of found is =
    second_of (strict_as Event bytes) (strict_as Report bytes) message
    (λ m event. let only = strict_as-only Event bytes m event in report_is_no_event (sym only.1 ∙ one_kind bytes m message only.0 is ∙ of))
    found

pub strict-reads : (bytes : Key) (message : Message) → IsTextOf bytes message → strict bytes ≡ Some message
strict-reads bytes message is = by_kind bytes message message.kind refl (strict_as-reads bytes message is) is

none_of : (o : Option Message) → ((m : Message) → o ≡ Some m → ⊥) → o ≡ None
none_of (Some m) none = absurd (none m refl)
none_of None none = refl

pub strict-none : (bytes : Key) → IsNoText bytes → strict bytes ≡ None
strict-none bytes none = none_of (strict bytes) (λ m is. none m (strict-only bytes m is))
