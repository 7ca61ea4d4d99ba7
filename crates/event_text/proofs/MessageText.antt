-- The text of a message begins with its kind.
use Rattle.std.proofs.Common.{◌≡◌, List, [], ◌∷◌, ◌++◌, map, codes, Bool, true, false, Option, Some, None, is_some, if◌then◌else◌, refl, sym, ap, subst, ◌∙◌, append_assoc, nat_eq}
use Rattle.std.specs.List.{join_with_byte, list_all, starts_with}
use Rattle.std.specs.Option.{option_or}
use Rattle.std.specs.Str.{bytes_eq}
use Rattle.std.specs.Ordering.{is_lt}
use Rattle.std.specs.FinMap.{entries, entries-insert}
use Rattle.std.specs.FinMap.Entries.{below_all}
use Rattle.std.proofs.lemmas.Bool.{and_parts, and_from, eqb-true}
use Rattle.std.proofs.lemmas.Cmp.{nat_list_cmp_total}
use Rattle.std.proofs.lemmas.List.{append-nil}
use Rattle.std.proofs.lemmas.Slice.Eq.{bytes_eq-Decides}
use Rattle.base_types.proofs.Places.{Key, order}
use Rattle.field_types.specs.Field.{type_of, kind_in, field_table, extra_front, is_extra_name}
use Rattle.field_types.specs.declared.kind.FieldType.{FieldType}
use Rattle.field_types.specs.declared.kind.FieldType.TheVariants as kind
use Rattle.field_types.specs.declared.value.Value.{Value}
use Rattle.field_types.specs.declared.value.Value.TheVariants as value
use Rattle.event_model.specs.Fields.{FieldMap, IsField, AreFields, value_for}
use Rattle.event_model.specs.Lenient.{type_key}
use Rattle.event_model.specs.declared.message.Kind.{Kind}
use Rattle.event_model.specs.declared.message.Kind.TheVariants.{Report, Event}
use Rattle.base_types.specs.JsonText.{quoted}
use Rattle.field_types.specs.Writing.{value_text}
use Rattle.event_model.specs.declared.message.Message.{Message}
use Rattle.event_model.proofs.Pairs.{Pairs, put_first}
use Rattle.event_text.specs.Text.{pair_text, kind_word, with_kind, message_text}
use Rattle.event_text.specs.Decode.{opening, pairs_text}

-- ---- no field's name is below `__type`

abbrev is_above_type : Key → Bool
is_above_type key = is_lt (order type_key key)

row_above : (name key : Key) (type : FieldType) (later : Option FieldType) (t : Bool) → bytes_eq name key ≡ t → is_above_type name ≡ true → (is_some later ≡ true → is_above_type key ≡ true) → is_some (if t then Some type else later) ≡ true → is_above_type key ≡ true
row_above name key type later true e name_above step found = subst (λ k. is_above_type k ≡ true) ((bytes_eq-Decides name key).0 e) name_above
row_above name key type later false e name_above step found = step found

rows_above : (rows : List (Key × FieldType)) (key : Key) → list_all (λ row. is_above_type row.0) rows ≡ true → is_some (kind_in rows key) ≡ true → is_above_type key ≡ true
rows_above [] key all found = absurd (cc)
rows_above (row ∷ rows) key all found =
    let parts = and_parts (is_above_type row.0) (list_all (λ row. is_above_type row.0) rows) all in
    row_above row.0 key row.1 (kind_in rows key) (bytes_eq row.0 key) refl parts.0 (rows_above rows key parts.1) found

table_above : (key : Key) → is_some (kind_in field_table key) ≡ true → is_above_type key ≡ true
unfolding field_table
table_above key found = rows_above field_table key refl found

extra_above : (key : Key) → starts_with nat_eq key extra_front ≡ true → is_above_type key ≡ true
extra_above [] starts = absurd (cc)
extra_above (b ∷ text) starts =
    let same : 101 ≡ b = eqb-true 101 b (and_parts (nat_eq 101 b) _ starts).0 in
    subst (λ k. is_above_type (k ∷ text) ≡ true) same refl

either_above : (key : Key) (row : Option FieldType) (is_extra : Bool) → (is_some row ≡ true → is_above_type key ≡ true) → (is_extra ≡ true → is_above_type key ≡ true)
    → is_some (option_or row (if is_extra then Some kind.Extra else None)) ≡ true → is_above_type key ≡ true
either_above key (Some type) is_extra f g found = f refl
either_above key None true f g found = g refl
either_above key None false f g found = absurd (cc)

type_above : (key : Key) → is_some (type_of key) ≡ true → is_above_type key ≡ true
unfolding type_of
type_above key found =
    either_above key (kind_in field_table key) (is_extra_name key) (table_above key)
    (λ e. extra_above key (and_parts (starts_with nat_eq key extra_front) _ e).0) found

has_type : (key : Key) (v : Value) (type : Option FieldType) → type_of key ≡ type → IsField key v → is_some (type_of key) ≡ true
unfolding value_for
has_type key v (Some type) is field = ap is_some is
has_type key v None is field = absurd (cc (is, field))

pub field_above : (key : Key) (v : Value) → IsField key v → is_above_type key ≡ true
field_above key v field = type_above key (has_type key v (type_of key) refl field)

fields_above : (es : Pairs) → AreFields es → below_all order type_key es ≡ true
fields_above [] fields = refl
fields_above (e ∷ es) fields = and_from _ _ (field_above e.0 e.1 fields.0) (fields_above es fields.1)

-- ---- the pairs in order

kind_first : (kind : Kind) (fields : FieldMap) → below_all order type_key (entries fields) ≡ true → entries (with_kind kind fields) ≡ (type_key, value.Text (kind_word kind)) ∷ entries fields
kind_first kind fields below =
    entries-insert nat_list_cmp_total fields type_key (value.Text (kind_word kind)) ∙ put_first type_key (value.Text (kind_word kind)) (entries fields) below

joined : (first : Key × Value) (es : Pairs) → join_with_byte 44 (map pair_text (first ∷ es)) ≡ pair_text first ++ pairs_text es
joined first [] = sym (append-nil (pair_text first))
joined first (e ∷ es) = ap (λ (t : Key). pair_text first ++ 44 ∷ t) (joined e es)

-- the opening, the other pairs, and the end
pub message_text-above : (message : Message) → below_all order type_key (entries message.fields) ≡ true → message_text message ≡ opening message.kind ++ (pairs_text (entries message.fields) ++ 125 ∷ [])
unfolding message_text opening
message_text-above message below =
    ap (λ (pairs : Pairs). 123 ∷ join_with_byte 44 (map pair_text pairs) ++ 125 ∷ []) (kind_first message.kind message.fields below)
    ∙ ap (λ (t : Key). 123 ∷ t ++ 125 ∷ []) (joined (type_key, value.Text (kind_word message.kind)) (entries message.fields))
    ∙ ap (λ (t : Key). 123 ∷ t) (append_assoc (pair_text (type_key, value.Text (kind_word message.kind))) (pairs_text (entries message.fields)) (125 ∷ []))

pub message_text-parts : (message : Message) → AreFields (entries message.fields) → message_text message ≡ opening message.kind ++ (pairs_text (entries message.fields) ++ 125 ∷ [])
message_text-parts message are = message_text-above message (fields_above (entries message.fields) are)

regrouped : (out opened pairs : Key) → ((out ++ opened) ++ pairs) ++ 125 ∷ [] ≡ out ++ (opened ++ (pairs ++ 125 ∷ []))
regrouped out opened pairs = simp append_assoc

pub assembled : (out a b d opened pairs whole : Key) → a ≡ out ++ opened → b ≡ a ++ pairs → d ≡ b ++ 125 ∷ [] → whole ≡ opened ++ (pairs ++ 125 ∷ []) → d ≡ out ++ whole
assembled out a b d opened pairs whole begun paired closed is =
    closed ∙ ap (λ (t : Key). t ++ 125 ∷ []) (paired ∙ ap (λ (t : Key). t ++ pairs) begun) ∙ regrouped out opened pairs ∙ ap (λ (t : Key). out ++ t) (sym is)

-- ---- the opening in full

pub report_opening : opening Report ≡ codes "{\"__type\":\"Report\""
unfolding opening value_text quoted
report_opening = refl

pub event_opening : opening Event ≡ codes "{\"__type\":\"Event\""
unfolding opening value_text quoted
event_opening = refl
