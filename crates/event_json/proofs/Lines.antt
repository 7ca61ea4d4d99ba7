-- A pair that was put into a text: its name, and then its value.
use Rattle.std.proofs.Common.{◌≡◌, [], ◌∷◌, ◌++◌, Bool, true, false, Option, Some, None, flat_map, if◌then◌else◌, refl, sym, ap, ap₂, ◌∙◌, append_assoc}
use Rattle.std.specs.Str.{is_utf8}
use Rattle.std.specs.Option.{option_or}
use Rattle.std.proofs.lemmas.Bool.{and_from, false≢true}
use Rattle.std.proofs.lemmas.Option.{none-some, same_Some}
use Rattle.base_types.proofs.Places.{Key}
use Rattle.field_types.specs.Field.{field_table, is_extra_name, kind_in, type_of}
use Rattle.base_types.specs.JsonText.{escaped, quoted}
use Rattle.field_types.specs.Writing.{is_utf8_value, value_text}
use Rattle.field_types.specs.declared.kind.FieldType.{FieldType}
use Rattle.field_types.specs.declared.kind.FieldType.TheVariants as type
use Rattle.field_types.specs.declared.value.Value.{Value}
use Rattle.field_types.specs.declared.value.Value.TheVariants as as_value
use Rattle.field_types.proofs.Tables.{plain_name}
use Rattle.event_json.specs.Direct.{is_extra, PutsName, PutsPair, Written}

regrouped : (old name value : Key) → ((old ++ 44 ∷ name) ++ 58 ∷ []) ++ value ≡ old ++ 44 ∷ (name ++ 58 ∷ value)
regrouped old name value = append_assoc (old ++ 44 ∷ name) (58 ∷ []) value ∙ append_assoc old (44 ∷ name) (58 ∷ value)

pub pair_put : (name text last new : Key) (v : Value) (old entered : Written) → PutsName name old entered → entered ≡ (text, last) → is_utf8 name ≡ true → is_utf8_value v ≡ true → new ≡ text ++ value_text v
    → PutsPair (name, v) old (new, last)
pair_put name text last new v old entered named seen good value_good is =
    let now : (text, last) ≡ (old.0 ++ 44 ∷ quoted name ++ 58 ∷ [], name) = sym seen ∙ named.line in
    record {
      above = named.above;
      texts = and_from _ _ good value_good;
      line = ap₂ (λ (t l : Key). (t, l)) (is ∙ ap (λ (w : Written). w.0 ++ value_text v) now ∙ regrouped old.0 (quoted name) (value_text v)) (ap (λ (w : Written). w.1) now);
    }

pub text_is_quoted : (text : Key) → quoted text ≡ value_text (as_value.Text text)
unfolding value_text
text_is_quoted text = refl

-- ---- names of the table of fields

by_row : (key : Key) (kind : FieldType) (row : Option FieldType) (t : Bool) → kind_in field_table key ≡ row → option_or row (if t then Some type.Extra else None) ≡ Some kind → is_extra kind ≡ false → flat_map escaped key ≡ key
by_row key kind (Some found) t is of other = plain_name key found is
by_row key kind None true is of other = absurd (false≢true (sym other ∙ ap is_extra (sym (same_Some type.Extra kind of))))
by_row key kind None false is of other = absurd (none-some kind of)

-- they stand in JSON strings as they are
pub plain_key : (key : Key) (kind : FieldType) → type_of key ≡ Some kind → is_extra kind ≡ false → flat_map escaped key ≡ key
unfolding type_of
plain_key key kind of other = by_row key kind (kind_in field_table key) (is_extra_name key) refl of other
