-- What a cell sets is canonical for its field.
use Rattle.std.proofs.Common.{◌≡◌, ℕ, ◌+◌, ◌/◌, ◌%◌, ◌≤◌, ◌++◌, List, [], ◌∷◌, reverse, codes, nat_le, Bool, true, false, Option, Some, None, option_map, option_and_then, if◌then◌else◌, refl, sym, ap, ◌∙◌, subst, arith, append_assoc}
use Rattle.std.specs.Option.{option_or}
use Rattle.std.specs.Str.{is_utf8}
use Rattle.std.proofs.lemmas.Bool.{le-leb, leb-true}
use Rattle.std.proofs.lemmas.List.{reverse-append}
use Rattle.std.proofs.lemmas.Option.{none-some}
use Rattle.base_types.specs.Digits.{digits_in}
use Rattle.scalar_text.specs.Time.{time_in, time_text, day_text, clock_text, year_of_day}
use Rattle.scalar_text.proofs.DayTexts.{printed_time}
use Rattle.scalar_text.proofs.PrintedTimes.{reads_back}
use Rattle.scalar_text.proofs.TimeForms.{time_form}
use Rattle.field_types.specs.Cleaning.{clean, of_text}
use Rattle.field_types.specs.Field.{type_of}
use Rattle.scalar_text.specs.Strip.{strip}
use Rattle.field_types.specs.declared.kind.FieldType.{FieldType}
use Rattle.field_types.specs.declared.kind.FieldType.TheVariants as kind
use Rattle.field_types.specs.declared.value.Value.{Value}
use Rattle.field_types.specs.declared.value.Value.TheVariants.{Text}
use Rattle.field_types.proofs.CleanedTwice.{cleaned_stays}
use Rattle.field_types.proofs.KindByKind.{clean_text}
use Rattle.field_types.proofs.TwiceTexts.{time_back, time_front}
use Rattle.scalar_text.proofs.Stripped.{clear_ahead, dark_byte, strip-clear}
use Rattle.event_model.specs.Fields.{IsField, value_for as field_value}
use Rattle.feed_csv.specs.Columns.{attempt, is_ignored, last_moment, moment_text, seconds_to_1970, set_or, stamp_in, value_for, value_under}
use Rattle.feed_csv.specs.declared.column.Taken.{Taken}
use Rattle.feed_csv.specs.declared.column.Taken.TheVariants.{Ends, Sets}

-- ---- times

time_clean : (n : ℕ) → n ≤ 315537897599 → clean kind.DateTime (Text (time_text n)) ≡ Some (Text (time_text n))
time_clean n last =
    let back : time_in (time_text n) ≡ Some n = (time_form (time_text n)).complete n (reads_back n (time_text n) last (printed_time n last)) in
    clean_text kind.DateTime (time_text n) ∙ ap (of_text kind.DateTime) (strip-clear (time_text n) (time_front n) (time_back n))
    ∙ ap (option_map (λ n. Text (time_text n))) back

some_text : (t : List ℕ) (v : Value) → Some (Text t) ≡ Some v → Text t ≡ v
some_text t v is = cc

moment_if : (n : ℕ) (b : Bool) (v : Value) → nat_le n last_moment ≡ b → option_map Text (if b then Some (time_text (seconds_to_1970 + n)) else None) ≡ Some v → clean kind.DateTime v ≡ Some v
moment_if n true v within is =
    let below = leb-true n last_moment within in
    subst (λ w. clean kind.DateTime w ≡ Some w) (some_text (time_text (seconds_to_1970 + n)) v is) (time_clean (seconds_to_1970 + n) (omega (arith, below)))
moment_if n false v within is = absurd (none-some v is)

moment_clean : (o : Option ℕ) (v : Value) → option_map Text (option_and_then moment_text o) ≡ Some v → clean kind.DateTime v ≡ Some v
moment_clean None v is = absurd (none-some v is)
moment_clean (Some n) v is = moment_if n (nat_le n last_moment) v refl is

stamp_clean : (type : FieldType) (text : List ℕ) (v : Value) → stamp_in type text ≡ Some v → clean type v ≡ Some v
stamp_clean kind.DateTime text v is = moment_clean (digits_in 12 text) v is
stamp_clean kind.Text text v is = absurd (none-some v is)
stamp_clean kind.Lower text v is = absurd (none-some v is)
stamp_clean kind.Upper text v is = absurd (none-some v is)
stamp_clean kind.Cc text v is = absurd (none-some v is)
stamp_clean kind.Decimal text v is = absurd (none-some v is)
stamp_clean kind.Accuracy text v is = absurd (none-some v is)
stamp_clean kind.Whole text v is = absurd (none-some v is)
stamp_clean kind.Asn text v is = absurd (none-some v is)
stamp_clean kind.Port text v is = absurd (none-some v is)
stamp_clean kind.Flag text v is = absurd (none-some v is)
stamp_clean kind.Ip text v is = absurd (none-some v is)
stamp_clean kind.Network text v is = absurd (none-some v is)
stamp_clean kind.Fqdn text v is = absurd (none-some v is)
stamp_clean kind.Url text v is = absurd (none-some v is)
stamp_clean kind.Raw text v is = absurd (none-some v is)
stamp_clean kind.Tlp text v is = absurd (none-some v is)
stamp_clean kind.Registry text v is = absurd (none-some v is)
stamp_clean kind.Class text v is = absurd (none-some v is)
stamp_clean kind.Taxonomy text v is = absurd (none-some v is)
stamp_clean kind.Extra text v is = absurd (none-some v is)

-- ---- values

stamp_if : (type : FieldType) (text : List ℕ) (v : Value) (stamp : Bool) → (if stamp then stamp_in type text else None) ≡ Some v → clean type v ≡ Some v
stamp_if type text v true is = stamp_clean type text v is
stamp_if type text v false is = absurd (none-some v is)

clean_or : (type : FieldType) (cell text : List ℕ) (v : Value) (stamp : Bool) (o : Option Value) → clean type (Text cell) ≡ o → option_or o (if stamp then stamp_in type text else None) ≡ Some v → clean type v ≡ Some v
clean_or type cell text v stamp (Some w) found is = cleaned_stays type (Text cell) v (found ∙ is)
clean_or type cell text v stamp None found is = stamp_if type text v stamp is

under_if : (type : FieldType) (cell : List ℕ) (v : Value) (stamp : Bool) (b : Bool) → (if b then option_or (clean type (Text cell)) (if stamp then stamp_in type (strip cell) else None) else None) ≡ Some v → clean type v ≡ Some v
under_if type cell v stamp true is = clean_or type cell (strip cell) v stamp (clean type (Text cell)) refl is
under_if type cell v stamp false is = absurd (none-some v is)

under_clean : (stamp : Bool) (cell : List ℕ) (type : FieldType) (v : Value) → value_under stamp cell type ≡ Some v → clean type v ≡ Some v
unfolding value_under
under_clean stamp cell type v is = under_if type cell v stamp (is_utf8 cell) is

kind_clean : (stamp : Bool) (cell : List ℕ) (o : Option FieldType) (v : Value) → option_and_then (value_under stamp cell) o ≡ Some v → option_and_then (λ type. clean type v) o ≡ Some v
kind_clean stamp cell None v is = absurd (none-some v is)
kind_clean stamp cell (Some type) v is = under_clean stamp cell type v is

value_field : (stamp : Bool) (cell name : List ℕ) (v : Value) → value_for stamp cell name ≡ Some v → IsField name v
unfolding field_value
value_field stamp cell name v is = kind_clean stamp cell (type_of name) v is

same_name : (m n : List ℕ) (u v : Value) → Sets m u ≡ Sets n v → m ≡ n
same_name m n u v is = cc

same_value : (m n : List ℕ) (u v : Value) → Sets m u ≡ Sets n v → u ≡ v
same_value m n u v is = cc

sets_if : (stamp : Bool) (cell first : List ℕ) (o : Option Value) (later : Taken) (name : List ℕ) (v : Value) (b : Bool) → value_for stamp cell first ≡ o → (later ≡ Sets name v → IsField name v)
    → (if b then Ends else set_or first o later) ≡ Sets name v → IsField name v
sets_if stamp cell first o later name v true value rest is = absurd (cc)
sets_if stamp cell first None later name v false value rest is = rest is
sets_if stamp cell first (Some w) later name v false value rest is =
    subst (λ (n : List ℕ). IsField n v) (same_name first name w v is) (value_field stamp cell first v (value ∙ ap Some (same_value first name w v is)))

-- a field that a column sets has a canonical value
pub sets_field : (stamp : Bool) (cell : List ℕ) (names : List (List ℕ)) (name : List ℕ) (v : Value) → attempt stamp cell names ≡ Sets name v → IsField name v
sets_field stamp cell [] name v is = absurd (cc)
sets_field stamp cell (first ∷ names) name v is =
    sets_if stamp cell first (value_for stamp cell first) (attempt stamp cell names) name v (is_ignored first) refl (sets_field stamp cell names name v) is
