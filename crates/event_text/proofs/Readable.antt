-- Canonical values can be read: their texts are UTF-8, and their numbers short.
use Rattle.std.proofs.Common.{◌≡◌, ℕ, ◌^◌, ◌<◌, ◌≤◌, ◌&&◌, nat_lt, Bool, true, false, ℤ, pos, unsigned_abs, List, [], ◌∷◌, map, Option, Some, None, option_map, is_some, if◌then◌else◌, refl, sym, subst, arith}
use Rattle.std.specs.Option.{option_and_then}
use Rattle.std.specs.Char.{to_ascii_lowercase, to_ascii_uppercase}
use Rattle.std.specs.Fmt.{signed_decimal}
use Rattle.std.specs.List.{list_all, AllByRecursion}
use Rattle.std.proofs.lemmas.Bool.{and_parts, ltb-true}
use Rattle.std.proofs.lemmas.Option.{none-some, same_Some}
use Rattle.scalar_text.specs.Number.{decimal_in, port_in, whole_in}
use Rattle.scalar_text.specs.Raw.{raw_of}
use Rattle.scalar_text.specs.Time.{time_in, time_text}
use Rattle.scalar_text.specs.Words.{tlp_of, registry_of, classes, class_in, taxonomy_word_in, flag_of}
use Rattle.scalar_text.proofs.NumberForms.{whole_form, decimal_form}
use Rattle.scalar_text.proofs.PrintedNumbers.{whole_fits, decimal_fits}
use Rattle.scalar_text.specs.Strip.{strip}
use Rattle.field_types.specs.Cleaning.{IsOfKind, accuracy_of, address_value, clean, clean_printed, is_country_code, is_empty, is_extra_item, is_short, network_value, of_text, printed, takes}
use Rattle.field_types.specs.declared.kind.FieldType.{FieldType}
use Rattle.field_types.specs.declared.kind.FieldType.TheVariants as kind
use Rattle.field_types.specs.declared.value.Item.{Item}
use Rattle.field_types.specs.declared.value.Item.TheVariants as item
use Rattle.field_types.specs.declared.value.Value.{Value}
use Rattle.field_types.specs.declared.value.Value.TheVariants as value
use Rattle.field_types.proofs.Twice.{accuracy_from, from_text, mapped}
use Rattle.field_types.proofs.TwiceMore.{asn_is, decimal_short, port_is, whole_short}
use Rattle.field_types.proofs.Wholes.{accuracy_size, short_is}
use Rattle.event_text.specs.Decode.{IsReadable, IsReadableItem}
use Rattle.field_types.specs.Writing.{is_utf8_item, is_utf8_value}

-- a number has at most 18 digits, and a list holds further data
abbrev IsShortValue : Value → Type 0
IsShortValue (value.Text text) = Unit {0}
IsShortValue (value.Whole n) = unsigned_abs n < 10 ^ 18
IsShortValue (value.Flag b) = Unit {0}
IsShortValue (value.Decimal n) = unsigned_abs n < 10 ^ 18
IsShortValue (value.List items) = list_all is_extra_item items ≡ true

-- ---- what kinds make of texts

made : {A : Type 0} (f : A → Value) (o : Option A) (v : Value) → option_map f o ≡ Some v → ((a : A) → o ≡ Some a → IsShortValue (f a)) → IsShortValue v
made f o v found short =
    let (a, is, same) = mapped f o v found in
    subst IsShortValue (sym same) (short a is)

if_short : (b : Bool) (text : List ℕ) (v : Value) → (if b then Some (value.Text text) else None) ≡ Some v → IsShortValue v
if_short true text v found = subst IsShortValue (same_Some (value.Text text) v found) tt
if_short false text v found = absurd (none-some v found)

unless_short : (b : Bool) (text : List ℕ) (v : Value) → (if b then None else Some (value.Text text)) ≡ Some v → IsShortValue v
unless_short true text v found = absurd (none-some v found)
unless_short false text v found = subst IsShortValue (same_Some (value.Text text) v found) tt

asn_short : (n : ℕ) → (nat_lt 0 n && nat_lt n (2 ^ 32)) ≡ true → n < 10 ^ 18
asn_short n is = let few = ltb-true n (2 ^ 32) (and_parts (nat_lt 0 n) (nat_lt n (2 ^ 32)) is).1 in omega (arith, few)

port_short : (text : List ℕ) (n : ℕ) → port_in text ≡ Some n → n < 10 ^ 18
port_short text n is = let few = ltb-true n 65536 (port_is text n is) in omega (arith, few)

accuracy_short : (text : List ℕ) (v : Value) → option_and_then accuracy_of (decimal_in text) ≡ Some v → IsShortValue v
accuracy_short text v found =
    let (n, is, same) = accuracy_from (decimal_in text) v found in
    let few = accuracy_size n is in
    subst IsShortValue (sym same) (below few)
  where
    below : {n : ℕ} → n ≤ 100000000 → n < 10 ^ 18
    below few = omega (arith, few)

short_text : (type : FieldType) (text : List ℕ) (v : Value) → of_text type text ≡ Some v → IsShortValue v
short_text kind.Text text v found = unless_short (is_empty text) text v found
short_text kind.Lower text v found = unless_short (is_empty (map to_ascii_lowercase text)) (map to_ascii_lowercase text) v found
short_text kind.Upper text v found = unless_short (is_empty (map to_ascii_uppercase text)) (map to_ascii_uppercase text) v found
short_text kind.Cc text v found = if_short (is_country_code text) (map to_ascii_uppercase text) v found
short_text kind.Decimal text v found = made value.Decimal (decimal_in text) v found (λ n is. decimal_short text n ((decimal_form text).sound n is))
short_text kind.Accuracy text v found = accuracy_short text v found
short_text kind.Whole text v found = made value.Whole (whole_in text) v found (λ n is. whole_short text n ((whole_form text).sound n is))
short_text kind.Asn text v found = made (λ n. value.Whole (pos n)) _ v found (λ n is. asn_short n (asn_is text n is))
short_text kind.Port text v found = made (λ n. value.Whole (pos n)) (port_in text) v found (port_short text)
short_text kind.Flag text v found = made value.Flag (flag_of text) v found (λ b is. tt)
short_text kind.Ip text v found = made address_value _ v found (λ ip is. tt)
short_text kind.Network text v found = made network_value _ v found (λ net is. tt)
short_text kind.Fqdn text v found = made value.Text _ v found (λ t is. tt)
short_text kind.Url text v found = made value.Text _ v found (λ t is. tt)
short_text kind.DateTime text v found = made (λ n. value.Text (time_text n)) (time_in text) v found (λ n is. tt)
short_text kind.Raw text v found = if_short (is_some (raw_of text)) text v found
short_text kind.Tlp text v found = made value.Text (tlp_of text) v found (λ t is. tt)
short_text kind.Registry text v found = made value.Text (registry_of text) v found (λ t is. tt)
short_text kind.Class text v found = made value.Text (class_in classes text) v found (λ t is. tt)
short_text kind.Taxonomy text v found = made value.Text (taxonomy_word_in classes text) v found (λ t is. tt)
short_text kind.Extra text v found = unless_short (is_empty text) text v found

-- ---- canonical values

passed : {A : Type 0} (b : Bool) (a c : A) → (if b then Some a else None) ≡ Some c → b ≡ true
passed true a c found = refl
passed false a c found = absurd (none-some c found)

short_extra : (v : Value) → clean kind.Extra v ≡ Some v → IsShortValue v
unfolding clean
short_extra (value.Text text) of_kind = tt
short_extra (value.Whole n) of_kind = short_is n (passed (is_short n) (value.Whole n) (value.Whole n) of_kind)
short_extra (value.Flag b) of_kind = tt
short_extra (value.Decimal n) of_kind = short_is n (passed (is_short n) (value.Decimal n) (value.Decimal n) of_kind)
short_extra (value.List items) of_kind = passed (list_all is_extra_item items) (value.List items) (value.List items) of_kind

short_printed : (type : FieldType) (v : Value) → clean_printed type v ≡ Some v → IsShortValue v
short_printed type v of_kind =
    let (text, found) = from_text type (takes type v) (printed v) v of_kind in
    short_text type (strip text) v found

short_value : (type : FieldType) (v : Value) → IsOfKind type v → IsShortValue v
unfolding clean
short_value kind.Text v of_kind = short_printed kind.Text v of_kind
short_value kind.Lower v of_kind = short_printed kind.Lower v of_kind
short_value kind.Upper v of_kind = short_printed kind.Upper v of_kind
short_value kind.Cc v of_kind = short_printed kind.Cc v of_kind
short_value kind.Decimal v of_kind = short_printed kind.Decimal v of_kind
short_value kind.Accuracy v of_kind = short_printed kind.Accuracy v of_kind
short_value kind.Whole v of_kind = short_printed kind.Whole v of_kind
short_value kind.Asn v of_kind = short_printed kind.Asn v of_kind
short_value kind.Port v of_kind = short_printed kind.Port v of_kind
short_value kind.Flag v of_kind = short_printed kind.Flag v of_kind
short_value kind.Ip v of_kind = short_printed kind.Ip v of_kind
short_value kind.Network v of_kind = short_printed kind.Network v of_kind
short_value kind.Fqdn v of_kind = short_printed kind.Fqdn v of_kind
short_value kind.Url v of_kind = short_printed kind.Url v of_kind
short_value kind.DateTime v of_kind = short_printed kind.DateTime v of_kind
short_value kind.Raw v of_kind = short_printed kind.Raw v of_kind
short_value kind.Tlp v of_kind = short_printed kind.Tlp v of_kind
short_value kind.Registry v of_kind = short_printed kind.Registry v of_kind
short_value kind.Class v of_kind = short_printed kind.Class v of_kind
short_value kind.Taxonomy v of_kind = short_printed kind.Taxonomy v of_kind
short_value kind.Extra v of_kind = short_extra v of_kind

-- ---- reading

whole_reads : (n : ℤ) → unsigned_abs n < 10 ^ 18 → whole_in (signed_decimal n) ≡ Some n
whole_reads n short = whole_fits n (omega (arith, short)) short

readable_item : (it : Item) → is_extra_item it ≡ true → is_utf8_item it ≡ true → IsReadableItem it
readable_item (item.Text text) extra utf8 = utf8
readable_item (item.Whole n) extra utf8 = whole_reads n (short_is n extra)
readable_item (item.Flag b) extra utf8 = tt
readable_item (item.Decimal n) extra utf8 = decimal_fits n (short_is n extra)

readable_items : (items : List Item) → list_all is_extra_item items ≡ true → list_all is_utf8_item items ≡ true → AllByRecursion IsReadableItem items
readable_items [] extra utf8 = tt
readable_items (it ∷ items) extra utf8 =
    let of_kind = and_parts (is_extra_item it) (list_all is_extra_item items) extra in
    let texts = and_parts (is_utf8_item it) (list_all is_utf8_item items) utf8 in
    (readable_item it of_kind.0 texts.0, readable_items items of_kind.1 texts.1)

short_readable : (v : Value) → IsShortValue v → is_utf8_value v ≡ true → IsReadable v
short_readable (value.Text text) short utf8 = utf8
short_readable (value.Whole n) short utf8 = whole_reads n short
short_readable (value.Flag b) short utf8 = tt
short_readable (value.Decimal n) short utf8 = decimal_fits n short
short_readable (value.List items) short utf8 = readable_items items short utf8

-- a canonical value whose texts are UTF-8 can be read
pub readable : (type : FieldType) (v : Value) → IsOfKind type v → is_utf8_value v ≡ true → IsReadable v
readable type v of_kind utf8 = short_readable v (short_value type v of_kind) utf8
