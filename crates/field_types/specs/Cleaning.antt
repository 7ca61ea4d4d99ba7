-- The canonical values of the kinds of fields.
use Rattle.std.specs.Prelude.{◌≡◌, ℕ, ◌^◌, ◌*◌, ◌++◌, List, Bool, true, false, ◌&&◌, ◌||◌, ◌==◌, not, nat_le, nat_lt, length, map, codes, decimal, unsigned_abs, ℤ, pos, is_some, Option, Some, None, option_map, option_and_then, Result, Ok, Err, if◌then◌else◌}
use Rattle.std.specs.Fmt.{signed_decimal}
use Rattle.std.specs.List.{list_all}
use Rattle.std.specs.Int.{is_in_range, is_negative}
use Rattle.std.specs.Ordering.{int_eq}
use Rattle.std.specs.Char.{to_ascii_lowercase, to_ascii_uppercase}
use Rattle.scalar_text.specs.Number.{decimal_in, whole_in, port_in, decimal_text}
use Rattle.scalar_text.specs.Raw.{raw_of}
use Rattle.scalar_text.specs.Time.{time_in, time_text}
use Rattle.scalar_text.specs.Words.{tlp_of, registry_of, classes, class_in, taxonomy_word_in, flag_of}
use Rattle.scalar_net.specs.Address.{ip_in, text_of_bits}
use Rattle.scalar_net.specs.Asn.{asn_in}
use Rattle.scalar_net.specs.Fqdn.{fqdn}
use Rattle.scalar_net.specs.Network.{network_in}
use Rattle.scalar_net.specs.Url.{url_text}
use Rattle.scalar_text.specs.Strip.{strip}
use Rattle.base_types.specs.JsonText.{flag_word}
use Rattle.field_types.specs.declared.fault.FieldFault.{FieldFault}
use Rattle.field_types.specs.declared.fault.FieldFault.TheVariants as fault
use Rattle.field_types.specs.declared.kind.FieldType.{FieldType}
use Rattle.field_types.specs.declared.kind.FieldType.TheVariants as kind
use Rattle.field_types.specs.declared.value.Item.{Item}
use Rattle.field_types.specs.declared.value.Item.TheVariants as item
use Rattle.field_types.specs.declared.value.Value.{Value}
use Rattle.field_types.specs.declared.value.Value.TheVariants.{Text, Whole, Flag, Decimal, List as ItemsOf}

-- ---- which values a kind looks at, and what it reads of them

-- the text that a value prints; a list prints none
abbrev pub printed : Value → Option (List ℕ)
printed (Text text) = Some text
printed (Whole n) = Some (signed_decimal n)
printed (Flag b) = Some (flag_word b)
printed (Decimal n) = Some (decimal_text n)
printed (ItemsOf items) = None

-- what sort of value it is
abbrev pub is_text : Value → Bool
is_text (Text text) = true
is_text (Whole n) = false
is_text (Flag b) = false
is_text (Decimal n) = false
is_text (ItemsOf items) = false

abbrev pub is_whole : Value → Bool
is_whole (Text text) = false
is_whole (Whole n) = true
is_whole (Flag b) = false
is_whole (Decimal n) = false
is_whole (ItemsOf items) = false

abbrev pub is_flag : Value → Bool
is_flag (Text text) = false
is_flag (Whole n) = false
is_flag (Flag b) = true
is_flag (Decimal n) = false
is_flag (ItemsOf items) = false

abbrev pub is_decimal : Value → Bool
is_decimal (Text text) = false
is_decimal (Whole n) = false
is_decimal (Flag b) = false
is_decimal (Decimal n) = true
is_decimal (ItemsOf items) = false

-- 0 and 1
abbrev pub is_bit : Value → Bool
is_bit (Text text) = false
is_bit (Whole n) = int_eq n (pos 0) || int_eq n (pos 1)
is_bit (Flag b) = false
is_bit (Decimal n) = false
is_bit (ItemsOf items) = false

-- Which values a kind takes. Numbers and flags count as the text that they print, where the kind takes them.
abbrev pub takes : FieldType → Value → Bool
takes kind.Text v = is_text v || is_whole v || is_flag v || is_decimal v
takes kind.Lower v = is_text v || is_whole v || is_flag v || is_decimal v
takes kind.Upper v = is_text v || is_whole v || is_flag v || is_decimal v
takes kind.Cc v = is_text v || is_whole v || is_flag v || is_decimal v
takes kind.Decimal v = is_text v || is_whole v || is_decimal v
takes kind.Accuracy v = is_text v || is_whole v || is_decimal v
takes kind.Whole v = is_text v || is_whole v
takes kind.Asn v = is_text v || is_whole v
takes kind.Port v = is_text v || is_whole v
takes kind.Flag v = is_text v || is_flag v || is_bit v
takes kind.Ip v = is_text v
takes kind.Network v = is_text v
takes kind.Fqdn v = is_text v
takes kind.Url v = is_text v
takes kind.DateTime v = is_text v
takes kind.Raw v = is_text v
takes kind.Tlp v = is_text v
takes kind.Registry v = is_text v
takes kind.Class v = is_text v
takes kind.Taxonomy v = is_text v
takes kind.Extra v = is_text v

-- ---- what a kind makes of a stripped text

abbrev pub is_empty : List ℕ → Bool
is_empty text = length text == 0

-- the text, unless it is empty
abbrev pub text_in : List ℕ → Option Value
text_in text = if is_empty text then None else Some (Text text)

-- an ASCII letter or digit
abbrev pub is_alphanumeric : ℕ → Bool
is_alphanumeric b = is_in_range 48 57 b || is_in_range 65 90 b || is_in_range 97 122 b

-- two of them
abbrev pub is_country_code : List ℕ → Bool
is_country_code text = (length text == 2) && list_all is_alphanumeric text

-- millionths from 0 to 100
abbrev pub is_accuracy : ℤ → Bool
is_accuracy n = not (is_negative n) && nat_le (unsigned_abs n) (100 * 1000000)

abbrev pub accuracy_of : ℤ → Option Value
accuracy_of n = if is_accuracy n then Some (Decimal n) else None

-- the canonical text of the address of that family with that number
abbrev pub address_value : Bool × ℕ → Value
address_value ip = Text (text_of_bits ip.0 ip.1)

-- the canonical text of the network: the address of that family with that number, `/`, and the length
abbrev pub network_value : Bool × ℕ × ℕ → Value
network_value net = Text (text_of_bits net.0 net.1 ++ codes "/" ++ decimal net.2)

-- the canonical value of a kind for a stripped text, if it has one
abbrev pub of_text : FieldType → List ℕ → Option Value
of_text kind.Text text = text_in text
of_text kind.Lower text = text_in (map to_ascii_lowercase text)
of_text kind.Upper text = text_in (map to_ascii_uppercase text)
of_text kind.Cc text = if is_country_code text then Some (Text (map to_ascii_uppercase text)) else None
of_text kind.Decimal text = option_map Decimal (decimal_in text)
of_text kind.Accuracy text = option_and_then accuracy_of (decimal_in text)
of_text kind.Whole text = option_map Whole (whole_in text)
of_text kind.Asn text = option_map (λ n. Whole (pos n)) (asn_in text)
of_text kind.Port text = option_map (λ n. Whole (pos n)) (port_in text)
of_text kind.Flag text = option_map Flag (flag_of text)
of_text kind.Ip text = option_map address_value (ip_in text)
of_text kind.Network text = option_map network_value (network_in text)
of_text kind.Fqdn text = option_map Text (fqdn text)
of_text kind.Url text = option_map Text (url_text text)
of_text kind.DateTime text = option_map (λ n. Text (time_text n)) (time_in text)
of_text kind.Raw text = if is_some (raw_of text) then Some (Text text) else None
of_text kind.Tlp text = option_map Text (tlp_of text)
of_text kind.Registry text = option_map Text (registry_of text)
of_text kind.Class text = option_map Text (class_in classes text)
of_text kind.Taxonomy text = option_map Text (taxonomy_word_in classes text)
of_text kind.Extra text = text_in text

-- ---- further data

-- a whole number of at most 18 digits; or a decimal with at most 12 before the point, in millionths
abbrev pub is_short : ℤ → Bool
is_short n = nat_lt (unsigned_abs n) (10 ^ 18)

-- an item of a list of further data: a text that isn't empty, as it stands, a flag, or such a number
abbrev pub is_extra_item : Item → Bool
is_extra_item (item.Text text) = not (is_empty text)
is_extra_item (item.Whole n) = is_short n
is_extra_item (item.Flag b) = true
is_extra_item (item.Decimal n) = is_short n

-- further data is kept as it is; a text is stripped
abbrev pub clean_extra : Value → Option Value
clean_extra (Text text) = text_in (strip text)
clean_extra (Whole n) = if is_short n then Some (Whole n) else None
clean_extra (Flag b) = Some (Flag b)
clean_extra (Decimal n) = if is_short n then Some (Decimal n) else None
clean_extra (ItemsOf items) = if list_all is_extra_item items then Some (ItemsOf items) else None

-- ---- cleaning

-- the canonical value of a kind other than Extra for what a value prints
abbrev pub clean_printed : FieldType → Value → Option Value
clean_printed kind v = if takes kind v then option_and_then (λ text. of_text kind (strip text)) (printed v) else None

-- the canonical value of a kind for a value, if it has one
unfoldable pub clean : FieldType → Value → Option Value
clean kind.Extra v = clean_extra v
clean kind v = clean_printed kind v

-- the value is canonical for its kind
abbrev pub IsOfKind : FieldType → Value → Type 0
IsOfKind kind v = clean kind v ≡ Some v

-- the canonical value, and `BadValue` only where there is none; memory may run out in any case
abbrev pub IsCleaned : Option Value → Result Value FieldFault → Type 0
IsCleaned cleaned (Ok v) = cleaned ≡ Some v
IsCleaned cleaned (Err fault.BadValue) = cleaned ≡ None
IsCleaned cleaned (Err fault.OutOfMemory) = Unit {0}
