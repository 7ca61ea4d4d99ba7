-- What the strict reading finds at the front of bytes.
use Rattle.std.specs.Prelude.{◌≡◌, ℕ, ◌+◌, ◌-◌, List, [], ◌∷◌, ◌++◌, ◌==◌, nat_le, ◌||◌, Bool, true, false, drop, flat_map, length, zero, suc, ℤ, option_map, option_and_then, Option, Some, None, if◌then◌else◌}
use Rattle.std.specs.Fmt.{signed_decimal}
use Rattle.std.specs.List.{AllByRecursion, before_first, list_any, position_or_len}
use Rattle.std.specs.Str.{bytes_eq, is_utf8}
use Rattle.scalar_text.specs.Number.{decimal_in, decimal_text, whole_in}
use Rattle.base_types.specs.JsonText.{escaped, flag_word}
use Rattle.event_text.specs.Text.{pair_text, kind_word}
use Rattle.std.specs.FinMap.{entries}
use Rattle.base_types.specs.Place.{is_above_all}
use Rattle.event_model.specs.Fields.{FieldMap, IsField}
use Rattle.event_model.specs.Lenient.{type_key}
use Rattle.event_text.specs.Strict.{AreTyped, is_utf8_pair}
use Rattle.event_model.specs.declared.message.Kind.{Kind}
use Rattle.field_types.specs.declared.value.Item.{Item}
use Rattle.field_types.specs.declared.value.Item.TheVariants as item
use Rattle.field_types.specs.declared.value.Value.{Value}
use Rattle.field_types.specs.declared.value.Value.TheVariants as value

-- ---- strings: the inside begins behind the opening quotation mark

-- more bytes in front of what ends there
abbrev pub with_front : List ℕ → List ℕ × List ℕ → List ℕ × List ℕ
with_front front ends = (front ++ ends.0, ends.1)

-- the content up to the closing quotation mark, and what is behind that
abbrev mutual
  pub string_end : List ℕ → Option (List ℕ × List ℕ)
  string_end [] = None
  string_end (b ∷ bs) = if b == 34 then Some ([], bs) else option_map (with_front (b ∷ [])) (if b == 92 then escape_end bs else string_end bs)

  pub escape_end : List ℕ → Option (List ℕ × List ℕ)
  escape_end [] = None
  escape_end (b ∷ bs) = option_map (with_front (b ∷ [])) (string_end bs)

-- the front of the bytes is kept, and the string ends in their rest
abbrev pub KeepsEnd : (List ℕ → Option (List ℕ × List ℕ)) → (List ℕ → Option (List ℕ × List ℕ)) → List ℕ → List ℕ → Type 0
KeepsEnd whole later bytes rest = (kept : List ℕ) × (bytes ≡ kept ++ rest) × (whole bytes ≡ option_map (with_front kept) (later rest))

-- the byte that a letter behind a backslash stands for
abbrev pub short_escape : ℕ → ℕ
short_escape e = if e == 98 then 8 else (if e == 116 then 9 else (if e == 110 then 10 else (if e == 102 then 12 else (if e == 114 then 13 else e))))

-- the number that a hexadecimal digit in lower case stands for
abbrev pub digit_of : ℕ → ℕ
digit_of d = if nat_le d 57 then d - 48 else d - 87

-- a control character by its two hexadecimal digits
abbrev pub control : ℕ → ℕ → ℕ
control high low = if high == 49 then 16 + digit_of low else digit_of low

-- The text that a content writes, if it writes one canonically. What follows a backslash is an escape; where its bytes
-- are missing, the backslash stands for itself.
abbrev mutual
  pub unescaped : List ℕ → List ℕ
  unescaped [] = []
  unescaped (b ∷ bs) = if b == 92 then unescaped_behind bs else b ∷ unescaped bs

  pub unescaped_behind : List ℕ → List ℕ
  unescaped_behind [] = 92 ∷ []
  unescaped_behind (e ∷ bs) = if e == 117 then unescaped_control bs else short_escape e ∷ unescaped bs

  pub unescaped_control : List ℕ → List ℕ
  unescaped_control (z ∷ y ∷ high ∷ low ∷ bs) = control high low ∷ unescaped bs
  unescaped_control _ = 92 ∷ []

-- bytes as a text, where they are UTF-8
abbrev pub utf8_text : List ℕ → Option (List ℕ)
utf8_text text = if is_utf8 text then Some text else None

-- the content is how the text is written
abbrev pub is_content_of : List ℕ → List ℕ → Bool
is_content_of content text = bytes_eq (flat_map escaped text) content

-- the text that a content writes canonically
abbrev pub text_in : List ℕ → Option (List ℕ)
text_in content = if is_content_of content (unescaped content) then utf8_text (unescaped content) else None

abbrev pub text_of : List ℕ × List ℕ → Option (List ℕ × List ℕ)
text_of ends = option_map (λ text. (text, ends.1)) (text_in ends.0)

-- the text of the string whose inside begins here, and what is behind the string
unfoldable pub text_at : List ℕ → Option (List ℕ × List ℕ)
text_at inside = option_and_then text_of (string_end inside)

-- ---- values: a stop follows each

-- a comma, or the end of a list or of an object
abbrev pub is_stop : ℕ → Bool
is_stop b = (b == 44) || (b == 93) || (b == 125)

-- the first byte is a stop
abbrev pub begins_with_stop : List ℕ → Bool
begins_with_stop [] = false
begins_with_stop (b ∷ bs) = is_stop b

-- the number, where its text is this run of bytes
abbrev pub if_written : (ℤ → List ℕ) → List ℕ → Option ℤ → Option ℤ
if_written text_of run number = option_and_then (λ n. if bytes_eq (text_of n) run then Some n else None) number

-- the whole number that a run of bytes is the canonical text of
abbrev pub canonical_whole : List ℕ → Option ℤ
canonical_whole run = if_written signed_decimal run (whole_in run)

-- the decimal that a run of bytes is the canonical text of, in millionths
abbrev pub canonical_decimal : List ℕ → Option ℤ
canonical_decimal run = if_written decimal_text run (decimal_in run)

-- there is a point among the bytes
abbrev pub has_point : List ℕ → Bool
has_point run = list_any (λ b. b == 46) run

-- the number that a run of bytes is the canonical text of: a decimal where it has a point
abbrev pub number_in : List ℕ → Option Item
number_in run = if has_point run then option_map item.Decimal (canonical_decimal run) else option_map item.Whole (canonical_whole run)

-- the flag or number that a run of bytes is the canonical text of
unfoldable pub scalar_in : List ℕ → Option Item
scalar_in run =
    if bytes_eq run (flag_word true) then Some (item.Flag true) else
    (if bytes_eq run (flag_word false) then Some (item.Flag false) else number_in run)

-- the flag or number that stands before the first stop, and what is behind it
unfoldable pub scalar_at : List ℕ → Option (Item × List ℕ)
scalar_at rest = option_map (λ found. (found, drop (position_or_len is_stop rest) rest)) (scalar_in (before_first is_stop rest))

-- a text as an item, with what is behind it
abbrev pub text_item : List ℕ × List ℕ → Item × List ℕ
text_item at = (item.Text at.0, at.1)

-- the item at the front, and what is behind it
unfoldable pub item_at : List ℕ → Option (Item × List ℕ)
item_at [] = None
item_at (b ∷ bs) = if b == 34 then option_map text_item (text_at bs) else scalar_at (b ∷ bs)

-- an item in front of those that are found
abbrev pub item_onto : Item → List Item × List ℕ → List Item × List ℕ
item_onto first at = (first ∷ at.0, at.1)

-- items in front of those that are found
abbrev pub items_onto : List Item → List Item × List ℕ → List Item × List ℕ
items_onto front at = (front ++ at.0, at.1)

-- An item and those that follow it, and what is behind their list, from the bytes behind the item: a comma and more
-- items, or the end of the list.
abbrev pub items_behind : (List ℕ → Option (List Item × List ℕ)) → Item → List ℕ → Option (List Item × List ℕ)
items_behind more first [] = None
items_behind more first (b ∷ bs) =
    if b == 44 then option_map (item_onto first) (more bs) else (if b == 93 then Some (first ∷ [], bs) else None)

-- the items at the front up to the end of their list, one at least and so many at most, and what is behind the list
abbrev pub items_at : ℕ → List ℕ → Option (List Item × List ℕ)
items_at zero rest = None
items_at (suc most) rest = option_and_then (λ at. items_behind (items_at most) at.0 at.1) (item_at rest)

-- the items of the list whose inside begins here, and what is behind the list
unfoldable pub list_at : List ℕ → Option (List Item × List ℕ)
list_at [] = None
list_at (b ∷ bs) = if b == 93 then Some ([], bs) else items_at (suc (length (b ∷ bs))) (b ∷ bs)

-- the value that an item is where it stands alone
abbrev pub value_of_item : Item → Value
value_of_item (item.Text text) = value.Text text
value_of_item (item.Whole n) = value.Whole n
value_of_item (item.Flag b) = value.Flag b
value_of_item (item.Decimal n) = value.Decimal n

-- an item as a value of its own, with what is behind it
abbrev pub item_value : Item × List ℕ → Value × List ℕ
item_value at = (value_of_item at.0, at.1)

-- a list as a value, with what is behind it
abbrev pub list_value : List Item × List ℕ → Value × List ℕ
list_value at = (value.List at.0, at.1)

-- the value at the front, and what is behind it
unfoldable pub value_at : List ℕ → Option (Value × List ℕ)
value_at [] = None
value_at (b ∷ bs) = if b == 91 then option_map list_value (list_at bs) else option_map item_value (item_at (b ∷ bs))

-- the text of a number reads back, and a text is UTF-8
abbrev pub IsReadableItem : Item → Type 0
IsReadableItem (item.Text text) = is_utf8 text ≡ true
IsReadableItem (item.Whole n) = whole_in (signed_decimal n) ≡ Some n
IsReadableItem (item.Flag b) = Unit {0}
IsReadableItem (item.Decimal n) = decimal_in (decimal_text n) ≡ Some n

-- the same of a value, and of each item of a list
abbrev pub IsReadable : Value → Type 0
IsReadable (value.Text text) = is_utf8 text ≡ true
IsReadable (value.Whole n) = whole_in (signed_decimal n) ≡ Some n
IsReadable (value.Flag b) = Unit {0}
IsReadable (value.Decimal n) = decimal_in (decimal_text n) ≡ Some n
IsReadable (value.List items) = AllByRecursion IsReadableItem items

-- ---- messages

-- where the text of a message begins: the kind, which no name of a field is below
unfoldable pub opening : Kind → List ℕ
opening kind = 123 ∷ pair_text (type_key, value.Text (kind_word kind))

-- the other pairs, each behind a comma
abbrev pub pairs_text : List (List ℕ × Value) → List ℕ
pairs_text pairs = flat_map (λ pair. 44 ∷ pair_text pair) pairs

-- what is behind a comma
abbrev pub behind_comma : List ℕ → Option (List ℕ)
behind_comma [] = None
behind_comma (b ∷ bs) = if b == 44 then Some bs else None

-- the value behind a colon, and what is behind it
abbrev pub value_behind_colon : List ℕ → Option (Value × List ℕ)
value_behind_colon [] = None
value_behind_colon (b ∷ bs) = if b == 58 then value_at bs else None

-- a value with its name, and what is behind both
abbrev pub named : List ℕ → Value × List ℕ → (List ℕ × Value) × List ℕ
named name at = ((name, at.0), at.1)

abbrev pub with_value : List ℕ × List ℕ → Option ((List ℕ × Value) × List ℕ)
with_value name = option_map (named name.0) (value_behind_colon name.1)

-- the pair at the front, and what is behind it
unfoldable pub pair_at : List ℕ → Option ((List ℕ × Value) × List ℕ)
pair_at [] = None
pair_at (b ∷ bs) = if b == 34 then option_and_then with_value (text_at bs) else None

-- these pairs are the first of all, and the rest of the text has the others
abbrev pub EndsWith : List (List ℕ × Value) → List ℕ → List (List ℕ × Value) → Type 0
EndsWith pairs rest all = (later : List (List ℕ × Value)) × (all ≡ pairs ++ later) × (rest ≡ pairs_text later ++ 125 ∷ [])

-- a pair as messages have it
pub record IsTypedPair (pair : List ℕ × Value) : Type 0 where
  pub field : IsField pair.0 pair.1
  pub texts : is_utf8_pair pair ≡ true

-- the pair at the front of the text went behind the fields
pub record TakesField (text behind : List ℕ) (old new : FieldMap) : Type 0 where
  pub pair : List ℕ × Value
  pub at : pair_at text ≡ Some (pair, behind)
  pub typed : IsTypedPair pair
  pub pushed : entries new ≡ entries old ++ pair ∷ []

-- no pair that could go behind the fields stands at the front of the text
abbrev pub TakesNone : List ℕ → FieldMap → Type 0
TakesNone text fields =
    (pair : List ℕ × Value) (behind : List ℕ) → IsTypedPair pair → is_above_all pair.0 (entries fields) ≡ true → begins_with_stop behind ≡ true → text ≡ pair_text pair ++ behind → ⊥

-- The fields are those at the front of the text behind the opening, and every message with that text begins with them.
pub record IsReading (text rest : List ℕ) (fields : FieldMap) : Type 0 where
  pub read : text ≡ pairs_text (entries fields) ++ rest
  pub typed : AreTyped (entries fields)
  pub agrees : (all : FieldMap) → AreTyped (entries all) → text ≡ pairs_text (entries all) ++ 125 ∷ [] → EndsWith (entries fields) rest (entries all)

-- the text behind the opening is that of these fields
pub record IsTextOfFields (text : List ℕ) (fields : FieldMap) : Type 0 where
  pub typed : AreTyped (entries fields)
  pub text_is : text ≡ pairs_text (entries fields) ++ 125 ∷ []
