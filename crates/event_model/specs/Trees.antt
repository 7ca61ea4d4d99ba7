-- What a JSON tree is worth: decimals under quotes, compact texts, values.
use Rattle.std.specs.Prelude.{◌≡◌, ℕ, ℤ, pos, true, false, List, [], ◌∷◌, ◌++◌, Bool, codes, decimal, Option, Some, None, option_map, option_and_then, if◌then◌else◌}
use Rattle.std.specs.Fmt.{signed_decimal}
use Rattle.std.specs.List.{join_with_byte}
use Rattle.std.specs.Str.{bytes_eq, is_utf8}
use Rattle.serde_json.specs.Data.{Num, unsigned, negative, float, Data, null, boolean, number, string, array, object, Items, no_items, item, Members, no_members, member}
use Rattle.serde_json.specs.Find.{as_str}
use Rattle.serde_json.specs.Read.{read}
use Rattle.scalar_text.specs.Number.{decimal_in}
use Rattle.scalar_text.specs.Quote.{quote}
use Rattle.field_types.specs.Cleaning.{is_short}
use Rattle.base_types.specs.JsonText.{flag_word, quoted}
use Rattle.field_types.specs.declared.value.Item.{Item}
use Rattle.field_types.specs.declared.value.Item.TheVariants as as_item
use Rattle.field_types.specs.declared.value.Value.{Value}
use Rattle.field_types.specs.declared.value.Value.TheVariants as as_value

-- ---- bytes as trees

-- the JSON value of the bytes (RFC 8259), where they are UTF-8 and have one
unfoldable pub json_of : List ℕ → Option Data
json_of bytes = if is_utf8 bytes then read bytes else None

-- the tree of bytes: their JSON value once decimals stand under quotes
unfoldable pub tree_in : List ℕ → Option Data
tree_in bytes = json_of (quote bytes)

-- ---- decimals under quotes

abbrev pub dec_key : List ℕ
dec_key = codes "$dec"

-- the number that an object stands for: its one key is `$dec`, with a text
abbrev pub lexeme_in : Members → Option (List ℕ)
lexeme_in no_members = None
lexeme_in (member key d no_members) = if bytes_eq key dec_key then as_str d else None
lexeme_in (member key d (member l e ms)) = None

-- ---- compact texts

-- the digits of a whole number; a floating-point number has none
abbrev pub number_text : Num → Option (List ℕ)
number_text (unsigned n) = Some (decimal n)
number_text (negative z) = Some (signed_decimal z)
number_text (float x) = None

-- texts between two signs, with commas
abbrev pub between : ℕ → ℕ → List (List ℕ) → List ℕ
between left right texts = left ∷ join_with_byte 44 texts ++ right ∷ []

-- the first and the others, where all are there
abbrev pub both : {A : Type 0} → Option A → Option (List A) → Option (List A)
both (Some x) (Some xs) = Some (x ∷ xs)
both (Some x) None = None
both None xs = None

abbrev pub of_object : Option (List ℕ) → Option (List (List ℕ)) → Option (List ℕ)
of_object (Some lexeme) texts = Some lexeme
of_object None texts = option_map (between 123 125) texts

-- the JSON of a tree without blanks, its keys in byte order, and a decimal under quotes as its number; a tree with a
-- floating-point number has none
abbrev mutual
  pub compact : Data → Option (List ℕ)
  compact null = Some (codes "null")
  compact (boolean b) = Some (flag_word b)
  compact (number n) = number_text n
  compact (string s) = Some (quoted s)
  compact (array ds) = option_map (between 91 93) (compact_items ds)
  compact (object ms) = of_object (lexeme_in ms) (compact_members ms)

  pub compact_items : Items → Option (List (List ℕ))
  compact_items no_items = Some []
  compact_items (item d ds) = both (compact d) (compact_items ds)

  pub compact_members : Members → Option (List (List ℕ))
  compact_members no_members = Some []
  compact_members (member key d ms) = both (option_map (λ text. quoted key ++ 58 ∷ text) (compact d)) (compact_members ms)

-- the text stands behind what was there
pub record Appends (text : Option (List ℕ)) (old new : List ℕ) : Type 0 where
  pub whole : List ℕ
  pub is : text ≡ Some whole
  pub behind : new ≡ old ++ whole

-- texts between two signs, with commas, stand behind what was there
pub record AppendsBetween (left right : ℕ) (texts : Option (List (List ℕ))) (old new : List ℕ) : Type 0 where
  pub all : List (List ℕ)
  pub is : texts ≡ Some all
  pub behind : new ≡ old ++ between left right all

-- a comma, unless this is the first
abbrev pub comma : Bool → List ℕ
comma true = []
comma false = 44 ∷ []

-- ---- values

-- a whole number of at most 18 digits
abbrev pub whole_of : Num → Option ℤ
whole_of (unsigned n) = if is_short (pos n) then Some (pos n) else None
whole_of (negative z) = if is_short z then Some z else None
whole_of (float x) = None

abbrev pub item_of_object : Option (List ℕ) → Option (List ℕ) → Option Item
item_of_object (Some lexeme) text = option_map as_item.Decimal (decimal_in lexeme)
item_of_object None text = option_map as_item.Text text

-- an item of a list: what is no text, number or flag becomes its compact text
abbrev pub item_of : Data → Option Item
item_of null = Some (as_item.Text (codes "null"))
item_of (boolean b) = Some (as_item.Flag b)
item_of (number n) = option_map as_item.Whole (whole_of n)
item_of (string s) = Some (as_item.Text s)
item_of (array ds) = option_map as_item.Text (compact (array ds))
item_of (object ms) = item_of_object (lexeme_in ms) (compact (object ms))

abbrev pub items_of : Items → Option (List Item)
items_of no_items = Some []
items_of (item d ds) = both (item_of d) (items_of ds)

-- the value that a tree stands for, if it stands for one
unfoldable pub value_of : Data → Option Value
value_of null = None
value_of (boolean b) = Some (as_value.Flag b)
value_of (number n) = option_map as_value.Whole (whole_of n)
value_of (string s) = Some (as_value.Text s)
value_of (array ds) = option_map as_value.List (items_of ds)
value_of (object ms) = option_and_then (λ lexeme. option_map as_value.Decimal (decimal_in lexeme)) (lexeme_in ms)
