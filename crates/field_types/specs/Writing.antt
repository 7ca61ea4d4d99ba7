-- Values as JSON (RFC 8259).
use Rattle.std.specs.Prelude.{ℕ, List, [], ◌∷◌, ◌++◌, Bool, true, map}
use Rattle.std.specs.Fmt.{signed_decimal}
use Rattle.std.specs.List.{join_with_byte, list_all}
use Rattle.std.specs.Str.{is_utf8}
use Rattle.base_types.specs.JsonText.{flag_word, quoted}
use Rattle.scalar_text.specs.Number.{decimal_text}
use Rattle.field_types.specs.declared.value.Item.{Item}
use Rattle.field_types.specs.declared.value.Item.TheVariants as item
use Rattle.field_types.specs.declared.value.Value.{Value}
use Rattle.field_types.specs.declared.value.Value.TheVariants as value

-- the JSON text of an item of a list
abbrev pub item_text : Item → List ℕ
item_text (item.Text text) = quoted text
item_text (item.Whole n) = signed_decimal n
item_text (item.Flag b) = flag_word b
item_text (item.Decimal n) = decimal_text n

-- the canonical JSON text of a value: strings in quotes, whole numbers in digits, decimals in their canonical form
unfoldable pub value_text : Value → List ℕ
value_text (value.Text text) = quoted text
value_text (value.Whole n) = signed_decimal n
value_text (value.Flag b) = flag_word b
value_text (value.Decimal n) = decimal_text n
value_text (value.List items) = 91 ∷ join_with_byte 44 (map item_text items) ++ 93 ∷ []

-- ---- texts

-- each text of an item, and of a value, is UTF-8 (RFC 3629)
abbrev pub is_utf8_item : Item → Bool
is_utf8_item (item.Text text) = is_utf8 text
is_utf8_item (item.Whole n) = true
is_utf8_item (item.Flag b) = true
is_utf8_item (item.Decimal n) = true

abbrev pub is_utf8_value : Value → Bool
is_utf8_value (value.Text text) = is_utf8 text
is_utf8_value (value.Whole n) = true
is_utf8_value (value.Flag b) = true
is_utf8_value (value.Decimal n) = true
is_utf8_value (value.List items) = list_all is_utf8_item items
