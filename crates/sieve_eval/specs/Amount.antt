-- Amounts of numbers, and equality of values.
use Rattle.std.specs.Prelude.{ℕ, ℤ, pos, ◌*ℤ◌, Bool, false, List, Option, Some, None}
use Rattle.std.specs.Bool.{beq}
use Rattle.std.specs.Cmp.Lexicographic.{pointwise}
use Rattle.std.specs.Ordering.{int_eq}
use Rattle.std.specs.Str.{bytes_eq}
use Rattle.field_types.specs.declared.value.Item.{Item}
use Rattle.field_types.specs.declared.value.Item.TheVariants as item
use Rattle.field_types.specs.declared.value.Value.{Value}
use Rattle.field_types.specs.declared.value.Value.TheVariants.{Text, Whole, Flag, Decimal, List as ItemsOf}
use Rattle.sieve_tree.specs.declared.tree.Amount.{Amount}
use Rattle.sieve_tree.specs.declared.tree.Amount.TheVariants as written

-- a whole number in millionths
abbrev pub millionths : ℤ → ℤ
millionths n = n *ℤ pos 1000000

-- the amount of a value in millionths; a flag isn't a number
abbrev pub amount_of : Value → Option ℤ
amount_of (Text text) = None
amount_of (Whole n) = Some (millionths n)
amount_of (Flag b) = None
amount_of (Decimal n) = Some n
amount_of (ItemsOf items) = None

-- the amount that a number writes
abbrev pub amount : Amount → ℤ
amount (written.Whole n) = millionths n
amount (written.Decimal n) = n

-- the same item: of one sort, with one content
abbrev pub same_item : Item → Item → Bool
same_item (item.Text a) (item.Text b) = bytes_eq a b
same_item (item.Whole a) (item.Whole b) = int_eq a b
same_item (item.Flag a) (item.Flag b) = beq a b
same_item (item.Decimal a) (item.Decimal b) = int_eq a b
same_item _ _ = false

-- a number of that amount
abbrev pub is_amount : ℤ → Option ℤ → Bool
is_amount n None = false
is_amount n (Some m) = int_eq n m

-- a text, a flag or a list with that content
abbrev pub is_text : List ℕ → Value → Bool
is_text text (Text other) = bytes_eq text other
is_text text _ = false

abbrev pub is_flag : Bool → Value → Bool
is_flag b (Flag other) = beq b other
is_flag b _ = false

abbrev pub is_list : List Item → Value → Bool
is_list items (ItemsOf others) = pointwise same_item items others
is_list items _ = false

-- equality of values: numbers by their amounts, all others by their sort and content
abbrev pub equal : Value → Value → Bool
equal (Text text) v = is_text text v
equal (Whole n) v = is_amount (millionths n) (amount_of v)
equal (Flag b) v = is_flag b v
equal (Decimal n) v = is_amount n (amount_of v)
equal (ItemsOf items) v = is_list items v
