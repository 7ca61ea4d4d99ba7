-- What an operator says of the value of a field.
use Rattle.std.specs.Prelude.{ℕ, ◌+◌, ℤ, Bool, true, false, ◌||◌, not, List, [], ◌∷◌, Option, Some, None, nat_eq, nat_lt, int_lt, int_le, is_some, slice_get, option_and_then}
use Rattle.std.specs.List.{list_any, starts_with}
use Rattle.regex.specs.Patterns.{Re, find_str}
use Rattle.scalar_net.specs.Network.{is_inside}
use Rattle.field_types.specs.Written.{address_in}
use Rattle.scalar_net.specs.declared.address.Ip.{Ip}
use Rattle.scalar_text.specs.Time.{time_in}
use Rattle.field_types.specs.declared.value.Value.{Value}
use Rattle.field_types.specs.declared.value.Value.TheVariants.{Text, Whole, Flag, Decimal, List as ItemsOf}
use Rattle.sieve_tree.specs.Pattern.{pattern_of}
use Rattle.sieve_tree.specs.declared.tree.Test.{Test}
use Rattle.sieve_tree.specs.declared.tree.Test.TheVariants as test
use Rattle.sieve_eval.specs.Amount.{amount, amount_of, equal}

-- the text of a value that is one
abbrev pub text_of : Value → Option (List ℕ)
text_of (Text text) = Some text
text_of (Whole n) = None
text_of (Flag b) = None
text_of (Decimal n) = None
text_of (ItemsOf items) = None

-- there is one, and it passes
abbrev pub passes : {A : Type 0} → (A → Bool) → Option A → Bool
passes test None = false
passes test (Some x) = test x

-- ---- texts

-- the part stands somewhere in the text
abbrev pub has_part : List ℕ → List ℕ → Bool
has_part part [] = starts_with nat_eq [] part
has_part part (b ∷ bs) = starts_with nat_eq (b ∷ bs) part || has_part part bs

-- the pattern has a match in the text
unfoldable pub has_match : List ℕ → Re → Bool
has_match text re = is_some (find_str re text 0)

-- the text of a pattern reads as one that has a match in the text
abbrev pub matches : List ℕ → List ℕ → Bool
matches text pattern = passes (has_match text) (pattern_of pattern)

-- the pattern with that number has a match in the text
abbrev pub finds : List (List ℕ) → ℕ → List ℕ → Bool
finds patterns n text = passes (matches text) (slice_get patterns n)

-- ---- times

-- from 0001-01-01 to 1970-01-01 in seconds
abbrev pub epoch : ℕ
epoch = 62135596800

-- The time is earlier than so many seconds before now. Times count from the year 1, now counts from 1970.
abbrev pub is_before : ℕ → ℕ → ℕ → Bool
is_before now span time = nat_lt (time + span) (now + epoch)

-- it is later
abbrev pub is_after : ℕ → ℕ → ℕ → Bool
is_after now span time = nat_lt (now + epoch) (time + span)

-- ---- operators

-- a value that is a number, a text, the text of an address or of a time, and passes
abbrev pub is_number : (ℤ → Bool) → Value → Bool
is_number test v = passes test (amount_of v)

abbrev pub is_text : (List ℕ → Bool) → Value → Bool
is_text test v = passes test (text_of v)

abbrev pub is_address : (Ip → Bool) → Value → Bool
is_address test v = passes test (option_and_then address_in (text_of v))

abbrev pub is_time : (ℕ → Bool) → Value → Bool
is_time test v = passes test (option_and_then time_in (text_of v))

-- what a test says of a value that is there, with these patterns at that moment
abbrev pub says : List (List ℕ) → ℕ → Test → Value → Bool
says patterns now test.Exists v = true
says patterns now test.Absent v = false
says patterns now (test.Equal operand) v = equal operand v
says patterns now (test.Differs operand) v = not (equal operand v)
says patterns now (test.Contains part) v = is_text (has_part part) v
says patterns now (test.Found n) v = is_text (finds patterns n) v
says patterns now (test.NotFound n) v = not (is_text (finds patterns n) v)
says patterns now (test.Below n) v = is_number (λ m. int_lt m (amount n)) v
says patterns now (test.AtMost n) v = is_number (λ m. int_le m (amount n)) v
says patterns now (test.Above n) v = is_number (λ m. int_lt (amount n) m) v
says patterns now (test.AtLeast n) v = is_number (λ m. int_le (amount n) m) v
says patterns now (test.Within net) v = is_address (is_inside net) v
says patterns now (test.In operands) v = list_any (λ operand. equal operand v) operands
says patterns now (test.Before span) v = is_time (is_before now span) v
says patterns now (test.After span) v = is_time (is_after now span) v

-- what a test says where the field is absent
abbrev pub says_of_none : Test → Bool
says_of_none test.Absent = true
says_of_none (test.Differs operand) = true
says_of_none (test.NotFound n) = true
says_of_none _ = false

-- what it says of a field, there or absent
abbrev pub says_of : List (List ℕ) → ℕ → Test → Option Value → Bool
says_of patterns now test None = says_of_none test
says_of patterns now test (Some v) = says patterns now test v
