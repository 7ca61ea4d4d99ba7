-- What stands in the words of a command line.
use Rattle.std.specs.Prelude.{ℕ, ◌^◌, ◌==◌, ◌&&◌, Bool, not, nat_le, nat_lt, List, length, get_or, Option, Some, None, if◌then◌else◌}
use Rattle.std.specs.List.{list_all}
use Rattle.std.specs.Str.Parse.{digits_value}

-- a name of 1 to 255 bytes
abbrev pub is_name : List ℕ → Bool
is_name name = nat_le 1 (length name) && nat_le (length name) 255

abbrev pub name_in : List ℕ → Option (List ℕ)
name_in text = if is_name text then Some text else None

abbrev pub is_digit : ℕ → Bool
is_digit b = nat_le 48 b && nat_le b 57

-- a zero stands before other digits
abbrev pub has_needless_zero : List ℕ → Bool
has_needless_zero text = nat_lt 1 (length text) && (get_or text 0 0 == 48)

-- one or more decimal digits, with no needless zero
abbrev pub is_number : List ℕ → Bool
is_number text = nat_lt 0 (length text) && list_all is_digit text && not (has_needless_zero text)

-- the number that a text writes, if it fits 64 bits
abbrev pub number_in : List ℕ → Option ℕ
number_in text = if is_number text && nat_lt (digits_value 10 text) (2 ^ 64) then Some (digits_value 10 text) else None

-- a number from the least to the most
abbrev pub number_within : (least most : ℕ) → List ℕ → Option ℕ
number_within least most text = within (number_in text)
  where
    within : Option ℕ → Option ℕ
    within None = None
    within (Some n) = if nat_le least n && nat_le n most then Some n else None
