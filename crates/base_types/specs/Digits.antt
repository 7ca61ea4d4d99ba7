-- Texts of decimal digits.
use Rattle.std.specs.Prelude.{ℕ, ◌≤◌, ◌&&◌, nat_lt, nat_le, List, length, Option, Some, None, if◌then◌else◌}
use Rattle.std.specs.Net.Grammar.{IsNumber}
use Rattle.std.specs.Str.{all_ascii_digits}
use Rattle.std.specs.Str.Parse.{digits_value}

-- one to `most` decimal digits write the number; zeros may lead
abbrev pub IsDigits : ℕ → List ℕ → ℕ → Type 0
IsDigits most text n = IsNumber 10 text n × (length text ≤ most)

-- that number, if there is one
unfoldable pub digits_in : ℕ → List ℕ → Option ℕ
digits_in most text =
    if nat_lt 0 (length text) && nat_le (length text) most && all_ascii_digits text then Some (digits_value 10 text)
    else None
