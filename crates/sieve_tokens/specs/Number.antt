-- Numbers.
use Rattle.std.specs.Prelude.{◌≡◌, ◌⊎◌, ◌<◌, ◌≤◌, ℕ, true, false, List, [], ◌++◌, length, codes}
use Rattle.std.specs.List.{list_all}
use Rattle.sieve_tokens.specs.Bytes.{begins, goes_on, is_digit}

-- one digit or more
abbrev pub AreDigits : List ℕ → Type 0
AreDigits digits = (0 < length digits) × (list_all is_digit digits ≡ true)

-- nothing or `-`
abbrev pub IsMinus : List ℕ → Type 0
IsMinus minus = (minus ≡ []) ⊎ (minus ≡ codes "-")

-- perhaps `-`, and 1 to 18 digits, not followed by what would go on
abbrev pub IsWhole : List ℕ → List ℕ → Type 0
IsWhole piece rest = (minus : List ℕ) × (digits : List ℕ) × (piece ≡ minus ++ digits) × IsMinus minus × AreDigits digits × (length digits ≤ 18) × (begins goes_on rest ≡ false)

-- perhaps `-`, 1 to 12 digits, `.`, and digits, not followed by what would go on
abbrev pub IsDecimal : List ℕ → List ℕ → Type 0
IsDecimal piece rest = (minus : List ℕ) × (digits : List ℕ) × (fraction : List ℕ) × (piece ≡ minus ++ (digits ++ (codes "." ++ fraction)))
    × IsMinus minus × AreDigits digits × (length digits ≤ 12) × AreDigits fraction × (begins goes_on rest ≡ false)
