-- Strings and flags as JSON (RFC 8259).
use Rattle.std.specs.Prelude.{ℕ, ◌+◌, ◌/◌, ◌%◌, List, [], ◌∷◌, ◌++◌, ◌==◌, nat_lt, nat_le, ◌&&◌, not, Bool, true, false, codes, flat_map, if◌then◌else◌}

-- a hexadecimal digit in lower case
abbrev pub hex_digit : ℕ → ℕ
hex_digit n = if nat_lt n 10 then 48 + n else 87 + n

-- a byte of a string: the quotation mark, the backslash and what is below 32 are escaped
abbrev pub escaped : ℕ → List ℕ
escaped b =
    if b == 34 then codes "\\\"" else
    (if b == 92 then codes "\\\\" else
    (if b == 8 then codes "\\b" else
    (if b == 9 then codes "\\t" else
    (if b == 10 then codes "\\n" else
    (if b == 12 then codes "\\f" else
    (if b == 13 then codes "\\r" else
    (if nat_lt b 32 then codes "\\u00" ++ hex_digit (b / 16) ∷ hex_digit (b % 16) ∷ [] else b ∷ [])))))))

-- a byte that stands in a string as it is
abbrev pub is_plain : ℕ → Bool
is_plain b = nat_le 32 b && not (b == 34) && not (b == 92)

-- a text as a JSON string
unfoldable pub quoted : List ℕ → List ℕ
quoted text = 34 ∷ flat_map escaped text ++ 34 ∷ []

-- the word of a flag
abbrev pub flag_word : Bool → List ℕ
flag_word true = codes "true"
flag_word false = codes "false"
