-- Kinds of bytes. Letters and digits are those of ASCII.
use Rattle.std.specs.Prelude.{ℕ, Bool, false, not, ◌&&◌, ◌||◌, ◌==◌, nat_le, List, [], ◌∷◌}
use Rattle.base_types.specs.Lines.{newline}

abbrev pub is_letter : ℕ → Bool
is_letter b = (nat_le 97 b && nat_le b 122) || (nat_le 65 b && nat_le b 90)

abbrev pub is_digit : ℕ → Bool
is_digit b = nat_le 48 b && nat_le b 57

-- a space, a tab, a newline or a carriage return
abbrev pub is_blank_byte : ℕ → Bool
is_blank_byte b = (b == 32) || (b == 9) || (b == 10) || (b == 13)

-- what a word begins with: a letter or `_`
abbrev pub is_word_start : ℕ → Bool
is_word_start b = is_letter b || (b == 95)

-- `'` or `"`
abbrev pub is_quote : ℕ → Bool
is_quote b = (b == 39) || (b == 34)

abbrev pub backslash : ℕ
backslash = 92

-- what may stand behind a backslash: a backslash, a quote, `n` or `t`
abbrev pub is_escape : ℕ → Bool
is_escape b = (b == backslash) || is_quote b || (b == 110) || (b == 116)

-- what may not follow a number directly: a letter, a digit, `_` or `.`
abbrev pub goes_on : ℕ → Bool
goes_on b = is_letter b || is_digit b || (b == 95) || (b == 46)

-- no newline
abbrev pub is_in_line : ℕ → Bool
is_in_line b = not (b == newline)

-- the bytes begin with one that passes
abbrev pub begins : (ℕ → Bool) → List ℕ → Bool
begins passes [] = false
begins passes (b ∷ bs) = passes b
