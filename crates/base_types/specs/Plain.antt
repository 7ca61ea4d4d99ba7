-- Bytes of JSON strings, many at a time.
use Rattle.std.specs.Prelude.{◌≡◌, ◌≤◌, ◌<◌, ◌&&◌, ℕ, List, Bool, not, false, get_or}
use Rattle.std.specs.Char.{is_ascii}
use Rattle.base_types.specs.JsonText.{is_plain}

-- a byte that is escaped in a string
abbrev pub is_special : ℕ → Bool
is_special b = not (is_plain b)

-- a byte that is ASCII and stands in a string as it is
abbrev pub is_plain_ascii : ℕ → Bool
is_plain_ascii b = is_plain b && is_ascii b

-- any other byte
abbrev pub is_foreign : ℕ → Bool
is_foreign b = not (is_plain_ascii b)

-- the bytes from one place up to another stand in a string as they are
abbrev pub PlainBetween : List ℕ → ℕ → ℕ → Type 0
PlainBetween text from to = (k : ℕ) → from ≤ k → k < to → is_special (get_or text k 0) ≡ false
