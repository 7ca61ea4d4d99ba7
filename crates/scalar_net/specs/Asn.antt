-- Numbers of autonomous systems as texts.
use Rattle.std.specs.Prelude.{ℕ, ◌^◌, List, ◌∷◌, ◌&&◌, ◌==◌, IsTrue, Bool, nat_lt, Option, Some, None, option_and_then, if◌then◌else◌}
use Rattle.std.specs.Char.{to_ascii_lowercase}
use Rattle.base_types.specs.Digits.{IsDigits, digits_in}

-- the text behind `AS`, in any case, where the text begins with that
abbrev pub behind_as : List ℕ → List ℕ
behind_as (a ∷ s ∷ rest) = if (to_ascii_lowercase a == 97) && (to_ascii_lowercase s == 115) then rest else a ∷ s ∷ rest
behind_as text = text

-- a number that an autonomous system may have: 32 bits (RFC 6793, 3), and not 0, which is reserved (RFC 7607)
abbrev pub is_asn : ℕ → Bool
is_asn n = nat_lt 0 n && nat_lt n (2 ^ 32)

-- the text writes the number of an autonomous system: 1 to 10 digits, perhaps behind `AS`
abbrev pub IsAsnText : List ℕ → ℕ → Type 0
IsAsnText text n = IsDigits 10 (behind_as text) n × IsTrue (is_asn n)

-- that number, if there is one
unfoldable pub asn_in : List ℕ → Option ℕ
asn_in text = option_and_then (λ n. if is_asn n then Some n else None) (digits_in 10 (behind_as text))
