-- Numbers as texts.
use Rattle.std.specs.Prelude.{unsigned_abs, ◌≡◌, ◌≢◌, ◌⊎◌, ℕ, zero, suc, ◌+◌, ◌-◌, ◌*◌, ◌/◌, ◌%◌, ◌^◌, ◌++◌, ◌==◌, ◌<◌, ◌≤◌, Any, slice_index, nat_le, nat_lt, not, ◌&&◌, ◌||◌, option_and_then, option_map, decimal, Bool, true, false, List, [], ◌∷◌, length, take, drop, position, Option, Some, None, ℤ, pos, neg_ℤ, if◌then◌else◌}
use Rattle.std.specs.Int.{is_negative}
use Rattle.std.specs.List.{last_or}
use Rattle.std.specs.Str.{all_ascii_digits}
use Rattle.std.specs.Str.Parse.{IsNumeral, digits_value}
use Rattle.base_types.specs.Digits.{IsDigits, digits_in}

-- the text begins with a minus
abbrev pub has_minus : List ℕ → Bool
has_minus [] = false
has_minus (b ∷ bs) = b == 45

-- the text without a minus at its front
abbrev pub behind_minus : List ℕ → List ℕ
behind_minus [] = []
behind_minus (b ∷ bs) = if b == 45 then bs else b ∷ bs

abbrev pub signed : Bool → ℕ → ℤ
signed true n = neg_ℤ (pos n)
signed false n = pos n

-- the text writes the whole number: perhaps a minus, and 1 to 18 digits
abbrev pub IsWholeText : List ℕ → ℤ → Type 0
IsWholeText text z = (n : ℕ) × IsDigits 18 (behind_minus text) n × (z ≡ signed (has_minus text) n)

-- the text writes a port: 1 to 5 digits, of a number of 16 bits (RFC 768, RFC 9293)
abbrev pub IsPortText : List ℕ → ℕ → Type 0
IsPortText text n = IsDigits 5 text n × (n < 65536)

-- that port, if there is one
unfoldable pub port_in : List ℕ → Option ℕ
port_in text = option_and_then (λ n. if nat_lt n 65536 then Some n else None) (digits_in 5 text)

-- where the first point stands
abbrev pub point_in : List ℕ → Option ℕ
point_in text = position (λ b. b == 46) text

-- the millionths that digits behind a point write; those behind the sixth are dropped
abbrev pub millionths : List ℕ → ℕ
millionths digits = let front = take 6 digits in digits_value 10 front * 10 ^ (6 - length front)

-- the text with its first point there writes so many millionths: 1 to 12 digits, and perhaps a point and one digit or more
abbrev pub AreMillionths : Option ℕ → List ℕ → ℕ → Type 0
AreMillionths None text n = (w : ℕ) × IsDigits 12 text w × (n ≡ w * 1000000)
AreMillionths (Some i) text n =
    (w : ℕ) × IsDigits 12 (take i text) w × IsNumeral 10 (drop (i + 1) text) × (n ≡ w * 1000000 + millionths (drop (i + 1) text))

-- the text writes the decimal with so many millionths, perhaps behind a minus
abbrev pub IsDecimalText : List ℕ → ℤ → Type 0
IsDecimalText text z = let digits = behind_minus text in (n : ℕ) × AreMillionths (point_in digits) digits n × (z ≡ signed (has_minus text) n)

-- that whole number, if there is one
unfoldable pub whole_in : List ℕ → Option ℤ
whole_in text = option_map (signed (has_minus text)) (digits_in 18 (behind_minus text))

-- one decimal digit or more, and nothing else
abbrev pub is_numeral : List ℕ → Bool
is_numeral text = nat_lt 0 (length text) && all_ascii_digits text

-- the millionths that the text with its first point there writes, if it writes any
unfoldable pub millionths_in : Option ℕ → List ℕ → Option ℕ
millionths_in None text = option_map (λ w. w * 1000000) (digits_in 12 text)
millionths_in (Some i) text =
    if is_numeral (drop (i + 1) text)
    then option_map (λ w. w * 1000000 + millionths (drop (i + 1) text)) (digits_in 12 (take i text)) else None

-- the decimal that the text writes, in millionths, if it writes one
unfoldable pub decimal_in : List ℕ → Option ℤ
decimal_in text =
    let digits = behind_minus text in option_map (signed (has_minus text)) (millionths_in (point_in digits) digits)

-- the first of the six digits of a number below a million
abbrev pub first_digit : ℕ → ℕ
first_digit n = 48 + n / 100000

-- what is left of it behind that digit, as six digits again
abbrev pub behind_first : ℕ → ℕ
behind_first n = n % 100000 * 10

-- its digits, at most so many, until nothing but zeros is left
abbrev pub digits_until_zero : ℕ → ℕ → List ℕ
digits_until_zero zero n = []
digits_until_zero (suc most) n = if n == 0 then [] else first_digit n ∷ digits_until_zero most (behind_first n)

-- millionths as digits behind a point: one at least, and no needless zero
abbrev pub part_text : ℕ → List ℕ
part_text n = first_digit n ∷ digits_until_zero 5 (behind_first n)

-- the canonical text of a decimal of so many millionths; zero has no sign
abbrev pub decimal_text : ℤ → List ℕ
decimal_text z =
    let text = decimal (unsigned_abs z / 1000000) ++ 46 ∷ part_text (unsigned_abs z % 1000000) in
    if is_negative z then 45 ∷ text else text

-- a `0` is the first of the digits only where it is the only one
abbrev pub is_shortest_whole : List ℕ → Bool
is_shortest_whole digits = nat_le (length digits) 1 || not (slice_index digits 0 == 48)

-- the digits are six at most, and a `0` is the last of them only where it is the only one
abbrev pub is_shortest_part : List ℕ → Bool
is_shortest_part digits = nat_le (length digits) 1 || (nat_le (length digits) 6 && not (slice_index digits (length digits - 1) == 48))

-- the text is a decimal in its shortest form: perhaps a minus, digits, a point, and more digits
pub record IsCanonicalDecimal (text : List ℕ) : Type 0 where
  -- what stands before the digits
  pub sign : List ℕ
  -- the digits before the point
  pub whole : List ℕ
  -- the digits behind the point
  pub part : List ℕ
  -- the text is these three, with a point before the last
  pub spelled : text ≡ sign ++ whole ++ 46 ∷ part
  -- there is no sign, or it is a minus and some digit isn't `0`
  pub minus : (sign ≡ []) ⊎ ((sign ≡ 45 ∷ []) × Any (λ b. b ≢ 48) (whole ++ part))
  -- digits stand before the point, one at least
  pub whole_digits : IsNumeral 10 whole
  -- a `0` is the first of them only where it is the only one
  pub whole_shortest : slice_index whole 0 ≡ 48 → length whole ≡ 1
  -- 1 to 6 digits stand behind the point
  pub part_digits : IsNumeral 10 part × (length part ≤ 6)
  -- a `0` is the last of them only where it is the only one
  pub part_shortest : last_or None part ≡ Some 48 → length part ≡ 1
