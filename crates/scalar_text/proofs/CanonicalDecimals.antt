-- The printed texts of decimals are the shortest, and no two decimals share one.
use Rattle.std.proofs.Common.{◌++◌, ◌≡◌, ◌≢◌, ◌⊎◌, inl, inr, ℕ, zero, suc, ◌+◌, ◌-◌, ◌*◌, ◌/◌, ◌%◌, ◌^◌, ◌<◌, ◌≤◌, Bool, true, false, if◌then◌else◌, ℤ, pos, negsuc, unsigned_abs, List, [], ◌∷◌, length, take, drop, Option, Some, None, decimal, Any, slice_index, refl, sym, ap, ◌∙◌, subst, arith}
use Rattle.std.proofs.Math.Nat.{suc-ne-zero}
use Rattle.std.proofs.Math.Seq.{take-append_seam, drop-append-add}
use Rattle.std.proofs.lemmas.Bool.{le-ltb, ne_eqb}
use Rattle.std.proofs.lemmas.Fmt.{decimal_is_IsNumeral, decimal_digit, decimal_injective, first_decimal}
use Rattle.std.specs.Int.{is_negative}
use Rattle.std.specs.Int.Signed.{mag}
use Rattle.std.specs.List.{last_or}
use Rattle.scalar_text.specs.Number.{has_minus, behind_minus, signed, point_in, millionths, first_digit, behind_first, digits_until_zero, part_text, decimal_text, IsCanonicalDecimal}
use Rattle.scalar_text.proofs.PrintedDecimals.{until_short, zeros_left, part_numeral, part_value, numeral_first, minus_of, behind_of, point_behind, signed_is}

-- some digit isn't `0`
abbrev pub HasOther : List ℕ → Type 0
HasOther digits = Any (λ b. b ≢ 48) digits

other_here : (d : ℕ) (ds : List ℕ) → d ≢ 48 → HasOther (d ∷ ds)
other_here d ds other = (0, d, omega arith, refl, other)

other_later : (d : ℕ) (ds : List ℕ) → HasOther ds → HasOther (d ∷ ds)
other_later d ds (k, b, at, is, other) = (suc k, b, omega (arith, at), is, other)

other_first : (ds rest : List ℕ) → 48 < slice_index ds 0 → HasOther (ds ++ rest)
other_first [] rest more = absurd (omega (arith, more))
other_first (d ∷ ds) rest more = other_here d (ds ++ rest) (λ e. absurd (omega (arith, more, e)))

other_behind : (ds rest : List ℕ) → HasOther rest → HasOther (ds ++ rest)
other_behind [] rest has = has
other_behind (d ∷ ds) rest has = other_later d (ds ++ rest) (other_behind ds rest has)

-- the first digit isn't `0`, or what is left behind it isn't nothing
first_or_rest : (n q : ℕ) (rest : List ℕ) → n / 100000 ≡ q → n < 1000000 → n ≢ 0 → (behind_first n ≢ 0 → HasOther rest) → HasOther (first_digit n ∷ rest)
first_or_rest n zero rest e below more has = other_later (first_digit n) rest (has (λ none. more (omega (arith, e, none))))
first_or_rest n (suc q) rest e below more has = other_here (first_digit n) rest (λ zero_digit. absurd (omega (arith, e, zero_digit)))

until_other : (k n : ℕ) → k ≤ 5 → n < 1000000 → n % 10 ^ (6 - k) ≡ 0 → n ≢ 0 → HasOther (digits_until_zero k n)
until_other zero n few below none more = absurd (more (omega (arith, none)))
until_other (suc k) zero few below none more = absurd (more refl)
until_other (suc k) (suc n) few below none more =
    let places : 6 - suc k ≡ 5 - k = omega arith in
    let zeros = subst (λ j. suc n % 10 ^ j ≡ 0) places none in
    rw (ne_eqb (suc n) 0 (suc-ne-zero n)) (first_or_rest (suc n) _ _ refl below more (until_other k (behind_first (suc n)) (omega arith) (omega arith) (zeros_left k (suc n) (omega arith) below zeros)))

part_other : (p : ℕ) → p < 1000000 → p ≢ 0 → HasOther (part_text p)
part_other p below more = first_or_rest p _ _ refl below more (until_other 5 (behind_first p) (omega arith) (omega arith) (omega arith))

-- a number that isn't zero has a digit that isn't
amount_other : (w p : ℕ) → w < 2 ^ 64 → p < 1000000 → 0 < w * 1000000 + p → HasOther (decimal w ++ part_text p)
amount_other zero p fits below more = other_behind (decimal 0) (part_text p) (part_other p below (λ e. absurd (omega (arith, e))))
amount_other (suc w) p fits below more = other_first (decimal (suc w)) (part_text p) (first_decimal (suc w) (omega arith) fits)

-- ---- no needless zero

pub whole_alone : (w : ℕ) → w < 2 ^ 64 → slice_index (decimal w) 0 ≡ 48 → length (decimal w) ≡ 1
whole_alone zero fits e = ap length (decimal_digit 0 (omega arith))
whole_alone (suc w) fits e = let first = first_decimal (suc w) (omega arith) fits in absurd (omega (arith, first, e))

pub until_nothing : (k : ℕ) → digits_until_zero k 0 ≡ []
until_nothing zero = refl
until_nothing (suc k) = refl

first_is_zero : (n : ℕ) → Some (first_digit n) ≡ Some 48 → n / 100000 ≡ 0
first_is_zero n e = let same : first_digit n ≡ 48 = cc in omega (arith, same)

-- the digits end with a `0` only where there are none
until_last : (k n d : ℕ) → k ≤ 5 → n < 1000000 → n % 10 ^ (6 - k) ≡ 0 → last_or (Some d) (digits_until_zero k n) ≡ Some 48 → n ≡ 0
until_last zero n d few below none e = omega (arith, none)
until_last (suc k) zero d few below none e = refl
until_last (suc k) (suc n) d few below none e =
    let places : 6 - suc k ≡ 5 - k = omega arith in
    let zeros = subst (λ j. suc n % 10 ^ j ≡ 0) places none in
    let rest = digits_until_zero k (behind_first (suc n)) in
    let last : last_or (Some (first_digit (suc n))) rest ≡ Some 48 = subst (λ b. last_or (Some d) (if b then [] else first_digit (suc n) ∷ rest) ≡ Some 48) (ne_eqb (suc n) 0 (suc-ne-zero n)) e in
    let left = until_last k (behind_first (suc n)) (first_digit (suc n)) (omega arith) (omega arith) (zeros_left k (suc n) (omega arith) below zeros) last in
    let nothing : rest ≡ [] = ap (digits_until_zero k) left ∙ until_nothing k in
    let first = first_is_zero (suc n) (subst (λ ds. last_or (Some (first_digit (suc n))) ds ≡ Some 48) nothing last) in
    absurd (omega (arith, left, first))

pub part_alone : (p : ℕ) → p < 1000000 → last_or None (part_text p) ≡ Some 48 → length (part_text p) ≡ 1
part_alone p below e =
    let left = until_last 5 (behind_first p) (first_digit p) (omega arith) (omega arith) (omega arith) e in
    ap (λ n. length (first_digit p ∷ digits_until_zero 5 n)) left

-- ---- the texts

canonical_with : (sign : List ℕ) (w p : ℕ) → w < 2 ^ 64 → p < 1000000 → ((sign ≡ []) ⊎ ((sign ≡ 45 ∷ []) × HasOther (decimal w ++ part_text p))) → IsCanonicalDecimal (sign ++ decimal w ++ 46 ∷ part_text p)
canonical_with sign w p fits below minus =
    let short = until_short 5 (behind_first p) in
    record {
      sign = sign;
      whole = decimal w;
      part = part_text p;
      spelled = refl;
      minus = minus;
      whole_digits = (decimal_is_IsNumeral w fits).0;
      whole_shortest = whole_alone w fits;
      part_digits = (part_numeral p below, omega (arith, short));
      part_shortest = part_alone p below;
    }

canonical_by : (negative : Bool) (w p : ℕ) → w < 2 ^ 64 → p < 1000000 → (negative ≡ true → 0 < w * 1000000 + p) → IsCanonicalDecimal (if negative then 45 ∷ (decimal w ++ 46 ∷ part_text p) else decimal w ++ 46 ∷ part_text p)
canonical_by true w p fits below more = canonical_with (45 ∷ []) w p fits below (inr (refl, amount_other w p fits below (more refl)))
canonical_by false w p fits below more = canonical_with [] w p fits below (inl refl)

negative_amount : (z : ℤ) → is_negative z ≡ true → 0 < unsigned_abs z
negative_amount (pos n) negative = let not : is_negative (pos n) ≡ false = le-ltb n 0 (omega arith) in absurd (cc)
negative_amount (negsuc n) negative = omega arith

-- a signed number of 64 bits, without its sign
pub fits_word : (z : ℤ) → mag z < 2 ^ 63 → unsigned_abs z < 2 ^ 64
fits_word (pos n) fits = omega (arith, fits)
fits_word (negsuc n) fits = omega (arith, fits)

-- what is printed is canonical
pub decimal_is_canonical : (z : ℤ) → unsigned_abs z < 2 ^ 64 → IsCanonicalDecimal (decimal_text z)
decimal_is_canonical z fits = canonical_by (is_negative z) (unsigned_abs z / 1000000) (unsigned_abs z % 1000000) (omega (arith, fits)) (omega arith) (λ negative. let more = negative_amount z negative in omega (arith, more))

-- ---- one text, one number

abbrev amount_text : ℕ → List ℕ
amount_text n = decimal (n / 1000000) ++ 46 ∷ part_text (n % 1000000)

pub text_parts : (z : ℤ) → unsigned_abs z < 2 ^ 64 → (has_minus (decimal_text z) ≡ is_negative z) × (behind_minus (decimal_text z) ≡ amount_text (unsigned_abs z))
text_parts z fits =
    let w = unsigned_abs z / 1000000 in
    let p = unsigned_abs z % 1000000 in
    let first = numeral_first (decimal w) (46 ∷ part_text p) (decimal_is_IsNumeral w (omega (arith, fits))).0 in
    (minus_of (is_negative z) (amount_text (unsigned_abs z)) first.0, behind_of (is_negative z) (amount_text (unsigned_abs z)) first.1)

same_length : (m n : ℕ) → ◌≡◌ {A = Option ℕ} (Some m) (Some n) → m ≡ n
same_length m n e = cc

-- before the first point, and behind it, both have the same digits
same_sides : (a b c d : List ℕ) → length a ≡ length b → a ++ 46 ∷ c ≡ b ++ 46 ∷ d → (a ≡ b) × (c ≡ d)
same_sides a b c d lengths e = (
  sym (take-append_seam a (46 ∷ c)) ∙ ap (take (length a)) e ∙ ap (λ n. take n (b ++ 46 ∷ d)) lengths ∙ take-append_seam b (46 ∷ d),
  sym (drop-append-add a (46 ∷ c) 1) ∙ ap (drop (length a + 1)) e ∙ ap (λ n. drop (n + 1) (b ++ 46 ∷ d)) lengths ∙ drop-append-add b (46 ∷ d) 1,
)

same_amount : (m n : ℕ) → m < 2 ^ 64 → n < 2 ^ 64 → amount_text m ≡ amount_text n → m ≡ n
same_amount m n m_fits n_fits e =
    let m_digits = (decimal_is_IsNumeral (m / 1000000) (omega (arith, m_fits))).0.1 in
    let n_digits = (decimal_is_IsNumeral (n / 1000000) (omega (arith, n_fits))).0.1 in
    let points = sym (point_behind (decimal (m / 1000000)) (part_text (m % 1000000)) m_digits) ∙ ap point_in e ∙ point_behind (decimal (n / 1000000)) (part_text (n % 1000000)) n_digits in
    let sides = same_sides (decimal (m / 1000000)) (decimal (n / 1000000)) (part_text (m % 1000000)) (part_text (n % 1000000)) (same_length _ _ points) e in
    let wholes = decimal_injective (m / 1000000) (n / 1000000) (omega (arith, m_fits)) (omega (arith, n_fits)) sides.0 in
    let parts = sym (part_value (m % 1000000) (omega arith)) ∙ ap millionths sides.1 ∙ part_value (n % 1000000) (omega arith) in
    omega (arith, wholes, parts)

-- two numbers with one text are one
pub decimal_text_one_to_one : (a b : ℤ) → unsigned_abs a < 2 ^ 64 → unsigned_abs b < 2 ^ 64 → decimal_text a ≡ decimal_text b → a ≡ b
decimal_text_one_to_one a b a_fits b_fits e =
    let a_parts = text_parts a a_fits in
    let b_parts = text_parts b b_fits in
    let signs = sym a_parts.0 ∙ ap has_minus e ∙ b_parts.0 in
    let amounts = same_amount (unsigned_abs a) (unsigned_abs b) a_fits b_fits (sym a_parts.1 ∙ ap behind_minus e ∙ b_parts.1) in
    signed_is a ∙ ap (λ s. signed s (unsigned_abs a)) signs ∙ ap (signed (is_negative b)) amounts ∙ sym (signed_is b)
