-- Decimals as they are printed, and read again.
use Rattle.std.proofs.Common.{◌++◌, ◌≡◌, ℕ, zero, suc, ◌+◌, ◌-◌, ◌*◌, ◌/◌, ◌%◌, ◌^◌, ◌==◌, ◌<◌, ◌≤◌, Bool, true, false, if◌then◌else◌, ℤ, pos, negsuc, unsigned_abs, List, [], ◌∷◌, length, Option, Some, None, decimal, refl, sym, ap, ◌∙◌, subst, arith}
use Rattle.std.proofs.Math.Nat.{suc-ne-zero}
use Rattle.std.proofs.Math.Seq.{take-append_seam, drop-append-add}
use Rattle.std.proofs.lemmas.Bool.{le-ltb, ne_eqb}
use Rattle.std.proofs.lemmas.Fmt.{decimal_is_IsNumeral, length-decimal-le}
use Rattle.std.proofs.lemmas.List.{take_all}
use Rattle.std.proofs.lemmas.Iterator.Adapters.{position_from-zero}
use Rattle.std.specs.Char.{digit_value}
use Rattle.std.specs.Int.{is_negative}
use Rattle.std.specs.List.{position_from}
use Rattle.std.specs.Str.Parse.{AllDigits, IsNumeral, digits_value, digits_value_after}
use Rattle.base_types.specs.Digits.{IsDigits}
use Rattle.scalar_text.specs.Number.{has_minus, behind_minus, signed, point_in, millionths, AreMillionths, IsDecimalText, first_digit, behind_first, digits_until_zero, part_text, decimal_text}
use Rattle.scalar_text.proofs.Numerals.{digit_is}

-- a digit is no minus and no point
pub no_minus_byte : (b : ℕ) → digit_value b < 10 → b ≡ 45 → ⊥
no_minus_byte b h e = let no : digit_value 45 < 10 = subst (λ c. digit_value c < 10) e h in absurd (omega arith)

pub no_point_byte : (b : ℕ) → digit_value b < 10 → b ≡ 46 → ⊥
no_point_byte b h e = let no : digit_value 46 < 10 = subst (λ c. digit_value c < 10) e h in absurd (omega arith)

-- a text that begins with a digit has no minus
pub numeral_first : (ds rest : List ℕ) → IsNumeral 10 ds → (has_minus (ds ++ rest) ≡ false) × (behind_minus (ds ++ rest) ≡ ds ++ rest)
numeral_first [] rest h = absurd (omega (arith, h.0))
numeral_first (d ∷ ds) rest h = rw (ne_eqb d 45 (no_minus_byte d h.1.0)) (refl, refl)

pub minus_of : (b : Bool) (text : List ℕ) → has_minus text ≡ false → has_minus (if b then 45 ∷ text else text) ≡ b
minus_of true text none = refl
minus_of false text none = none

pub behind_of : (b : Bool) (text : List ℕ) → behind_minus text ≡ text → behind_minus (if b then 45 ∷ text else text) ≡ text
behind_of true text none = refl
behind_of false text none = none

-- the first point stands behind the digits
point_from : (ds rest : List ℕ) (i : ℕ) → AllDigits 10 ds → position_from (λ b. b == 46) i (ds ++ 46 ∷ rest) ≡ Some (i + length ds)
point_from [] rest i all = ap Some (omega arith)
point_from (d ∷ ds) rest i all = rw (ne_eqb d 46 (no_point_byte d all.0)) (point_from ds rest (i + 1) all.1 ∙ ap Some (omega arith))

pub point_behind : (ds rest : List ℕ) → AllDigits 10 ds → point_in (ds ++ 46 ∷ rest) ≡ Some (length ds)
point_behind ds rest all = position_from-zero (λ b. b == 46) (ds ++ 46 ∷ rest) ∙ point_from ds rest 0 all ∙ ap Some (omega arith)

-- the digits behind the point
pub until_digits : (k n : ℕ) → n < 1000000 → AllDigits 10 (digits_until_zero k n)
until_digits zero n below = tt
until_digits (suc k) zero below = tt
until_digits (suc k) (suc n) below = rw (ne_eqb (suc n) 0 (suc-ne-zero n)) (let d = digit_is (suc n / 100000) (omega arith) in omega (arith, d), until_digits k (behind_first (suc n)) (omega arith))

pub until_short : (k n : ℕ) → length (digits_until_zero k n) ≤ k
until_short zero n = omega arith
until_short (suc k) zero = omega arith
until_short (suc k) (suc n) = let short = until_short k (behind_first (suc n)) in rw (ne_eqb (suc n) 0 (suc-ne-zero n)) (omega (arith, short))

-- behind the first digit one place fewer is left
pub zeros_left : (k n : ℕ) → k ≤ 4 → n < 1000000 → n % 10 ^ (5 - k) ≡ 0 → n % 100000 * 10 % 10 ^ (6 - k) ≡ 0
zeros_left zero n few below none = omega arith
zeros_left (suc zero) n few below none = omega arith
zeros_left (suc (suc zero)) n few below none = omega arith
zeros_left (suc (suc (suc zero))) n few below none = omega arith
zeros_left (suc (suc (suc (suc zero)))) n few below none = omega arith
zeros_left (suc (suc (suc (suc (suc k))))) n few below none = absurd (omega arith)

one_place : (k n acc : ℕ) → k ≤ 4 → n < 1000000 → n % 10 ^ (5 - k) ≡ 0 → (acc * 10 + n / 100000) * 10 ^ k + n % 100000 * 10 / 10 ^ (6 - k) ≡ acc * 10 ^ suc k + n / 10 ^ (5 - k)
one_place zero n acc few below none = omega arith
one_place (suc zero) n acc few below none = omega arith
one_place (suc (suc zero)) n acc few below none = omega arith
one_place (suc (suc (suc zero))) n acc few below none = omega arith
one_place (suc (suc (suc (suc zero)))) n acc few below none = omega arith
one_place (suc (suc (suc (suc (suc k))))) n acc few below none = absurd (omega arith)

no_place : (k acc : ℕ) → k ≤ 4 → acc * 10 ^ suc k ≡ acc * 10 ^ suc k + 0 / 10 ^ (5 - k)
no_place zero acc few = omega arith
no_place (suc zero) acc few = omega arith
no_place (suc (suc zero)) acc few = omega arith
no_place (suc (suc (suc zero))) acc few = omega arith
no_place (suc (suc (suc (suc zero)))) acc few = omega arith
no_place (suc (suc (suc (suc (suc k))))) acc few = absurd (omega arith)

-- what the digits write behind others, with zeros in the places that they leave
until_value : (k n acc : ℕ) → k ≤ 5 → n < 1000000 → n % 10 ^ (6 - k) ≡ 0 → digits_value_after 10 acc (digits_until_zero k n) * 10 ^ (k - length (digits_until_zero k n)) ≡ acc * 10 ^ k + n / 10 ^ (6 - k)
until_value zero n acc few below none = omega arith
until_value (suc k) zero acc few below none =
    ap (λ j. acc * 10 ^ j) (omega arith) ∙ no_place k acc (omega arith) ∙ ap (λ j. acc * 10 ^ suc k + 0 / 10 ^ j) (omega arith)
until_value (suc k) (suc n) acc few below none =
    let places : 6 - suc k ≡ 5 - k = omega arith in
    let zeros = subst (λ j. suc n % 10 ^ j ≡ 0) places none in
    let rest = digits_until_zero k (behind_first (suc n)) in
    let value = digits_value_after 10 (acc * 10 + digit_value (first_digit (suc n))) rest in
    rw (ne_eqb (suc n) 0 (suc-ne-zero n)) (
    ap (λ j. value * 10 ^ j) (omega arith)
    ∙ until_value k (behind_first (suc n)) (acc * 10 + digit_value (first_digit (suc n))) (omega arith) (omega arith) (zeros_left k (suc n) (omega arith) below zeros)
    ∙ ap (λ d. (acc * 10 + d) * 10 ^ k + behind_first (suc n) / 10 ^ (6 - k)) (digit_is (suc n / 100000) (omega arith))
    ∙ one_place k (suc n) acc (omega arith) below zeros
    ∙ ap (λ j. acc * 10 ^ suc k + suc n / 10 ^ j) (sym places)
    )

pub part_numeral : (p : ℕ) → p < 1000000 → IsNumeral 10 (part_text p)
part_numeral p below = (omega arith, (let d = digit_is (p / 100000) (omega arith) in omega (arith, d), until_digits 5 (behind_first p) (omega arith)))

pub part_value : (p : ℕ) → p < 1000000 → millionths (part_text p) ≡ p
part_value p below =
    let short = until_short 5 (behind_first p) in
    let d = digit_is (p / 100000) (omega arith) in
    let value = until_value 5 (behind_first p) (0 * 10 + digit_value (first_digit p)) (omega arith) (omega arith) (omega arith) in
    ap (λ front. digits_value 10 front * 10 ^ (6 - length front)) (take_all 6 (part_text p) (omega (arith, short)))
    ∙ ap (λ j. digits_value 10 (part_text p) * 10 ^ j) (omega arith)
    ∙ value
    ∙ omega (arith, d)

pub signed_is : (z : ℤ) → z ≡ signed (is_negative z) (unsigned_abs z)
signed_is (pos n) = rw (le-ltb n 0 (omega arith)) refl
signed_is (negsuc n) = refl

written : (text digits : List ℕ) (negative : Bool) (z : ℤ) (i n : ℕ) → behind_minus text ≡ digits → has_minus text ≡ negative → point_in digits ≡ Some i → AreMillionths (Some i) digits n → z ≡ signed negative n → IsDecimalText text z
written text digits negative z i n behind minus point are is = rw (behind, minus, point) (n, are, is)

IsDigits-decimal : (w : ℕ) → w < 10 ^ 12 → IsDigits 12 (decimal w) w
IsDigits-decimal w below = (decimal_is_IsNumeral w (omega arith), length-decimal-le 12 w (omega arith) below (omega arith))

are_millionths : (ds rest : List ℕ) (w n : ℕ) → IsDigits 12 ds w → IsNumeral 10 rest → n ≡ w * 1000000 + millionths rest → AreMillionths (Some (length ds)) (ds ++ 46 ∷ rest) n
are_millionths ds rest w n whole part is = rw (take-append_seam ds (46 ∷ rest), drop-append-add ds (46 ∷ rest) 1) (w, whole, part, is)

-- what is printed is read as the same number
pub decimal_reads_back : (z : ℤ) → unsigned_abs z < 10 ^ 18 → IsDecimalText (decimal_text z) z
decimal_reads_back z below =
    let w = unsigned_abs z / 1000000 in
    let p = unsigned_abs z % 1000000 in
    let whole = IsDigits-decimal w (omega arith) in
    let first = numeral_first (decimal w) (46 ∷ part_text p) whole.0.0 in
    let value = part_value p (omega arith) in
    written (decimal_text z) (decimal w ++ 46 ∷ part_text p) (is_negative z) z (length (decimal w)) (unsigned_abs z)
    (behind_of (is_negative z) (decimal w ++ 46 ∷ part_text p) first.1)
    (minus_of (is_negative z) (decimal w ++ 46 ∷ part_text p) first.0)
    (point_behind (decimal w) (part_text p) whole.0.0.1)
    (are_millionths (decimal w) (part_text p) w (unsigned_abs z) whole (part_numeral p (omega arith)) (omega (arith, value)))
    (signed_is z)

same_millionths : (o : Option ℕ) (text : List ℕ) (m n : ℕ) → AreMillionths o text m → AreMillionths o text n → m ≡ n
same_millionths None text m n (w, h, e) (v, k, f) = let same : w ≡ v = sym h.0.1 ∙ k.0.1 in cc
same_millionths (Some i) text m n (w, h, _, e) (v, k, _, f) = let same : w ≡ v = sym h.0.1 ∙ k.0.1 in cc

-- a text writes one decimal at most
pub same_decimal : (text : List ℕ) (a b : ℤ) → IsDecimalText text a → IsDecimalText text b → a ≡ b
same_decimal text a b (m, h, e) (n, k, f) = let same = same_millionths _ _ m n h k in e ∙ ap (signed (has_minus text)) same ∙ sym f
