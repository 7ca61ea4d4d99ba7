-- What the texts of printed numbers write.
use Rattle.std.proofs.Common.{◌≡◌, ℕ, ◌+◌, ◌*◌, ◌/◌, ◌%◌, ◌^◌, ◌==◌, ◌<◌, ◌≤◌, ◌++◌, Bool, true, false, ℤ, pos, negsuc, unsigned_abs, List, [], ◌∷◌, length, decimal, Some, None, nat_lt, refl, sym, ap, ◌∙◌, arith}
use Rattle.std.proofs.Math.Seq.{take-append_seam, drop-append-add}
use Rattle.std.proofs.lemmas.Bool.{lt-ltb, le-ltb, ltb-true, ltb-false, ne_eqb}
use Rattle.std.proofs.lemmas.Fmt.{decimal_is_IsNumeral, length-decimal-le}
use Rattle.std.proofs.lemmas.Int.Digits.{digits_value-lt}
use Rattle.std.proofs.Math.Nat.{pow-le-pow_right}
use Rattle.std.proofs.lemmas.Iterator.Adapters.{position_from-zero}
use Rattle.std.specs.Fmt.{signed_decimal}
use Rattle.std.specs.Int.{is_negative}
use Rattle.std.specs.List.{position_from}
use Rattle.std.specs.Str.Parse.{AllDigits, IsNumeral}
use Rattle.base_types.specs.Digits.{IsDigits, digits_in}
use Rattle.base_types.proofs.Numerals.{digits_in-some, digits_in-none}
use Rattle.scalar_text.specs.Number.{has_minus, behind_minus, signed, point_in, whole_in, port_in, millionths_in, decimal_in, part_text, decimal_text}
use Rattle.scalar_text.proofs.NumberForms.{numeral_test, decimal_form}
use Rattle.scalar_text.proofs.PrintedDecimals.{no_minus_byte, no_point_byte, numeral_first, behind_of, point_behind, part_numeral, signed_is, decimal_reads_back}

numeral : (n : ℕ) → n < 2 ^ 64 → IsNumeral 10 (decimal n)
numeral n fits = (decimal_is_IsNumeral n fits).0

too_long : (most n : ℕ) → n < 2 ^ 64 → 10 ^ most ≤ n → (v : ℕ) → ¬ (IsDigits most (decimal n) v)
too_long most n fits great v h =
    let value = (decimal_is_IsNumeral n fits).1 in
    let below = digits_value-lt 10 (decimal n) h.0.0.1 in
    let power : 10 ^ length (decimal n) ≤ 10 ^ most = let ten : 0 < 10 = omega arith in let few : length (decimal n) ≤ most = h.1 in pow-le-pow_right ten few in
    absurd (omega (arith, value, below, power, great))

-- the digits of a number write it, where they aren't too many
pub digits_fit : (most n : ℕ) → 0 < most → n < 2 ^ 64 → n < 10 ^ most → digits_in most (decimal n) ≡ Some n
digits_fit most n some fits few = digits_in-some most (decimal n) n (decimal_is_IsNumeral n fits, length-decimal-le most n some few fits)

pub digits_pass : (most n : ℕ) → n < 2 ^ 64 → 10 ^ most ≤ n → digits_in most (decimal n) ≡ None
digits_pass most n fits great = digits_in-none most (decimal n) (too_long most n fits great)

-- ---- signs

plain_front : (ds : List ℕ) → IsNumeral 10 ds → (has_minus ds ≡ false) × (behind_minus ds ≡ ds)
plain_front [] h = absurd (omega (arith, h.0))
plain_front (d ∷ ds) h = rw (ne_eqb d 45 (no_minus_byte d h.1.0)) (refl, refl)

pub front_of : (z : ℤ) → unsigned_abs z < 2 ^ 64 → (has_minus (signed_decimal z) ≡ is_negative z) × (behind_minus (signed_decimal z) ≡ decimal (unsigned_abs z))
front_of (pos n) fits = let plain = plain_front (decimal n) (numeral n fits) in (plain.0 ∙ sym (le-ltb n 0 (omega arith)), plain.1)
front_of (negsuc n) fits = (refl, refl)

-- ---- whole numbers

pub whole_fits : (z : ℤ) → unsigned_abs z < 2 ^ 64 → unsigned_abs z < 10 ^ 18 → whole_in (signed_decimal z) ≡ Some z
unfolding whole_in
whole_fits z fits few =
    let front = front_of z fits in
    rw (front.0, front.1, digits_fit 18 (unsigned_abs z) (omega arith) fits few) (ap Some (sym (signed_is z)))

pub whole_passes : (z : ℤ) → unsigned_abs z < 2 ^ 64 → 10 ^ 18 ≤ unsigned_abs z → whole_in (signed_decimal z) ≡ None
unfolding whole_in
whole_passes z fits great =
    let front = front_of z fits in
    rw (front.0, front.1, digits_pass 18 (unsigned_abs z) fits great)

pub port_fits : (n : ℕ) → n < 65536 → port_in (decimal n) ≡ Some n
unfolding port_in
port_fits n few = rw (digits_fit 5 n (omega arith) (omega arith) (omega arith), lt-ltb n 65536 few)

pub port_passes : (n : ℕ) → n < 2 ^ 64 → 65536 ≤ n → port_in (decimal n) ≡ None
unfolding port_in
port_passes n fits great = by_length n (nat_lt n (10 ^ 5)) refl fits great
  where
    by_length : (n : ℕ) (t : Bool) → nat_lt n (10 ^ 5) ≡ t → n < 2 ^ 64 → 65536 ≤ n → port_in (decimal n) ≡ None
    by_length n true e fits great = rw (digits_fit 5 n (omega arith) fits (ltb-true n (10 ^ 5) e), le-ltb n 65536 great)
    by_length n false e fits great = rw (digits_pass 5 n fits (ltb-false n (10 ^ 5) e))

-- ---- decimals

no_point : (ds : List ℕ) (i : ℕ) → AllDigits 10 ds → position_from (λ b. b == 46) i ds ≡ None
no_point [] i all = refl
no_point (d ∷ ds) i all = rw (ne_eqb d 46 (no_point_byte d all.0)) (no_point ds (i + 1) all.1)

no_point_in : (n : ℕ) → n < 2 ^ 64 → point_in (decimal n) ≡ None
no_point_in n fits = position_from-zero (λ b. b == 46) (decimal n) ∙ no_point (decimal n) 0 (numeral n fits).1

pub decimal_of_whole : (z : ℤ) → unsigned_abs z < 2 ^ 64 → unsigned_abs z < 10 ^ 12 → decimal_in (signed_decimal z) ≡ Some (signed (is_negative z) (unsigned_abs z * 1000000))
unfolding decimal_in millionths_in
decimal_of_whole z fits few =
    let front = front_of z fits in
    rw (front.0, front.1, no_point_in (unsigned_abs z) fits, digits_fit 12 (unsigned_abs z) (omega arith) fits few)

pub decimal_of_great_whole : (z : ℤ) → unsigned_abs z < 2 ^ 64 → 10 ^ 12 ≤ unsigned_abs z → decimal_in (signed_decimal z) ≡ None
unfolding decimal_in millionths_in
decimal_of_great_whole z fits great =
    let front = front_of z fits in
    rw (front.0, front.1, no_point_in (unsigned_abs z) fits, digits_pass 12 (unsigned_abs z) fits great)

pub decimal_fits : (z : ℤ) → unsigned_abs z < 10 ^ 18 → decimal_in (decimal_text z) ≡ Some z
decimal_fits z few = (decimal_form (decimal_text z)).complete z (decimal_reads_back z few)

long_front : (ds rest : List ℕ) → IsNumeral 10 rest → digits_in 12 ds ≡ None → millionths_in (Some (length ds)) (ds ++ 46 ∷ rest) ≡ None
unfolding millionths_in
long_front ds rest part none = rw (take-append_seam ds (46 ∷ rest), drop-append-add ds (46 ∷ rest) 1, none, (numeral_test rest).1 part)

none_written : (text digits : List ℕ) (i : ℕ) → behind_minus text ≡ digits → point_in digits ≡ Some i → millionths_in (Some i) digits ≡ None → decimal_in text ≡ None
unfolding decimal_in
none_written text digits i behind point none = rw (behind, point, none)

pub decimal_passes : (z : ℤ) → unsigned_abs z < 2 ^ 64 → 10 ^ 18 ≤ unsigned_abs z → decimal_in (decimal_text z) ≡ None
decimal_passes z fits great =
    let w = unsigned_abs z / 1000000 in
    let p = unsigned_abs z % 1000000 in
    let whole = numeral w (omega arith) in
    let first = numeral_first (decimal w) (46 ∷ part_text p) whole in
    none_written (decimal_text z) (decimal w ++ 46 ∷ part_text p) (length (decimal w))
    (behind_of (is_negative z) (decimal w ++ 46 ∷ part_text p) first.1)
    (point_behind (decimal w) (part_text p) whole.1)
    (long_front (decimal w) (part_text p) (part_numeral p (omega arith)) (digits_pass 12 w (omega arith) (omega arith)))
