-- A canonical text of a decimal is the one that is printed.
use Rattle.std.proofs.Common.{◌++◌, ◌≡◌, ◌≢◌, ⊎_elim, ℕ, zero, suc, ◌+◌, ◌-◌, ◌*◌, ◌/◌, ◌%◌, ◌^◌, ◌<◌, ◌≤◌, Bool, true, false, if◌then◌else◌, ℤ, unsigned_abs, List, [], ◌∷◌, length, Some, None, decimal, slice_index, refl, sym, ap, ◌∙◌, subst, arith}
use Rattle.std.proofs.Math.Nat.{pow-succ'}
use Rattle.std.proofs.lemmas.Bool.{ne_eqb, le-ltb}
use Rattle.std.proofs.lemmas.Int.Digits.{digits_value-lt}
use Rattle.std.proofs.lemmas.List.{take_all}
use Rattle.std.proofs.lemmas.Option.{none-some}
use Rattle.std.proofs.lemmas.Str.Parse.{digit_from_value}
use Rattle.std.proofs.lemmas.Fmt.{decimal_digit, decimal-digits_value}
use Rattle.std.specs.Int.{is_negative}
use Rattle.std.specs.Char.{digit_value}
use Rattle.std.specs.List.{last_or}
use Rattle.std.specs.Str.Parse.{AllDigits, IsNumeral, digits_value, digits_value_after}
use Rattle.scalar_text.specs.Number.{signed, behind_minus, point_in, AreMillionths, IsDecimalText, millionths, first_digit, behind_first, digits_until_zero, part_text, decimal_text, IsCanonicalDecimal}
use Rattle.std.proofs.Math.Seq.{take-append_seam}
use Rattle.std.proofs.Math.Nat.{pow-le-pow_right}
use Rattle.base_types.specs.Digits.{IsDigits}
use Rattle.scalar_text.proofs.PrintedDecimals.{numeral_first, point_behind, decimal_reads_back, same_decimal}
use Rattle.base_types.proofs.Numerals.{digits_model}
use Rattle.scalar_text.proofs.CanonicalDecimals.{HasOther, until_nothing}

spread : (n v power more rest front back : ℕ) → more ≡ 10 * power → front ≡ (n * 10 + v) * power + rest → back ≡ (0 + v) * power + rest → front ≡ n * more + back
spread n v power more rest front back m f b = rw (m, f, b) (omega arith)

after_split : (n : ℕ) (ds : List ℕ) → digits_value_after 10 n ds ≡ n * 10 ^ length ds + digits_value 10 ds
after_split n [] = omega arith
after_split n (d ∷ ds) = spread n (digit_value d) (10 ^ length ds) (10 ^ suc (length ds)) (digits_value 10 ds) _ _ (pow-succ' 10 (length ds)) (after_split (n * 10 + digit_value d) ds) (after_split (0 + digit_value d) ds)

-- one digit in front of fewer than six, as millionths
scaled : (v rest len : ℕ) → len ≤ 5 → rest < 10 ^ len → ((v * 10 ^ len + rest) * 10 ^ (6 - suc len) ≡ v * 100000 + rest * 10 ^ (5 - len)) × (rest * 10 ^ (5 - len) < 100000) × (rest * 10 ^ (6 - len) ≡ rest * 10 ^ (5 - len) * 10)
scaled v rest zero few below = (omega arith, omega arith, omega arith)
scaled v rest (suc zero) few below = (omega arith, omega arith, omega arith)
scaled v rest (suc (suc zero)) few below = (omega arith, omega arith, omega arith)
scaled v rest (suc (suc (suc zero))) few below = (omega arith, omega arith, omega arith)
scaled v rest (suc (suc (suc (suc zero)))) few below = (omega arith, omega arith, omega arith)
scaled v rest (suc (suc (suc (suc (suc zero))))) few below = (omega arith, omega arith, omega arith)
scaled v rest (suc (suc (suc (suc (suc (suc len)))))) few below = absurd (omega arith)

digit_of : (d : ℕ) → digit_value d < 10 → d ≡ 48 + digit_value d
digit_of d h = let range = digit_from_value d h in grind (arith, range)

digits_part : (d : ℕ) (ds : List ℕ) → digit_value d < 10 → AllDigits 10 ds → length ds ≤ 5 →
    let n = digits_value 10 (d ∷ ds) * 10 ^ (6 - suc (length ds)) in
    (first_digit n ≡ d) × (behind_first n ≡ digits_value 10 ds * 10 ^ (6 - length ds)) × (n < 1000000)
digits_part d ds digit all few =
    let scale = scaled (digit_value d) (digits_value 10 ds) (length ds) few (digits_value-lt 10 ds all) in
    let value : digits_value 10 (d ∷ ds) ≡ digit_value d * 10 ^ length ds + digits_value 10 ds = after_split (0 * 10 + digit_value d) ds ∙ ap (λ v. v * 10 ^ length ds + digits_value 10 ds) (omega arith) in
    let n = ap (λ v. v * 10 ^ (6 - suc (length ds))) value ∙ scale.0 in
    let is = digit_of d digit in
    (omega (arith, n, scale.1, is), omega (arith, n, scale.1, scale.2), omega (arith, n, scale.1, digit))

one_digit : (k n d : ℕ) (ds : List ℕ) → n ≢ 0 → first_digit n ≡ d → digits_until_zero k (behind_first n) ≡ ds → digits_until_zero (suc k) n ≡ d ∷ ds
one_digit k n d ds more first rest = rw (ne_eqb n 0 more, first) (ap (λ r. d ∷ r) rest)

ends_rest : (d : ℕ) (ds : List ℕ) → last_or None (d ∷ ds) ≢ Some 48 → last_or None ds ≢ Some 48
ends_rest d [] ends = λ e. none-some 48 e
ends_rest d (x ∷ xs) ends = ends

ends_with_zero : (d : ℕ) (ds : List ℕ) → d ≡ 48 → ds ≡ [] → last_or None (d ∷ ds) ≡ Some 48
ends_with_zero d ds is none = rw (none, is) refl

-- digits that don't end with a `0` are all that is written of their value
until_only : (k : ℕ) (ds : List ℕ) → AllDigits 10 ds → length ds ≤ k → k ≤ 5 → last_or None ds ≢ Some 48 → digits_until_zero k (digits_value 10 ds * 10 ^ (6 - length ds)) ≡ ds
until_only k [] all short few ends = ap (digits_until_zero k) (omega arith) ∙ until_nothing k
until_only zero (d ∷ ds) all short few ends = absurd (omega (arith, short))
until_only (suc k) (d ∷ ds) all short few ends =
    let n = digits_value 10 (d ∷ ds) * 10 ^ (6 - suc (length ds)) in
    let parts = digits_part d ds all.0 all.1 (omega (arith, short, few)) in
    let rest = ap (digits_until_zero k) parts.1 ∙ until_only k ds all.1 (omega (arith, short)) (omega (arith, few)) (ends_rest d ds ends) in
    one_digit k n d ds
    (λ e. absurd (ends (ends_with_zero d ds (omega (arith, parts.0, e)) (sym rest ∙ ap (λ m. digits_until_zero k (behind_first m)) e ∙ until_nothing k))))
    parts.0 rest

rest_only : (d : ℕ) (ds : List ℕ) → AllDigits 10 ds → length ds ≤ 5 → (last_or None (d ∷ ds) ≡ Some 48 → length (d ∷ ds) ≡ 1) → digits_until_zero 5 (digits_value 10 ds * 10 ^ (6 - length ds)) ≡ ds
rest_only d [] all short alone = until_nothing 5
rest_only d (x ∷ xs) all short alone = until_only 5 (x ∷ xs) all short (omega arith) (λ e. let one = alone e in absurd (omega (arith, one)))

pub part_only : (part : List ℕ) → IsNumeral 10 part → length part ≤ 6 → (last_or None part ≡ Some 48 → length part ≡ 1) → (millionths part < 1000000) × (part_text (millionths part) ≡ part)
part_only [] digits short alone = absurd (omega (arith, digits.0))
part_only (d ∷ ds) digits short alone =
    let parts = digits_part d ds digits.1.0 digits.1.1 (omega (arith, short)) in
    let value : millionths (d ∷ ds) ≡ digits_value 10 (d ∷ ds) * 10 ^ (6 - suc (length ds)) = ap (λ front. digits_value 10 front * 10 ^ (6 - length front)) (take_all 6 (d ∷ ds) short) in (
      subst (λ n. n < 1000000) (sym value) parts.2,
      ap part_text value ∙ ap (λ b. b ∷ digits_until_zero 5 (behind_first (digits_value 10 (d ∷ ds) * 10 ^ (6 - suc (length ds))))) parts.0 ∙ ap (λ m. d ∷ digits_until_zero 5 m) parts.1 ∙ ap (λ r. d ∷ r) (rest_only d ds digits.1.1 (omega (arith, short)) alone),
    )

pub whole_only : (whole : List ℕ) → IsNumeral 10 whole → (slice_index whole 0 ≡ 48 → length whole ≡ 1) → digits_value 10 whole < 2 ^ 64 → decimal (digits_value 10 whole) ≡ whole
whole_only whole digits alone fits = decimal-digits_value digits_model whole (digits_model.from whole digits.1) digits.0 alone fits

-- a text with a digit that isn't `0` writes no zero
two_zeros : HasOther (48 ∷ 48 ∷ []) → ⊥
two_zeros (zero, b, at, is, other) = other (sym is)
two_zeros (suc zero, b, at, is, other) = other (sym is)
two_zeros (suc (suc k), b, at, is, other) = absurd (omega (arith, at))

amount_more : (whole part : List ℕ) (w p : ℕ) → decimal w ≡ whole → part_text p ≡ part → HasOther (whole ++ part) → 0 < w * 1000000 + p
amount_more whole part zero zero is_whole is_part has = absurd (two_zeros (subst HasOther (ap (λ ds. ds ++ part) (sym is_whole ∙ decimal_digit 0 (omega arith)) ∙ ap (λ ds. 48 ∷ ds) (sym is_part)) has))
amount_more whole part zero (suc p) is_whole is_part has = omega arith
amount_more whole part (suc w) p is_whole is_part has = omega arith

signed_parts : (negative : Bool) (n : ℕ) → (negative ≡ true → 0 < n) → (is_negative (signed negative n) ≡ negative) × (unsigned_abs (signed negative n) ≡ n)
signed_parts false n more = (le-ltb n 0 (omega arith), refl)
signed_parts true zero more = absurd (omega (arith, more refl))
signed_parts true (suc n) more = (refl, refl)

pub text_of : (negative : Bool) (w p : ℕ) (text : List ℕ) → p < 1000000 → (negative ≡ true → 0 < w * 1000000 + p) → text ≡ (if negative then 45 ∷ (decimal w ++ 46 ∷ part_text p) else decimal w ++ 46 ∷ part_text p) → text ≡ decimal_text (signed negative (w * 1000000 + p))
text_of negative w p text below more is =
    let parts = signed_parts negative (w * 1000000 + p) more in
    let front : (w * 1000000 + p) / 1000000 ≡ w = omega (arith, below) in
    let back : (w * 1000000 + p) % 1000000 ≡ p = omega (arith, below) in
    rw (parts.0, parts.1, front, back) is

printed_parts : (text : List ℕ) (c : IsCanonicalDecimal text) → digits_value 10 c.whole < 2 ^ 64 → (negative : Bool) × (text ≡ decimal_text (signed negative (digits_value 10 c.whole * 1000000 + millionths c.part)))
printed_parts text c fits =
    let w = digits_value 10 c.whole in
    let p = millionths c.part in
    let whole = whole_only c.whole c.whole_digits c.whole_shortest fits in
    let part = part_only c.part c.part_digits.0 c.part_digits.1 c.part_shortest in
    let digits : c.whole ++ 46 ∷ c.part ≡ decimal w ++ 46 ∷ part_text p = ap (λ ds. ds ++ 46 ∷ c.part) (sym whole) ∙ ap (λ ds. decimal w ++ 46 ∷ ds) (sym part.1) in
    ⊎_elim
    (λ none. (false, text_of false w p text part.0 (λ e. absurd (cc)) (c.spelled ∙ ap (λ s. s ++ c.whole ++ 46 ∷ c.part) none ∙ digits)))
    (λ minus. (true, text_of true w p text part.0 (λ _. amount_more c.whole c.part w p whole part.1 minus.1) (c.spelled ∙ ap (λ s. s ++ c.whole ++ 46 ∷ c.part) minus.0 ∙ ap (λ ds. 45 ∷ ds) digits)))
    c.minus

behind_sign : (text : List ℕ) (c : IsCanonicalDecimal text) → behind_minus text ≡ c.whole ++ 46 ∷ c.part
behind_sign text c = ⊎_elim
    (λ none. ap behind_minus (c.spelled ∙ ap (λ s. s ++ c.whole ++ 46 ∷ c.part) none) ∙ (numeral_first c.whole (46 ∷ c.part) c.whole_digits).1)
    (λ minus. ap behind_minus (c.spelled ∙ ap (λ s. s ++ c.whole ++ 46 ∷ c.part) minus.0))
    c.minus

whole_written : (text whole rest : List ℕ) (z : ℤ) → IsDecimalText text z → behind_minus text ≡ whole ++ 46 ∷ rest → IsNumeral 10 whole → length whole ≤ 12
whole_written text whole rest z (n, are, _) behind digits =
    let there = subst (λ t. AreMillionths (point_in t) t n) behind are in
    let (w, is, _, _) = subst (λ at. AreMillionths at (whole ++ 46 ∷ rest) n) (point_behind whole rest digits.1) there in
    (subst (λ ds. IsDigits 12 ds w) (take-append_seam whole (46 ∷ rest)) is).1

pub fits_twelve : (whole : List ℕ) → IsNumeral 10 whole → length whole ≤ 12 → digits_value 10 whole < 10 ^ 12
fits_twelve whole digits few =
    let below = digits_value-lt 10 whole digits.1 in
    let ten : 0 < 10 = omega arith in
    let power : 10 ^ length whole ≤ 10 ^ 12 = pow-le-pow_right ten few in
    omega (arith, below, power)

pub signed_size : (negative : Bool) (n : ℕ) → unsigned_abs (signed negative n) ≡ n
signed_size false n = refl
signed_size true zero = refl
signed_size true (suc n) = refl

-- a canonical text is the one that is printed of what it writes
pub canonical_is_printed : (text : List ℕ) (z : ℤ) → IsCanonicalDecimal text → IsDecimalText text z → text ≡ decimal_text z
canonical_is_printed text z c writes =
    let below = fits_twelve c.whole c.whole_digits (whole_written text c.whole c.part z writes (behind_sign text c) c.whole_digits) in
    let part = part_only c.part c.part_digits.0 c.part_digits.1 c.part_shortest in
    let (negative, printed) = printed_parts text c (omega (arith, below)) in
    let number = signed negative (digits_value 10 c.whole * 1000000 + millionths c.part) in
    let size = signed_size negative (digits_value 10 c.whole * 1000000 + millionths c.part) in
    let again = subst (λ t. IsDecimalText t number) (sym printed) (decimal_reads_back number (omega (arith, size, below, part.0))) in
    printed ∙ ap decimal_text (same_decimal text number z again writes)
