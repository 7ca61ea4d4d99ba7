-- Numbers that stand as they are printed.
use Rattle.std.proofs.Common.{◌≡◌, ◌↔◌, ◌<◌, ◌≤◌, ◌+◌, ◌-◌, ◌*◌, ◌^◌, ◌/◌, ◌%◌, ◌==◌, ◌&&◌, ◌++◌, ℕ, zero, suc, ℤ, Bool, true, false, IsTrue, not, nat_le, if◌then◌else◌, unsigned_abs, decimal, List, [], ◌∷◌, length, take, drop, get_or, slice_index, Some, None, inl, inr, refl, sym, ap, ap₂, ◌∙◌, subst, arith}
use Rattle.std.specs.Fmt.{signed_decimal}
use Rattle.std.specs.Int.{is_negative}
use Rattle.std.specs.List.{last_or}
use Rattle.std.specs.Str.Parse.{IsNumeral, digits_value}
use Rattle.std.proofs.Math.Seq.{take-append_seam, drop-append-add}
use Rattle.std.proofs.lemmas.Bool.{and_parts, and_from, cases_eq, eqb-true, eq-eqb, leb-true, le-leb, ne_eqb, not-true, or_cases, or_left, or_right}
use Rattle.std.proofs.lemmas.Fmt.{decimal_is_IsNumeral}
use Rattle.std.proofs.lemmas.List.{drop_more, take-append-drop}
use Rattle.std.proofs.lemmas.List.Quantifiers.{position-Some}
use Rattle.std.proofs.lemmas.Option.{same_Some}
use Rattle.scalar_text.specs.Number.{has_minus, behind_minus, point_in, signed, millionths, AreMillionths, decimal_in, decimal_text, whole_in, part_text, behind_first, is_shortest_whole, is_shortest_part}
use Rattle.scalar_text.proofs.NumberForms.{decimal_form, whole_form}
use Rattle.scalar_text.proofs.CanonicalDecimals.{part_alone, text_parts, whole_alone}
use Rattle.scalar_text.proofs.CanonicalOnly.{fits_twelve, part_only, signed_size, text_of, whole_only}
use Rattle.scalar_text.proofs.PrintedDecimals.{part_numeral, point_behind, until_short}
use Rattle.scalar_text.proofs.PrintedNumbers.{front_of}

-- ---- what stands as it is printed

-- the digits, behind the sign if there is one
signed_text : (text : List ℕ) → text ≡ (if has_minus text then 45 ∷ behind_minus text else behind_minus text)
signed_text [] = refl
signed_text (b ∷ bs) = by_sign (b == 45) refl
  where
    by_sign : (t : Bool) → (b == 45) ≡ t → b ∷ bs ≡ (if t then 45 ∷ (if t then bs else b ∷ bs) else (if t then bs else b ∷ bs))
    by_sign true e = ap (λ c. c ∷ bs) (eqb-true b 45 e)
    by_sign false e = refl

at_point : (digits : List ℕ) (i : ℕ) → point_in digits ≡ Some i → digits ≡ take i digits ++ 46 ∷ drop (i + 1) digits
at_point digits i point =
    let at = position-Some (λ b. b == 46) digits i 0 point in
    sym (take-append-drop i digits) ∙ ap (λ x. take i digits ++ x) (drop_more digits i 0 at.0 ∙ ap (λ b. b ∷ drop (i + 1) digits) (eqb-true (get_or digits i 0) 46 at.1))

-- a number below zero isn't zero
negative_amount : (b : Bool) (m : ℕ) (z : ℤ) → z ≡ signed b m → b ≡ is_negative z → b ≡ true → 0 < m
negative_amount true zero z is sign e = absurd (cc (sign, ap is_negative is))
negative_amount true (suc m) z is sign e = omega arith
negative_amount false m z is sign e = absurd (cc e)

whole_short : (ds : List ℕ) → is_shortest_whole ds ≡ true → IsNumeral 10 ds → slice_index ds 0 ≡ 48 → length ds ≡ 1
whole_short ds short digits first =
    elim (or_cases (nat_le (length ds) 1) (not (slice_index ds 0 == 48)) short) [
      | inl few ↦ omega (arith, leb-true (length ds) 1 few, digits.0)
      | inr other ↦ absurd (cc (eq-eqb (slice_index ds 0) 48 first, not-true (slice_index ds 0 == 48) other))
    ]

last_from : (d : ℕ) (ds : List ℕ) → last_or (Some d) ds ≡ Some (get_or (d ∷ ds) (length ds) 0)
last_from d [] = refl
last_from d (x ∷ xs) = last_from x xs

last_is : (ds : List ℕ) → 0 < length ds → last_or None ds ≡ Some (get_or ds (length ds - 1) 0)
last_is [] some = absurd (omega (arith, some))
last_is (d ∷ ds) some =
    let end : length ds ≡ suc (length ds) - 1 = omega arith in
    last_from d ds ∙ ap (λ k. Some (get_or (d ∷ ds) k 0)) end

part_few : (ds : List ℕ) → is_shortest_part ds ≡ true → length ds ≤ 6
part_few ds short =
    elim (or_cases (nat_le (length ds) 1) (nat_le (length ds) 6 && not (slice_index ds (length ds - 1) == 48)) short) [
      | inl few ↦ omega (arith, leb-true (length ds) 1 few)
      | inr more ↦ leb-true (length ds) 6 (and_parts (nat_le (length ds) 6) (not (slice_index ds (length ds - 1) == 48)) more).0
    ]

part_short : (ds : List ℕ) → is_shortest_part ds ≡ true → IsNumeral 10 ds → last_or None ds ≡ Some 48 → length ds ≡ 1
part_short ds short digits last =
    let end : slice_index ds (length ds - 1) ≡ 48 = same_Some (get_or ds (length ds - 1) 0) 48 (sym (last_is ds digits.0) ∙ last) in
    elim (or_cases (nat_le (length ds) 1) (nat_le (length ds) 6 && not (slice_index ds (length ds - 1) == 48)) short) [
      | inl few ↦ omega (arith, leb-true (length ds) 1 few, digits.0)
      | inr more ↦ absurd (cc (eq-eqb (slice_index ds (length ds - 1)) 48 end, not-true (slice_index ds (length ds - 1) == 48) (and_parts (nat_le (length ds) 6) (not (slice_index ds (length ds - 1) == 48)) more).1))
    ]

-- the text has its point at this place, a minus exactly where the number is negative, and no needless zero
pub record Stands (text : List ℕ) (z : ℤ) (i : ℕ) : Type 0 where
  pub point : point_in (behind_minus text) ≡ Some i
  pub sign : has_minus text ≡ is_negative z
  pub whole : is_shortest_whole (take i (behind_minus text)) ≡ true
  pub part : is_shortest_part (drop (i + 1) (behind_minus text)) ≡ true

pub printed : (text : List ℕ) (z : ℤ) (i : ℕ) → decimal_in text ≡ Some z → Stands text z i → text ≡ decimal_text z
printed text z i reads stands =
    let ds = behind_minus text in
    let (m, are, is) = (decimal_form text).sound z reads in
    let (w, digits, numeral, sum) = subst (λ at. AreMillionths at ds m) stands.point are in
    let whole = whole_only (take i ds) digits.0.0 (whole_short (take i ds) stands.whole digits.0.0) (omega (arith, fits_twelve (take i ds) digits.0.0 digits.1)) in
    let part = part_only (drop (i + 1) ds) numeral (part_few (drop (i + 1) ds) stands.part) (part_short (drop (i + 1) ds) stands.part numeral) in
    let p = millionths (drop (i + 1) ds) in
    let whole_is : take i ds ≡ decimal w = sym whole ∙ ap decimal digits.0.1 in
    let number : z ≡ signed (has_minus text) (w * 1000000 + p) = is ∙ ap (signed (has_minus text)) sum in
    let spelled = at_point ds i stands.point ∙ ap₂ (λ a b. a ++ 46 ∷ b) whole_is (sym part.1) in
    text_of (has_minus text) w p text part.0 (negative_amount (has_minus text) (w * 1000000 + p) z number stands.sign)
    (signed_text text ∙ ap (λ t. if has_minus text then 45 ∷ t else t) spelled)
    ∙ ap decimal_text (sym number)

-- ---- what is printed stands so

short_whole : (ds : List ℕ) → (slice_index ds 0 ≡ 48 → length ds ≡ 1) → is_shortest_whole ds ≡ true
short_whole ds alone =
    elim (cases_eq (slice_index ds 0) 48) [
      | inl zero_first ↦ or_left (nat_le (length ds) 1) (not (slice_index ds 0 == 48)) (le-leb (length ds) 1 (omega (arith, alone zero_first)))
      | inr other ↦ or_right (nat_le (length ds) 1) (not (slice_index ds 0 == 48)) (ap not (ne_eqb (slice_index ds 0) 48 other))
    ]

short_part : (ds : List ℕ) → 0 < length ds → length ds ≤ 6 → (last_or None ds ≡ Some 48 → length ds ≡ 1) → is_shortest_part ds ≡ true
short_part ds some few alone =
    let last = slice_index ds (length ds - 1) in
    elim (cases_eq last 48) [
      | inl zero_last ↦ or_left (nat_le (length ds) 1) (nat_le (length ds) 6 && not (last == 48)) (le-leb (length ds) 1 (omega (arith, alone (last_is ds some ∙ ap (λ b. Some b) zero_last))))
      | inr other ↦ or_right (nat_le (length ds) 1) (nat_le (length ds) 6 && not (last == 48)) (and_from _ _ (le-leb (length ds) 6 few) (ap not (ne_eqb last 48 other)))
    ]

pub stands : (text : List ℕ) (z : ℤ) → unsigned_abs z < 2 ^ 64 → text ≡ decimal_text z → (i : ℕ) × Stands text z i
stands text z fits is =
    let w = unsigned_abs z / 1000000 in
    let p = unsigned_abs z % 1000000 in
    let parts = text_parts z fits in
    let digits = (decimal_is_IsNumeral w (omega (arith, fits))).0 in
    let behind : behind_minus text ≡ decimal w ++ 46 ∷ part_text p = ap behind_minus is ∙ parts.1 in
    let few = until_short 5 (behind_first p) in
    let whole = short_whole (decimal w) (whole_alone w (omega (arith, fits))) in
    let part = short_part (part_text p) (part_numeral p (omega arith)).0 (omega (arith, few)) (part_alone p (omega arith)) in (
      length (decimal w),
      record {
        point = ap point_in behind ∙ point_behind (decimal w) (part_text p) digits.1;
        sign = ap has_minus is ∙ parts.0;
        whole = ap (λ t. is_shortest_whole (take (length (decimal w)) t)) behind ∙ ap is_shortest_whole (take-append_seam (decimal w) (46 ∷ part_text p)) ∙ whole;
        part = ap (λ t. is_shortest_part (drop (length (decimal w) + 1) t)) behind ∙ ap is_shortest_part (drop-append-add (decimal w) (46 ∷ part_text p) 1) ∙ part;
      },
    )

-- where the sign is that of the number, the digits on both sides of the point tell
pub exact : (text : List ℕ) (z : ℤ) (i : ℕ) → decimal_in text ≡ Some z → unsigned_abs z < 2 ^ 64 → point_in (behind_minus text) ≡ Some i → has_minus text ≡ is_negative z
    → IsTrue (is_shortest_whole (take i (behind_minus text)) && is_shortest_part (drop (i + 1) (behind_minus text))) ↔ text ≡ decimal_text z
exact text z i reads fits point sign =
    let ds = behind_minus text in (
      λ sides. let both = and_parts (is_shortest_whole (take i ds)) (is_shortest_part (drop (i + 1) ds)) sides in printed text z i reads (record { point = point; sign = sign; whole = both.0; part = both.1 }),
      λ is.
          let (j, there) = stands text z fits is in
          let same : j ≡ i = same_Some j i (sym there.point ∙ point) in
          subst (λ k. (is_shortest_whole (take k ds) && is_shortest_part (drop (k + 1) ds)) ≡ true) same (and_from _ _ there.whole there.part),
    )

-- ---- whole numbers

printed_whole : (text : List ℕ) (z : ℤ) → whole_in text ≡ Some z → unsigned_abs z < 2 ^ 64 → has_minus text ≡ is_negative z → is_shortest_whole (behind_minus text) ≡ true → text ≡ signed_decimal z
printed_whole text z reads fits sign short =
    let ds = behind_minus text in
    let (n, digits, is) = (whole_form text).sound z reads in
    let amount : unsigned_abs z ≡ digits_value 10 ds = ap unsigned_abs is ∙ signed_size (has_minus text) n ∙ sym digits.0.1 in
    let whole = whole_only ds digits.0.0 (whole_short ds short digits.0.0) (omega (arith, amount, fits)) in
    let front = front_of z fits in
    let same : behind_minus (signed_decimal z) ≡ ds = front.1 ∙ ap decimal amount ∙ whole in
    signed_text text ∙ ap₂ (λ b t. if b then 45 ∷ t else t) (sign ∙ sym front.0) (sym same) ∙ sym (signed_text (signed_decimal z))

pub exact_whole : (text : List ℕ) (z : ℤ) → whole_in text ≡ Some z → unsigned_abs z < 2 ^ 64 → has_minus text ≡ is_negative z → IsTrue (is_shortest_whole (behind_minus text)) ↔ text ≡ signed_decimal z
exact_whole text z reads fits sign = (
  λ short. printed_whole text z reads fits sign short,
  λ is. ap (λ t. is_shortest_whole (behind_minus t)) is ∙ ap is_shortest_whole (front_of z fits).1 ∙ short_whole (decimal (unsigned_abs z)) (whole_alone (unsigned_abs z) fits),
)
