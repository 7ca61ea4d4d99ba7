-- Whole numbers and decimals of texts, as functions.
use Rattle.std.proofs.Common.{◌≡◌, ◌↔◌, ℕ, ◌+◌, ◌*◌, ℤ, Bool, true, false, ◌&&◌, List, length, take, drop, Option, Some, None, nat_lt, nat_le, refl, sym, ap, ◌∙◌, subst, if◌then◌else◌}
use Rattle.std.proofs.lemmas.Bool.{lt-ltb, ltb-true, leb-true, and_parts, and_from}
use Rattle.std.specs.Str.{all_ascii_digits}
use Rattle.std.specs.Str.Parse.{IsNumeral, digits_value}
use Rattle.base_types.specs.Digits.{IsDigits, digits_in}
use Rattle.base_types.proofs.Numerals.{digits_in-some, digits_model}
use Rattle.scalar_text.specs.Number.{IsWholeText, whole_in, is_numeral, AreMillionths, millionths, millionths_in, IsDecimalText, decimal_in, behind_minus, has_minus, signed, point_in}
use Rattle.scalar_text.proofs.Forms.{IsFormOf, form_by, form_map, form_if, none_of}

sound_if : (most : ℕ) (text : List ℕ) (b : Bool) → (nat_lt 0 (length text) && nat_le (length text) most && all_ascii_digits text) ≡ b → (n : ℕ) → ◌≡◌ {A = Option ℕ} (if b then Some (digits_value 10 text) else None) (Some n) → IsDigits most text n
sound_if most text false test n h = absurd (cc)
sound_if most text true test n h =
    let lengths = (and_parts _ (all_ascii_digits text) test).0 in
    let digits = digits_model.to text (and_parts (nat_lt 0 (length text) && nat_le (length text) most) _ test).1 in
    let some = ltb-true 0 (length text) (and_parts _ _ lengths).0 in
    let few = leb-true (length text) most (and_parts (nat_lt 0 (length text)) _ lengths).1 in
    let same : digits_value 10 text ≡ n = cc in
    (((some, digits), same), few)

digits_sound : (most : ℕ) (text : List ℕ) (n : ℕ) → digits_in most text ≡ Some n → IsDigits most text n
unfolding digits_in
digits_sound most text n h = sound_if most text _ refl n h

pub digits_form : (most : ℕ) (text : List ℕ) → IsFormOf (IsDigits most text) (digits_in most text)
digits_form most text = record { sound = digits_sound most text; complete = digits_in-some most text }

-- whole numbers
pub whole_form : (text : List ℕ) → IsFormOf (IsWholeText text) (whole_in text)
unfolding whole_in
whole_form text = form_map (signed (has_minus text)) (IsDigits 18 (behind_minus text)) _ (digits_form 18 (behind_minus text))

-- the test of digits is exact
pub numeral_test : (text : List ℕ) → (is_numeral text ≡ true) ↔ IsNumeral 10 text
numeral_test text = (
  λ test. let parts = and_parts (nat_lt 0 (length text)) (all_ascii_digits text) test in (ltb-true 0 (length text) parts.0, digits_model.to text parts.1),
  λ numeral. and_from _ _ (lt-ltb 0 (length text) numeral.0) (digits_model.from text numeral.1),
)

pub whole_some : (text : List ℕ) (z : ℤ) → IsWholeText text z → Some z ≡ whole_in text
whole_some text z h = sym ((whole_form text).complete z h)

pub whole_parts : (text digits : List ℕ) (minus : Bool) (n : ℕ) (z : ℤ) → digits ≡ behind_minus text → minus ≡ has_minus text → IsDigits 18 digits n → z ≡ signed minus n → Some z ≡ whole_in text
whole_parts text digits minus n z front sign writes is =
    whole_some text z (n, subst (λ t. IsDigits 18 t n) front writes, is ∙ ap (λ b. signed b n) sign)

pub whole_none : (text : List ℕ) → ((z : ℤ) → ¬ (IsWholeText text z)) → None ≡ whole_in text
whole_none text none = sym (none_of (IsWholeText text) _ (whole_form text) none)

millionths_form : (at : Option ℕ) (text : List ℕ) → IsFormOf (AreMillionths at text) (millionths_in at text)
unfolding millionths_in
millionths_form None text = form_map (λ w. w * 1000000) (IsDigits 12 text) _ (digits_form 12 text)
millionths_form (Some i) text =
    let part = drop (i + 1) text in
    let whole = IsDigits 12 (take i text) in
    form_by {P = λ n. IsNumeral 10 part × ((w : ℕ) × whole w × (n ≡ w * 1000000 + millionths part))} _ (λ n h. (h.1.0, h.1.1, h.0, h.1.2)) (λ n h. (h.2, (h.0, h.1, h.3)))
    (form_if (IsNumeral 10 part) (λ n. (w : ℕ) × whole w × (n ≡ w * 1000000 + millionths part)) (is_numeral part) _ (numeral_test part)
    (form_map (λ w. w * 1000000 + millionths part) whole _ (digits_form 12 (take i text))))

-- decimals
pub decimal_form : (text : List ℕ) → IsFormOf (IsDecimalText text) (decimal_in text)
unfolding decimal_in
decimal_form text =
    let digits = behind_minus text in
    form_map (signed (has_minus text)) (AreMillionths (point_in digits) digits) _ (millionths_form (point_in digits) digits)

pub decimal_some : (text : List ℕ) (z : ℤ) → IsDecimalText text z → Some z ≡ decimal_in text
decimal_some text z h = sym ((decimal_form text).complete z h)

pub decimal_parts : (text digits : List ℕ) (minus : Bool) (n : ℕ) (z : ℤ) → digits ≡ behind_minus text → minus ≡ has_minus text → AreMillionths (point_in digits) digits n → z ≡ signed minus n → Some z ≡ decimal_in text
decimal_parts text digits minus n z front sign writes is =
    decimal_some text z (n, subst (λ t. AreMillionths (point_in t) t n) front writes, is ∙ ap (λ b. signed b n) sign)

pub decimal_none : (text : List ℕ) → ((z : ℤ) → ¬ (IsDecimalText text z)) → None ≡ decimal_in text
decimal_none text none = sym (none_of (IsDecimalText text) _ (decimal_form text) none)
