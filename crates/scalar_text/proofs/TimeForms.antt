-- Times of texts, as functions.
use Rattle.std.proofs.Common.{◌≡◌, ◌↔◌, ℕ, suc, ◌+◌, ◌*◌, ◌<◌, ◌≤◌, ◌==◌, ℤ, pos, negsuc, neg_ℤ, ◌+ℤ◌, ◌-ℤ◌, ◌*ℤ◌, inl, inr, Bool, true, false, ◌&&◌, ◌||◌, List, [], ◌∷◌, length, take, drop, Some, None, option_map, nat_le, refl, sym, ap, ◌∙◌, subst, arith, if◌then◌else◌}
use Rattle.std.specs.Char.{digit_value}
use Rattle.std.proofs.lemmas.Str.{digit_value_digit}
use Rattle.std.proofs.lemmas.Str.Parse.{digit_from_value}
use Rattle.std.specs.Str.{bytes_eq}
use Rattle.std.specs.Str.Parse.{AllDigits}
use Rattle.std.specs.Int.{is_in_range}
use Rattle.std.proofs.lemmas.Bool.{false≢true, le-leb, leb-true, and_parts, and_from, eqb-true}
use Rattle.std.proofs.lemmas.Bool.Decides.{Decides-eqb}
use Rattle.std.proofs.lemmas.Slice.Eq.{bytes_eq-Decides}
use Rattle.jiff_core.specs.Calendar.{IsDate, days_from_civil, days_in_month}
use Rattle.jiff_core.proofs.SignedLemmas.{signed_arith}
use Rattle.base_types.specs.Digits.{IsDigits}
use Rattle.scalar_text.specs.Quote.{is_digit}
use Rattle.scalar_text.specs.Time.{IsExactly, exactly_in, IsTwoDigits, two_in, part, IsDayOf, is_date, day_in, IsFullDate, date_in, IsClock, clock_in, IsSeparator, is_separator, behind_colon, IsShift, shift_in, IsOffset, offset_in, IsNoDigitAhead, digits_ahead, IsFractionTail, fraction_tail_in, IsTail, tail_in, seconds_in, IsTimeText, time_in}
use Rattle.scalar_text.proofs.Forms.{IsFormOf, form_by, form_map, form_then, form_if, form_some, none_of}
use Rattle.scalar_text.proofs.NumberForms.{digits_form}
use Rattle.scalar_text.proofs.Times.{tail_at, tail_of, no_point, point_then}

exactly_form : (len : ℕ) (text : List ℕ) → IsFormOf (IsExactly len text) (exactly_in len text)
exactly_form len text =
    form_by {P = λ n. (length text ≡ len) × IsDigits len text n} _ (λ n h. (h.1.0, h.0)) (λ n h. (h.1, (h.0, omega (arith, h.1))))
    (form_if (length text ≡ len) (IsDigits len text) (length text == len) _ (Decides-eqb (length text) len) (digits_form len text))

le_test : (n most : ℕ) → (nat_le n most ≡ true) ↔ (n ≤ most)
le_test n most = (leb-true n most, le-leb n most)

two_form : (most : ℕ) (text : List ℕ) → IsFormOf (IsTwoDigits most text) (two_in most text)
two_form most text =
    form_by {P = λ w. (v : ℕ) × IsExactly 2 text v × ((v ≤ most) × (w ≡ v))} _
    (λ w h. (subst (IsExactly 2 text) (sym h.2.1) h.1, omega (arith, h.2.0, h.2.1))) (λ w h. (w, h.0, (h.1, refl)))
    (form_then (λ n. if nat_le n most then Some n else None) (IsExactly 2 text) (λ v w. (v ≤ most) × (w ≡ v)) _ (exactly_form 2 text)
    (λ v h. form_if (v ≤ most) (λ w. w ≡ v) (nat_le v most) (Some v) (le_test v most) (form_some v)))

range_test : (low high n : ℕ) → (is_in_range low high n ≡ true) → (low ≤ n) × (n ≤ high)
range_test low high n h = let parts = and_parts (nat_le low n) (nat_le n high) h in (leb-true low n parts.0, leb-true n high parts.1)

in_range_from : (low high n : ℕ) → low ≤ n → n ≤ high → is_in_range low high n ≡ true
in_range_from low high n above below = and_from _ _ (le-leb low n above) (le-leb n high below)

date_test_to : (year month mday : ℕ) → is_date year month mday ≡ true → (1 ≤ year) × IsDate (pos year) (pos month) (pos mday)
date_test_to year month mday h =
    let both = and_parts (is_in_range 1 9999 year && is_in_range 1 12 month) (is_in_range 1 (days_in_month (pos year) month) mday) h in
    let front = and_parts (is_in_range 1 9999 year) (is_in_range 1 12 month) both.0 in
    let y = range_test 1 9999 year front.0 in
    let m = range_test 1 12 month front.1 in
    let d = range_test 1 (days_in_month (pos year) month) mday both.1 in
    (y.0, ((omega (arith, signed_arith, y.0), omega (arith, signed_arith, y.1)), (omega (arith, signed_arith, m.0), omega (arith, signed_arith, m.1)), (omega (arith, signed_arith, d.0), omega (arith, signed_arith, d.1))))

date_test_from : (year month mday : ℕ) → (1 ≤ year) × IsDate (pos year) (pos month) (pos mday) → is_date year month mday ≡ true
date_test_from year month mday (some, (y, m, d)) =
    and_from _ _ (and_from _ _ (in_range_from 1 9999 year some (omega (arith, signed_arith, y.1))) (in_range_from 1 12 month (omega (arith, signed_arith, m.0)) (omega (arith, signed_arith, m.1))))
    (in_range_from 1 (days_in_month (pos year) month) mday (omega (arith, signed_arith, d.0)) (omega (arith, signed_arith, d.1)))

day_form : (year month mday : ℕ) → IsFormOf (IsDayOf year month mday) (day_in year month mday)
day_form year month mday =
    let day = days_from_civil (pos year) month mday -ℤ days_from_civil (pos 1) 1 1 in
    form_by {P = λ d. ((1 ≤ year) × IsDate (pos year) (pos month) (pos mday)) × (d ≡ day)} _ (λ d h. (h.0.0, h.0.1, h.1)) (λ d h. ((h.0, h.1), h.2))
    (form_if ((1 ≤ year) × IsDate (pos year) (pos month) (pos mday)) (λ d. d ≡ day) (is_date year month mday) (Some day) (date_test_to year month mday, date_test_from year month mday) (form_some day))

two_tests : (a b c d : List ℕ) → ((bytes_eq a b && bytes_eq c d) ≡ true) ↔ ((a ≡ b) × (c ≡ d))
two_tests a b c d = (
  λ h. let parts = and_parts (bytes_eq a b) (bytes_eq c d) h in ((bytes_eq-Decides a b).0 parts.0, (bytes_eq-Decides c d).0 parts.1),
  λ h. and_from _ _ ((bytes_eq-Decides a b).1 h.0) ((bytes_eq-Decides c d).1 h.1),
)

date_form : (text : List ℕ) → IsFormOf (IsFullDate text) (date_in text)
date_form text =
    let Hyphens = (part 4 1 text ≡ 45 ∷ []) × (part 7 1 text ≡ 45 ∷ []) in
    let Mday = λ (year month : ℕ) (day : ℤ). (mday : ℕ) × IsExactly 2 (drop 8 text) mday × IsDayOf year month mday day in
    let Month = λ (year : ℕ) (day : ℤ). (month : ℕ) × IsExactly 2 (part 5 2 text) month × Mday year month day in
    let Year = λ (day : ℤ). (year : ℕ) × IsExactly 4 (part 0 4 text) year × Month year day in
    form_by {P = λ day. Hyphens × Year day} _
    (λ day (hyphens, (year, y, (month, m, (mday, d, is)))). (year, month, mday, y, hyphens.0, m, hyphens.1, d, is))
    (λ day (year, month, mday, y, first, m, second, d, is). ((first, second), (year, y, (month, m, (mday, d, is)))))
    (form_if Hyphens Year _ _ (two_tests (part 4 1 text) (45 ∷ []) (part 7 1 text) (45 ∷ []))
    (form_then _ (IsExactly 4 (part 0 4 text)) Month _ (exactly_form 4 (part 0 4 text))
    (λ year y. form_then _ (IsExactly 2 (part 5 2 text)) (Mday year) _ (exactly_form 2 (part 5 2 text))
    (λ month m. form_then _ (IsExactly 2 (drop 8 text)) (IsDayOf year month) _ (exactly_form 2 (drop 8 text)) (λ mday d. day_form year month mday)))))

clock_form : (text : List ℕ) → IsFormOf (IsClock text) (clock_in text)
clock_form text =
    let Colons = (part 2 1 text ≡ 58 ∷ []) × (part 5 1 text ≡ 58 ∷ []) in
    let Second = λ (hour minute n : ℕ). (second : ℕ) × IsTwoDigits 59 (drop 6 text) second × (n ≡ hour * 3600 + minute * 60 + second) in
    let Minute = λ (hour n : ℕ). (minute : ℕ) × IsTwoDigits 59 (part 3 2 text) minute × Second hour minute n in
    let Hour = λ (n : ℕ). (hour : ℕ) × IsTwoDigits 23 (part 0 2 text) hour × Minute hour n in
    form_by {P = λ n. Colons × Hour n} _
    (λ n (colons, (hour, h, (minute, m, (second, s, is)))). (hour, minute, second, h, colons.0, m, colons.1, s, is))
    (λ n (hour, minute, second, h, first, m, last, s, is). ((first, last), (hour, h, (minute, m, (second, s, is)))))
    (form_if Colons Hour _ _ (two_tests (part 2 1 text) (58 ∷ []) (part 5 1 text) (58 ∷ []))
    (form_then _ (IsTwoDigits 23 (part 0 2 text)) Minute _ (two_form 23 (part 0 2 text))
    (λ hour h. form_then _ (IsTwoDigits 59 (part 3 2 text)) (Second hour) _ (two_form 59 (part 3 2 text))
    (λ minute m. form_map (λ second. hour * 3600 + minute * 60 + second) (IsTwoDigits 59 (drop 6 text)) _ (two_form 59 (drop 6 text))))))

shift_form : (text : List ℕ) → IsFormOf (IsShift text) (shift_in text)
shift_form text =
    let Minute = λ (hour n : ℕ). (minute : ℕ) × IsTwoDigits 59 (behind_colon (drop 2 text)) minute × (n ≡ hour * 3600 + minute * 60) in
    form_by {P = λ n. (hour : ℕ) × IsTwoDigits 23 (part 0 2 text) hour × Minute hour n} _
    (λ n (hour, h, (minute, m, is)). (hour, minute, h, m, is)) (λ n (hour, minute, h, m, is). (hour, h, (minute, m, is)))
    (form_then _ (IsTwoDigits 23 (part 0 2 text)) Minute _ (two_form 23 (part 0 2 text))
    (λ hour h. form_map (λ minute. hour * 3600 + minute * 60) (IsTwoDigits 59 (behind_colon (drop 2 text))) _ (two_form 59 (behind_colon (drop 2 text)))))

-- ---- offsets

no_value : {A : Type 0} (P : A → Type 0) → ((v : A) → ¬ (P v)) → IsFormOf P None
no_value P none = record { sound = λ v e. absurd (cc); complete = λ v p. absurd (none v p) }

-- an offset with a first byte that is none of the three
no_offset : (b : ℕ) (bs : List ℕ) → (b == 90) ≡ false → (b == 43) ≡ false → (b == 45) ≡ false → (z : ℤ) → ¬ (IsOffset (b ∷ bs) z)
no_offset b bs utc plus minus z (inl h) = absurd (cc (h.0, utc, (Decides-eqb 90 90).1 refl))
no_offset b bs utc plus minus z (inr (inl h)) = absurd (cc (h.1, plus, (Decides-eqb 43 43).1 refl))
no_offset b bs utc plus minus z (inr (inr h)) = absurd (cc (h.1, minus, (Decides-eqb 45 45).1 refl))

nil_test : (bs : List ℕ) → ((length bs == 0) ≡ true) ↔ (bs ≡ [])
nil_test [] = (λ _. refl, λ _. refl)
nil_test (b ∷ bs) = (λ h. absurd (omega (arith, eqb-true (length (b ∷ bs)) 0 h)), λ e. absurd (omega (arith, ap length e)))

utc_to : (b : ℕ) (bs : List ℕ) (z : ℤ) → b ≡ 90 → (bs ≡ []) × (z ≡ pos 0) → IsOffset (b ∷ bs) z
utc_to b bs z utc h = inl (utc, h.0, h.1)

utc_from : (b : ℕ) (bs : List ℕ) (z : ℤ) → b ≡ 90 → IsOffset (b ∷ bs) z → (bs ≡ []) × (z ≡ pos 0)
utc_from b bs z utc (inl h) = (h.1, h.2)
utc_from b bs z utc (inr (inl h)) = absurd (omega (arith, h.1, utc))
utc_from b bs z utc (inr (inr h)) = absurd (omega (arith, h.1, utc))

east_to : (b : ℕ) (bs : List ℕ) (z : ℤ) → b ≡ 43 → (n : ℕ) × IsShift bs n × (z ≡ pos n) → IsOffset (b ∷ bs) z
east_to b bs z plus h = inr (inl (h.0, plus, h.1, h.2))

east_from : (b : ℕ) (bs : List ℕ) (z : ℤ) → b ≡ 43 → IsOffset (b ∷ bs) z → (n : ℕ) × IsShift bs n × (z ≡ pos n)
east_from b bs z plus (inl h) = absurd (omega (arith, h.0, plus))
east_from b bs z plus (inr (inl h)) = (h.0, h.2, h.3)
east_from b bs z plus (inr (inr h)) = absurd (omega (arith, h.1, plus))

west_to : (b : ℕ) (bs : List ℕ) (z : ℤ) → b ≡ 45 → (n : ℕ) × IsShift bs n × (z ≡ neg_ℤ (pos n)) → IsOffset (b ∷ bs) z
west_to b bs z minus h = inr (inr (h.0, minus, h.1, h.2))

west_from : (b : ℕ) (bs : List ℕ) (z : ℤ) → b ≡ 45 → IsOffset (b ∷ bs) z → (n : ℕ) × IsShift bs n × (z ≡ neg_ℤ (pos n))
west_from b bs z minus (inl h) = absurd (omega (arith, h.0, minus))
west_from b bs z minus (inr (inl h)) = absurd (omega (arith, h.1, minus))
west_from b bs z minus (inr (inr h)) = (h.0, h.2, h.3)

signed_form : (b : ℕ) (bs : List ℕ) (utc plus minus : Bool) → (b == 90) ≡ utc → (b == 43) ≡ plus → (b == 45) ≡ minus
    → IsFormOf (IsOffset (b ∷ bs)) (if utc then (if length bs == 0 then Some (pos 0) else None) else (if plus then option_map pos (shift_in bs) else (if minus then option_map (λ n. neg_ℤ (pos n)) (shift_in bs) else None)))
signed_form b bs true plus minus e f g =
    let is = eqb-true b 90 e in
    form_by _ (λ z h. utc_to b bs z is h) (λ z h. utc_from b bs z is h) (form_if (bs ≡ []) (λ z. z ≡ pos 0) (length bs == 0) _ (nil_test bs) (form_some (pos 0)))
signed_form b bs false true minus e f g =
    let is = eqb-true b 43 f in
    form_by _ (λ z h. east_to b bs z is h) (λ z h. east_from b bs z is h) (form_map pos (IsShift bs) _ (shift_form bs))
signed_form b bs false false true e f g =
    let is = eqb-true b 45 g in
    form_by _ (λ z h. west_to b bs z is h) (λ z h. west_from b bs z is h) (form_map (λ n. neg_ℤ (pos n)) (IsShift bs) _ (shift_form bs))
signed_form b bs false false false e f g = no_value (IsOffset (b ∷ bs)) (no_offset b bs e f g)

offset_form : (text : List ℕ) → IsFormOf (IsOffset text) (offset_in text)
offset_form [] = form_some (pos 0)
offset_form (b ∷ bs) = signed_form b bs (b == 90) (b == 43) (b == 45) refl refl refl

-- ---- tails

-- the digits at the front
digit_ahead : (b : ℕ) → is_digit b ≡ true → digit_value b < 10
digit_ahead b h = let parts = and_parts (nat_le 48 b) (nat_le b 57) h in omega (arith, digit_value_digit b (leb-true 48 b parts.0, leb-true b 57 parts.1), leb-true b 57 parts.1)

no_digit_ahead : (b : ℕ) → is_digit b ≡ false → ¬ (digit_value b < 10)
no_digit_ahead b other digit = let is = digit_from_value b digit in absurd (false≢true (sym other ∙ in_range_from 48 57 b is.0 is.1))

pub record IsSpan (text : List ℕ) (n : ℕ) : Type 0 where
  pub within : n ≤ length text
  pub digits : AllDigits 10 (take n text)
  pub end : IsNoDigitAhead (drop n text)

more_span : (b : ℕ) (bs : List ℕ) (t : Bool) → is_digit b ≡ t → IsSpan bs (digits_ahead bs) → IsSpan (b ∷ bs) (if t then suc (digits_ahead bs) else 0)
more_span b bs true e rest = record { within = omega (arith, rest.within); digits = (digit_ahead b e, rest.digits); end = rest.end }
more_span b bs false e rest = record { within = omega arith; digits = tt; end = no_digit_ahead b e }

span_of : (text : List ℕ) → IsSpan text (digits_ahead text)
span_of [] = record { within = omega arith; digits = tt; end = tt }
span_of (b ∷ bs) = more_span b bs (is_digit b) refl (span_of bs)

fraction_form : (text : List ℕ) → IsFormOf (IsFractionTail text) (fraction_tail_in text)
fraction_form text =
    let n = digits_ahead text in
    let span = span_of text in
    form_by {P = λ z. ((1 ≤ n) × (n ≤ 9)) × IsOffset (drop n text) z} _
    (λ z h. tail_of text n z span.within span.digits h.0.0 h.0.1 h.1)
    (λ z h. let at = tail_at text n z span.within span.digits span.end h in ((at.0, at.1), at.2))
    (form_if ((1 ≤ n) × (n ≤ 9)) (IsOffset (drop n text)) (is_in_range 1 9 n) _ (range_test 1 9 n, λ h. in_range_from 1 9 n h.0 h.1) (offset_form (drop n text)))

tail_to_point : (text : List ℕ) (z : ℤ) → take 1 text ≡ 46 ∷ [] → IsFractionTail (drop 1 text) z → IsTail text z
tail_to_point text z point h = inr (drop 1 text, point_then text point, h)

tail_from_point : (text : List ℕ) (z : ℤ) → take 1 text ≡ 46 ∷ [] → IsTail text z → IsFractionTail (drop 1 text) z
tail_from_point text z point (inl h) = absurd (no_point (drop 1 text) z (subst (λ t. IsOffset t z) (point_then text point) h))
tail_from_point text z point (inr (rest, e, h)) = subst (λ t. IsFractionTail t z) (sym (ap (λ t. drop 1 t) e)) h

plain_tail : (text : List ℕ) (z : ℤ) → bytes_eq (take 1 text) (46 ∷ []) ≡ false → IsTail text z → IsOffset text z
plain_tail text z plain (inl h) = h
plain_tail text z plain (inr (rest, e, h)) = absurd (false≢true (sym plain ∙ (bytes_eq-Decides (take 1 text) (46 ∷ [])).1 (ap (λ t. take 1 t) e)))

either_tail : (text : List ℕ) (b : Bool) → bytes_eq (take 1 text) (46 ∷ []) ≡ b → IsFormOf (IsTail text) (if b then fraction_tail_in (drop 1 text) else offset_in text)
either_tail text true e =
    let point = (bytes_eq-Decides (take 1 text) (46 ∷ [])).0 e in
    form_by _ (λ z h. tail_to_point text z point h) (λ z h. tail_from_point text z point h) (fraction_form (drop 1 text))
either_tail text false e = form_by _ (λ z h. inl h) (λ z h. plain_tail text z e h) (offset_form text)

tail_form : (text : List ℕ) → IsFormOf (IsTail text) (tail_in text)
tail_form text = either_tail text (bytes_eq (take 1 text) (46 ∷ [])) refl

-- ---- times

seconds_form : (z : ℤ) → IsFormOf (λ n. (pos n ≡ z) × (n ≤ 315537897599)) (seconds_in z)
seconds_form (pos m) =
    form_by {P = λ n. (m ≤ 315537897599) × (n ≡ m)} _ (λ n h. (ap pos h.1, omega (arith, h.0, h.1))) (λ n h. let same : n ≡ m = cc in (omega (arith, h.1, same), same))
    (form_if (m ≤ 315537897599) (λ n. n ≡ m) (nat_le m 315537897599) (Some m) (le_test m 315537897599) (form_some m))
seconds_form (negsuc m) = no_value _ (λ n h. absurd (cc))

or_true : (b : Bool) → (b || true) ≡ true
or_true true = refl
or_true false = refl

separator_to : (text : List ℕ) (s t : Bool) → bytes_eq text (84 ∷ []) ≡ s → bytes_eq text (32 ∷ []) ≡ t → (s || t) ≡ true → IsSeparator text
separator_to text true t e f h = inl ((bytes_eq-Decides text (84 ∷ [])).0 e)
separator_to text false true e f h = inr ((bytes_eq-Decides text (32 ∷ [])).0 f)
separator_to text false false e f h = absurd (false≢true h)

separator_from : (text : List ℕ) → IsSeparator text → is_separator text ≡ true
separator_from text (inl h) = rw ((bytes_eq-Decides text (84 ∷ [])).1 h)
separator_from text (inr h) = rw ((bytes_eq-Decides text (32 ∷ [])).1 h) (or_true (bytes_eq text (84 ∷ [])))

separator_test : (text : List ℕ) → (is_separator text ≡ true) ↔ IsSeparator text
separator_test text = (separator_to text (bytes_eq text (84 ∷ [])) (bytes_eq text (32 ∷ [])) refl refl, separator_from text)

pub time_form : (text : List ℕ) → IsFormOf (IsTimeText text) (time_in text)
unfolding time_in
time_form text =
    let Offset = λ (day : ℤ) (clock n : ℕ). (offset : ℤ) × IsTail (drop 19 text) offset × ((pos n ≡ day *ℤ pos 86400 +ℤ pos clock -ℤ offset) × (n ≤ 315537897599)) in
    let Clock = λ (day : ℤ) (n : ℕ). (clock : ℕ) × IsClock (part 11 8 text) clock × Offset day clock n in
    let Day = λ (n : ℕ). (day : ℤ) × IsFullDate (part 0 10 text) day × Clock day n in
    form_by {P = λ n. IsSeparator (part 10 1 text) × Day n} _
    (λ n (separator, (day, d, (clock, c, (offset, t, (value, last))))). record { day = day; clock = clock; offset = offset; date = d; separator = separator; time = c; tail = t; value = value; last = last })
    (λ n h. (h.separator, (h.day, h.date, (h.clock, h.time, (h.offset, h.tail, (h.value, h.last))))))
    (form_if (IsSeparator (part 10 1 text)) Day _ _ (separator_test (part 10 1 text))
    (form_then _ (IsFullDate (part 0 10 text)) Clock _ (date_form (part 0 10 text))
    (λ day d. form_then _ (IsClock (part 11 8 text)) (Offset day) _ (clock_form (part 11 8 text))
    (λ clock c. form_then _ (IsTail (drop 19 text)) (λ offset n. (pos n ≡ day *ℤ pos 86400 +ℤ pos clock -ℤ offset) × (n ≤ 315537897599)) _ (tail_form (drop 19 text))
    (λ offset t. seconds_form (day *ℤ pos 86400 +ℤ pos clock -ℤ offset))))))

pub time_some : (text : List ℕ) (n : ℕ) → IsTimeText text n → Some n ≡ time_in text
time_some text n h = sym ((time_form text).complete n h)

pub time_none : (text : List ℕ) → ((n : ℕ) → ¬ (IsTimeText text n)) → None ≡ time_in text
time_none text none = sym (none_of (IsTimeText text) _ (time_form text) none)
