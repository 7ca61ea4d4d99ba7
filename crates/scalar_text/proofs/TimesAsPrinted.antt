-- Texts of times that are as these are printed.
use Rattle.std.proofs.Common.{◌≡◌, ◌↔◌, Some, ℕ, ◌+◌, ◌*◌, ◌/◌, ◌%◌, ◌<◌, inl, inr, ℤ, pos, negsuc, ◌+ℤ◌, ◌-ℤ◌, ◌*ℤ◌, refl, sym, ap, ap₂, ◌∙◌, subst, List, [], ◌∷◌, ◌++◌, codes, drop, take-append-drop, drop-drop, arith}
use Rattle.std.specs.Char.{digit_value}
use Rattle.std.proofs.lemmas.Str.{digit_value_digit}
use Rattle.std.proofs.lemmas.Str.Parse.{digit_from_value}
use Rattle.jiff_core.proofs.SignedLemmas.{signed_arith}
use Rattle.jiff_fmt.specs.Text.{pad2, pad4}
use Rattle.scalar_text.specs.Time.{part, IsExactly, IsTwoDigits, IsDayOf, IsTail, IsTimeText, IsPrintedTime, time_in, time_text}
use Rattle.scalar_text.proofs.DayTexts.{printed_is, printed_time}
use Rattle.scalar_text.proofs.TimeForms.{time_form}
use Rattle.scalar_text.proofs.Times.{same_tail}

-- ---- digits

digit_spelled : (b : ℕ) → digit_value b < 10 → b ≡ 48 + digit_value b
digit_spelled b digit = let k = digit_from_value b digit in omega (arith, digit_value_digit b k, k)

pub two_spelled : (text : List ℕ) (n : ℕ) → IsExactly 2 text n → text ≡ pad2 n
two_spelled [] n is = absurd (omega (arith, is.1))
two_spelled (a ∷ []) n is = absurd (omega (arith, is.1))
two_spelled (a ∷ b ∷ c ∷ text) n is = absurd (omega (arith, is.1))
two_spelled (a ∷ b ∷ []) n (((some, (x, (y, rest))), value), len) =
    let first = digit_spelled a x in
    let second = digit_spelled b y in
    ap₂ (λ (d e : ℕ). d ∷ e ∷ []) (omega (arith, x, y, first, second, value)) (omega (arith, x, y, first, second, value))

four_spelled : (text : List ℕ) (n : ℕ) → IsExactly 4 text n → text ≡ pad4 n
four_spelled [] n is = absurd (omega (arith, is.1))
four_spelled (a ∷ []) n is = absurd (omega (arith, is.1))
four_spelled (a ∷ b ∷ []) n is = absurd (omega (arith, is.1))
four_spelled (a ∷ b ∷ c ∷ []) n is = absurd (omega (arith, is.1))
four_spelled (a ∷ b ∷ c ∷ d ∷ e ∷ text) n is = absurd (omega (arith, is.1))
four_spelled (a ∷ b ∷ c ∷ d ∷ []) n (((some, (w, (x, (y, (z, rest))))), value), len) =
    let first = digit_spelled a w in
    let second = digit_spelled b x in
    let third = digit_spelled c y in
    let fourth = digit_spelled d z in
    let front = two_spelled (a ∷ b ∷ []) (n / 100) (((omega arith, (w, (x, tt))), omega (arith, w, x, y, z, value)), refl) in
    let back = two_spelled (c ∷ d ∷ []) (n % 100) (((omega arith, (y, (z, tt))), omega (arith, w, x, y, z, value)), refl) in
    ap₂ (λ (s t : List ℕ). s ++ t) front back

-- ---- parts

-- what is behind a place is a part and what is behind that
cut : (a b : ℕ) (text : List ℕ) → drop a text ≡ part a b text ++ drop (a + b) text
cut a b text = sym (take-append-drop b (drop a text)) ∙ ap (λ (t : List ℕ). part a b text ++ t) (drop-drop b a text)

onto : {a b c d : List ℕ} → a ≡ b → c ≡ d → a ++ c ≡ b ++ d
onto = ap₂ (λ (s t : List ℕ). s ++ t)

date_spelled : (text : List ℕ) (year month mday : ℕ) → IsExactly 4 (part 0 4 text) year → part 4 1 text ≡ 45 ∷ [] → IsExactly 2 (part 5 2 text) month → part 7 1 text ≡ 45 ∷ [] → IsExactly 2 (drop 8 text) mday
    → text ≡ pad4 year ++ 45 ∷ pad2 month ++ 45 ∷ pad2 mday
date_spelled text year month mday y first m second d =
    cut 0 4 text
    ∙ onto (four_spelled (part 0 4 text) year y)
    (cut 4 1 text ∙ onto first (cut 5 2 text ∙ onto (two_spelled (part 5 2 text) month m) (cut 7 1 text ∙ onto second (two_spelled (drop 8 text) mday d))))

clock_spelled : (text : List ℕ) (hour minute second : ℕ) → IsExactly 2 (part 0 2 text) hour → part 2 1 text ≡ 58 ∷ [] → IsExactly 2 (part 3 2 text) minute → part 5 1 text ≡ 58 ∷ [] → IsExactly 2 (drop 6 text) second
    → text ≡ pad2 hour ++ 58 ∷ pad2 minute ++ 58 ∷ pad2 second
clock_spelled text hour minute second h first m last s =
    cut 0 2 text
    ∙ onto (two_spelled (part 0 2 text) hour h)
    (cut 2 1 text ∙ onto first (cut 3 2 text ∙ onto (two_spelled (part 3 2 text) minute m) (cut 5 1 text ∙ onto last (two_spelled (drop 6 text) second s))))

zero_zero : IsTwoDigits 59 (codes "00") 0
zero_zero = ((((omega arith, (omega arith, (omega arith, tt))), refl), refl), omega arith)

utc : IsTail (codes "+00:00") (pos 0)
utc = inl (inr (inl (0, refl, (0, 0, (zero_zero.0, omega arith), zero_zero, refl), refl)))

-- ---- the day

-- seconds of whole days and of less than one
days_of : (day : ℤ) (clock seconds : ℕ) → clock < 86400 → pos seconds ≡ day *ℤ pos 86400 +ℤ pos clock -ℤ pos 0 → (day ≡ pos (seconds / 86400)) × (seconds % 86400 ≡ clock)
days_of (pos n) clock seconds below is =
    let sum : seconds ≡ n * 86400 + clock = omega (arith, signed_arith, is) in
    let days : n ≡ seconds / 86400 = omega (arith, below, sum) in
    (ap pos days, omega (arith, below, sum))
days_of (negsuc n) clock seconds below is = absurd (omega (arith, signed_arith, below, is))

is_printed : (text : List ℕ) (seconds : ℕ) → IsTimeText text seconds → part 10 1 text ≡ 84 ∷ [] → drop 19 text ≡ codes "+00:00" → IsPrintedTime seconds text
is_printed text seconds is separator ends =
    let (year, month, mday, y, hyphen, m, other, d, of_day) = is.date in
    let (hour, minute, second, h, colon, mi, last, s, of_clock) = is.time in
    let at_utc : is.offset ≡ pos 0 = same_tail (codes "+00:00") is.offset (pos 0) (subst (λ t. IsTail t is.offset) ends is.tail) utc in
    let below : is.clock < 86400 = omega (arith, h.1, mi.1, s.1, of_clock) in
    let days = days_of is.day is.clock seconds below (is.value ∙ ap (λ z. is.day *ℤ pos 86400 +ℤ pos is.clock -ℤ z) at_utc) in
    record {
      year = year;
      month = month;
      mday = mday;
      hour = hour;
      minute = minute;
      second = second;
      day = subst (IsDayOf year month mday) days.0 of_day;
      clock = (h.1, mi.1, s.1, days.1 ∙ of_clock);
      spelled = cut 0 10 text
          ∙ onto (date_spelled (part 0 10 text) year month mday y hyphen m other d)
          (cut 10 1 text ∙ onto separator (cut 11 8 text ∙ onto (clock_spelled (part 11 8 text) hour minute second h.0 colon mi.0 last s.0) ends));
    }

-- ---- both ways

printed_parts : (text : List ℕ) (seconds : ℕ) → IsPrintedTime seconds text → (part 10 1 text ≡ 84 ∷ []) × (drop 19 text ≡ codes "+00:00")
printed_parts text seconds p = (ap (part 10 1) p.spelled, ap (drop 19) p.spelled)

pub time_stays : (text : List ℕ) (seconds : ℕ) → time_in text ≡ Some seconds → ((part 10 1 text ≡ 84 ∷ []) × (drop 19 text ≡ codes "+00:00")) ↔ (text ≡ time_text seconds)
time_stays text seconds read =
    let is = (time_form text).sound seconds read in
    (λ parts. printed_is seconds text is.last (is_printed text seconds is parts.0 parts.1), λ same. printed_parts text seconds (subst (IsPrintedTime seconds) (sym same) (printed_time seconds is.last)))
