-- Times as they are printed, and read again.
use Rattle.std.proofs.Common.{◌≡◌, ℕ, ◌/◌, ◌%◌, ◌≤◌, ◌<◌, inl, inr, ℤ, pos, negsuc, ◌+ℤ◌, ◌-ℤ◌, ◌*ℤ◌, ◌≤ℤ◌, refl, sym, ap, ◌∙◌, subst, List, [], ◌∷◌, ◌++◌, codes, None, arith}
use Rattle.std.proofs.lemmas.Int.{by_lt_z}
use Rattle.jiff_core.specs.declared.civil.date.Date.{Date}
use Rattle.jiff_core.specs.declared.civil.time.Time.{Time}
use Rattle.jiff_core.specs.Calendar.{IsDate, IsCivilDate, days_from_civil, day_count}
use Rattle.jiff_core.specs.Date.{epoch_day}
use Rattle.jiff_core.specs.Time.{time_seconds}
use Rattle.jiff_core.proofs.SignedLemmas.{signed_arith}
use Rattle.jiff_core.proofs.CalendarLemmas.{days_from_civil-day_count, day_count-lt_year, days_in_month_bounds}
use Rattle.jiff_fmt.specs.Text.{pad2, pad4, date_text, time_text, year_text, fraction_part}
use Rattle.scalar_text.specs.Time.{IsExactly, IsDayOf, IsTimeText, IsPrintedTime}
use Rattle.scalar_text.proofs.Numerals.{digit_is}
use Rattle.scalar_text.proofs.Times.{first_day, first_day_count}

year_from_one : (y : ℤ) (m d : ℕ) → IsCivilDate y m d → day_count (pos 1) 1 1 ≤ day_count y m d → pos 1 ≤ℤ y
year_from_one y m d h after = by_lt_z y (pos 1) (λ lt. absurd (omega (arith, day_count-lt_year y m d (pos 1) 1 1 h (omega arith) lt))) (λ ge. ge)

positive : (y : ℤ) → pos 1 ≤ℤ y → (n : ℕ) × (y ≡ pos n) × (1 ≤ n)
positive (pos n) h = (n, refl, omega (arith, signed_arith))
positive (negsuc n) h = absurd (omega (arith, signed_arith))

-- a date from 0001-01-01 on has a year of the common era
common_year : (d : Date) (n : ℕ) → epoch_day d -ℤ days_from_civil (pos 1) 1 1 ≡ pos n → (y : ℕ) × (d.year ≡ pos y) × (1 ≤ y)
common_year d n e =
    let count = days_from_civil-day_count d.year d.month d.day in
    positive d.year (year_from_one d.year d.month d.day (d.year_in, d.month_in, d.day_in) (omega (arith, signed_arith, first_day, first_day_count)))

day_of_date : (d : Date) (n y : ℕ) → epoch_day d -ℤ days_from_civil (pos 1) 1 1 ≡ pos n → d.year ≡ pos y → 1 ≤ y → IsDayOf y d.month d.day (pos n)
day_of_date d n y e year some =
    let month = d.month_in in
    let mday = d.day_in in
    let is : IsDate d.year (pos d.month) (pos d.day) = (d.year_in, (omega (arith, signed_arith), omega (arith, signed_arith)), (omega (arith, signed_arith), omega (arith, signed_arith))) in
    (some, subst (λ x. IsDate x (pos d.month) (pos d.day)) year is, sym e ∙ ap (λ x. days_from_civil x d.month d.day -ℤ days_from_civil (pos 1) 1 1) year)

spelled_as : (d : Date) (t : Time) (y : ℕ) → d.year ≡ pos y → t.subsec_nanosecond ≡ 0 → (date_text d ++ 84 ∷ time_text None t) ++ codes "+00:00" ≡ pad4 y ++ 45 ∷ pad2 d.month ++ 45 ∷ pad2 d.day ++ 84 ∷ pad2 t.hour ++ 58 ∷ pad2 t.minute ++ 58 ∷ pad2 t.second ++ codes "+00:00"
spelled_as d t y year whole =
    ap (λ x. ((year_text x ++ 45 ∷ [] ++ pad2 d.month ++ 45 ∷ [] ++ pad2 d.day) ++ 84 ∷ time_text None t) ++ codes "+00:00") year
    ∙ ap (λ s. ((pad4 y ++ 45 ∷ [] ++ pad2 d.month ++ 45 ∷ [] ++ pad2 d.day) ++ 84 ∷ pad2 t.hour ++ 58 ∷ pad2 t.minute ++ 58 ∷ pad2 t.second ++ fraction_part None s) ++ codes "+00:00") whole

pub is_printed : (seconds : ℕ) (d : Date) (t : Time) (text : List ℕ) → epoch_day d -ℤ days_from_civil (pos 1) 1 1 ≡ pos (seconds / 86400) → time_seconds t ≡ seconds % 86400 → t.subsec_nanosecond ≡ 0 → text ≡ (date_text d ++ 84 ∷ time_text None t) ++ codes "+00:00" → IsPrintedTime seconds text
is_printed seconds d t text day clock whole is =
    let year = common_year d _ day in
    let hour = t.hour_in in
    let minute = t.minute_in in
    let second = t.second_in in
    record {
      year = year.0;
      month = d.month;
      mday = d.day;
      hour = t.hour;
      minute = t.minute;
      second = t.second;
      day = day_of_date d _ year.0 day year.1 year.2;
      clock = (omega arith, omega arith, omega arith, sym clock);
      spelled = is ∙ spelled_as d t year.0 year.1 whole;
    }

two_written : (n : ℕ) → n < 100 → IsExactly 2 (pad2 n) n
two_written n h =
    let a = digit_is (n / 10) (omega arith) in
    let b = digit_is (n % 10) (omega arith) in
    (((omega arith, (omega (arith, a), (omega (arith, b), tt))), omega (arith, a, b)), refl)

four_written : (n : ℕ) → n < 10000 → IsExactly 4 (pad4 n) n
four_written n h =
    let a = digit_is (n / 100 / 10) (omega arith) in
    let b = digit_is (n / 100 % 10) (omega arith) in
    let c = digit_is (n % 100 / 10) (omega arith) in
    let d = digit_is (n % 100 % 10) (omega arith) in
    (((omega arith, (omega (arith, a), (omega (arith, b), (omega (arith, c), (omega (arith, d), tt))))), omega (arith, a, b, c, d)), refl)

in_days : (seconds : ℕ) → pos seconds ≡ pos (seconds / 86400) *ℤ pos 86400 +ℤ pos (seconds % 86400) -ℤ pos 0
in_days seconds = omega (arith, signed_arith)

-- what is printed is read as the same time
pub reads_back : (seconds : ℕ) (text : List ℕ) → seconds ≤ 315537897599 → IsPrintedTime seconds text → IsTimeText text seconds
reads_back seconds text last p =
    let is = p.day.1 in
    let year : p.year < 10000 = omega (arith, signed_arith, is.0.1) in
    let month : p.month < 100 = omega (arith, signed_arith, is.1.1) in
    let mday : p.mday < 100 = omega (arith, signed_arith, is.2.1, days_in_month_bounds (pos p.year) p.month) in
    let clock = p.clock in
    subst (λ t. IsTimeText t seconds) (sym p.spelled) (record {
      day = pos (seconds / 86400);
      clock = seconds % 86400;
      offset = pos 0;
      date = (p.year, p.month, p.mday, four_written p.year year, refl, two_written p.month month, refl, two_written p.mday mday, p.day);
      separator = inl refl;
      time = (p.hour, p.minute, p.second, (two_written p.hour (omega arith), clock.0), refl, (two_written p.minute (omega arith), clock.1), refl, (two_written p.second (omega arith), clock.2), clock.3);
      tail = inl (inr (inl (0, refl, (0, 0, (two_written 0 (omega arith), omega arith), (two_written 0 (omega arith), omega arith), refl), refl)));
      value = in_days seconds;
      last = last;
    })
