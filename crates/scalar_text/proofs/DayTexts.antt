-- The date of a day, found by taking years and months off.
use Rattle.std.proofs.Common.{◌≡◌, ℕ, zero, suc, ◌+◌, ◌-◌, ◌/◌, ◌%◌, ◌<◌, ◌≤◌, ℤ, pos, Bool, true, false, List, ◌∷◌, ◌++◌, codes, nat_lt, refl, sym, ap, ◌∙◌, arith, if◌then◌else◌}
use Rattle.std.proofs.lemmas.Bool.{ltb-true, ltb-false}
use Rattle.jiff_core.specs.declared.civil.date.Date.{Date}
use Rattle.jiff_core.specs.Calendar.{days_in_year, days_in_month, day_count, days_from_civil}
use Rattle.jiff_core.proofs.SignedLemmas.{signed_arith}
use Rattle.jiff_core.proofs.CalendarLemmas.{days_from_civil-day_count, day_count-next_year, day_count-next_month, day_count-last_of_year, day_count-day, day_count-end}
use Rattle.jiff_core.proofs.DateLemmas.{epoch_day_injective}
use Rattle.jiff_fmt.specs.Text.{pad2, pad4}
use Rattle.scalar_text.specs.Time.{IsDayOf, IsPrintedTime, year_of_day, month_of_day, time_text}
use Rattle.scalar_text.proofs.Times.{first_day_count}

-- the days before a year, and before a month
abbrev before_year : ℕ → ℕ
before_year year = day_count (pos year) 1 1

abbrev before_month : ℕ → ℕ → ℕ
before_month year month = day_count (pos year) month 1

next_year : (year : ℕ) → before_year (suc year) ≡ before_year year + days_in_year (pos year)
next_year year = day_count-next_year (pos year) (pos (suc year)) (omega (arith, signed_arith)) (omega (arith, signed_arith))

-- ---- years

pub record IsYearOf (first most day : ℕ) (found : ℕ × ℕ) : Type 0 where
  pub count : before_year found.0 + found.1 ≡ day + before_year first
  pub within : found.1 < days_in_year (pos found.0)
  pub from : first ≤ found.0
  pub upto : found.0 ≤ first + most

year_step : (most first day : ℕ) (t : Bool) → nat_lt day (days_in_year (pos first)) ≡ t → (days_in_year (pos first) ≤ day → IsYearOf (suc first) most (day - days_in_year (pos first)) (year_of_day most (suc first) (day - days_in_year (pos first))))
    → IsYearOf first (suc most) day (if t then (first, day) else year_of_day most (suc first) (day - days_in_year (pos first)))
year_step most first day true e later = record { count = omega arith; within = ltb-true day (days_in_year (pos first)) e; from = omega arith; upto = omega arith }
year_step most first day false e later =
    let past = ltb-false day (days_in_year (pos first)) e in
    let found = later past in
    record { count = omega (arith, found.count, next_year first, past); within = found.within; from = omega (arith, found.from); upto = omega (arith, found.upto) }

year_found : (most first day : ℕ) → day + before_year first < before_year (suc (first + most)) → IsYearOf first most day (year_of_day most first day)
unfolding year_of_day
year_found zero first day below =
    let same : first + 0 ≡ first = omega arith in
    let next : before_year (suc (first + 0)) ≡ before_year first + days_in_year (pos first) = ap (λ n. before_year (suc n)) same ∙ next_year first in
    record { count = omega arith; within = omega (arith, below, next); from = omega arith; upto = omega arith }
year_found (suc most) first day below =
    let same : first + suc most ≡ suc first + most = omega arith in
    let end : before_year (suc (first + suc most)) ≡ before_year (suc (suc first + most)) = ap (λ n. before_year (suc n)) same in
    year_step most first day _ refl (λ past. year_found most (suc first) (day - days_in_year (pos first)) (omega (arith, below, end, next_year first, past)))

-- ---- months

pub record IsMonthOf (year first most day : ℕ) (found : ℕ × ℕ) : Type 0 where
  pub count : before_month year found.0 + found.1 ≡ day + before_month year first
  pub within : found.1 < days_in_month (pos year) found.0
  pub from : first ≤ found.0
  pub upto : found.0 ≤ first + most

next_month : (year month : ℕ) → 1 ≤ month → before_month year (suc month) ≡ before_month year month + days_in_month (pos year) month
next_month year month some = ap (λ n. day_count (pos year) n 1) (omega arith) ∙ day_count-next_month (pos year) month some

month_step : (most year first day : ℕ) (t : Bool) → 1 ≤ first → nat_lt day (days_in_month (pos year) first) ≡ t → (days_in_month (pos year) first ≤ day → IsMonthOf year (suc first) most (day - days_in_month (pos year) first) (month_of_day most year (suc first) (day - days_in_month (pos year) first)))
    → IsMonthOf year first (suc most) day (if t then (first, day) else month_of_day most year (suc first) (day - days_in_month (pos year) first))
month_step most year first day true some e later = record { count = omega arith; within = ltb-true day (days_in_month (pos year) first) e; from = omega arith; upto = omega arith }
month_step most year first day false some e later =
    let past = ltb-false day (days_in_month (pos year) first) e in
    let found = later past in
    record { count = omega (arith, found.count, next_month year first some, past); within = found.within; from = omega (arith, found.from); upto = omega (arith, found.upto) }

month_found : (most year first day : ℕ) → 1 ≤ first → day + before_month year first < before_month year (first + most) + days_in_month (pos year) (first + most) → IsMonthOf year first most day (month_of_day most year first day)
unfolding month_of_day
month_found zero year first day some below =
    let same : first + 0 ≡ first = omega arith in
    let begin : before_month year (first + 0) ≡ before_month year first = ap (before_month year) same in
    let length : days_in_month (pos year) (first + 0) ≡ days_in_month (pos year) first = ap (days_in_month (pos year)) same in
    record { count = omega arith; within = omega (arith, below, begin, length); from = omega arith; upto = omega arith }
month_found (suc most) year first day some below =
    let same : first + suc most ≡ suc first + most = omega arith in
    let begin : before_month year (first + suc most) ≡ before_month year (suc first + most) = ap (before_month year) same in
    let length : days_in_month (pos year) (first + suc most) ≡ days_in_month (pos year) (suc first + most) = ap (days_in_month (pos year)) same in
    month_step most year first day _ some refl
    (λ past. month_found most year (suc first) (day - days_in_month (pos year) first) (omega arith) (omega (arith, below, begin, length, next_month year first some, past)))

-- ---- dates

last_month : (year : ℕ) → before_month year 12 + 31 ≡ before_year year + days_in_year (pos year)
last_month year = omega (arith, day_count-last_of_year (pos year), day_count-day (pos year) 12 31 1 (omega arith) (omega arith))

the_end : before_year (suc (1 + 9998)) ≡ 7304850
the_end = day_count-end

abbrev year_at : ℕ → ℕ × ℕ
year_at day = year_of_day 9998 1 day

abbrev month_at : ℕ → ℕ × ℕ
month_at day = month_of_day 11 (year_at day).0 1 (year_at day).1

year_is : (day : ℕ) → day ≤ 3652058 → IsYearOf 1 9998 day (year_at day)
year_is day last = year_found 9998 1 day (omega (arith, the_end, first_day_count, last))

month_is : (year day : ℕ) → day < days_in_year (pos year) → IsMonthOf year 1 11 day (month_of_day 11 year 1 day)
month_is year day within = month_found 11 year 1 day (omega arith) (omega (arith, within, last_month year))

day_is : (day year rest month mday : ℕ) → IsYearOf 1 9998 day (year, rest) → IsMonthOf year 1 11 rest (month, mday) → IsDayOf year month (mday + 1) (pos day)
day_is day year rest month mday y m =
    let count : day_count (pos year) month (mday + 1) + 1 ≡ before_month year month + (mday + 1) = day_count-day (pos year) month (mday + 1) 1 (omega arith) (omega arith) in (
      y.from,
      ((omega (arith, signed_arith), omega (arith, signed_arith, y.upto)), (omega (arith, signed_arith, m.from), omega (arith, signed_arith, m.upto)), (omega (arith, signed_arith), omega (arith, signed_arith, m.within))),
      omega (arith, signed_arith, y.count, m.count, count, days_from_civil-day_count (pos year) month (mday + 1), days_from_civil-day_count (pos 1) 1 1),
    )

pub date_of_day : (day : ℕ) → day ≤ 3652058 → IsDayOf (year_at day).0 (month_at day).0 ((month_at day).1 + 1) (pos day)
date_of_day day last = let y = year_is day last in day_is day (year_at day).0 (year_at day).1 (month_at day).0 (month_at day).1 y (month_is (year_at day).0 (year_at day).1 y.within)

-- ---- texts of times

pub printed_time : (seconds : ℕ) → seconds ≤ 315537897599 → IsPrintedTime seconds (time_text seconds)
unfolding time_text
printed_time seconds last =
    let day = seconds / 86400 in
    record {
      year = (year_at day).0;
      month = (month_at day).0;
      mday = (month_at day).1 + 1;
      hour = seconds % 86400 / 3600;
      minute = seconds % 86400 / 60 % 60;
      second = seconds % 86400 % 60;
      day = date_of_day day (omega arith);
      clock = (omega arith, omega arith, omega arith, omega arith);
      spelled = refl;
    }

-- a day has one date
date : (year month mday : ℕ) (day : ℤ) → IsDayOf year month mday day → Date
date year month mday day (some, is, at) = record {
  year = pos year;
  month = month;
  day = mday;
  year_in = is.0;
  month_in = (omega (arith, signed_arith, is.1.0), omega (arith, signed_arith, is.1.1));
  day_in = (omega (arith, signed_arith, is.2.0), omega (arith, signed_arith, is.2.1));
}

pub same_date : (y m d y₂ m₂ d₂ : ℕ) (day : ℤ) → IsDayOf y m d day → IsDayOf y₂ m₂ d₂ day → (y ≡ y₂) × (m ≡ m₂) × (d ≡ d₂)
unfolding date
same_date y m d y₂ m₂ d₂ day a b =
    let days : days_from_civil (pos y) m d ≡ days_from_civil (pos y₂) m₂ d₂ = omega (arith, signed_arith, a.2, b.2) in
    let same = epoch_day_injective (date y m d day a) (date y₂ m₂ d₂ day b) days in
    let year : y ≡ y₂ = let e = same.0 in cc in
    (year, same.1, same.2)

spelled : ℕ → ℕ → ℕ → ℕ → ℕ → ℕ → List ℕ
spelled y m d h n s = pad4 y ++ 45 ∷ pad2 m ++ 45 ∷ pad2 d ++ 84 ∷ pad2 h ++ 58 ∷ pad2 n ++ 58 ∷ pad2 s ++ codes "+00:00"

same_spelling : {y m d h n s y₂ m₂ d₂ h₂ n₂ s₂ : ℕ} → (y ≡ y₂) × (m ≡ m₂) × (d ≡ d₂) → h ≡ h₂ → n ≡ n₂ → s ≡ s₂ → spelled y m d h n s ≡ spelled y₂ m₂ d₂ h₂ n₂ s₂
same_spelling {y} {m} {d} {h} {n} {s} date e f g = rw (date.0, date.1, date.2, e, f, g)

-- a time is printed in one way
pub printed_is : (seconds : ℕ) (text : List ℕ) → seconds ≤ 315537897599 → IsPrintedTime seconds text → text ≡ time_text seconds
unfolding spelled time_text
printed_is seconds text last p =
    let q = printed_time seconds last in
    let c = p.clock in
    let d = q.clock in
    let hour : p.hour ≡ q.hour = omega (arith, c.0, c.1, c.2, c.3, d.0, d.1, d.2, d.3) in
    let minute : p.minute ≡ q.minute = omega (arith, c.0, c.1, c.2, c.3, d.0, d.1, d.2, d.3) in
    let second : p.second ≡ q.second = omega (arith, c.0, c.1, c.2, c.3, d.0, d.1, d.2, d.3) in
    p.spelled ∙ same_spelling (same_date p.year p.month p.mday q.year q.month q.mday _ p.day q.day) hour minute second ∙ sym q.spelled
