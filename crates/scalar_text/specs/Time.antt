-- Times as texts (RFC 3339, section 5.6).
use Rattle.std.specs.Prelude.{◌≡◌, ◌≤◌, ◌<◌, ◌⊎◌, ℕ, zero, suc, ◌+◌, ◌-◌, ◌*◌, ◌/◌, ◌%◌, ◌==◌, nat_lt, nat_le, Bool, ◌&&◌, ◌||◌, Option, Some, None, option_map, option_and_then, negsuc, List, [], ◌∷◌, ◌++◌, codes, length, take, drop, ℤ, pos, neg_ℤ, ◌+ℤ◌, ◌-ℤ◌, ◌*ℤ◌, if◌then◌else◌}
use Rattle.std.specs.Char.{digit_value}
use Rattle.std.specs.Int.{is_in_range}
use Rattle.std.specs.Str.{bytes_eq}
use Rattle.base_types.specs.Digits.{digits_in}
use Rattle.scalar_text.specs.Quote.{is_digit}
use Rattle.std.specs.Str.Parse.{IsNumeral}
use Rattle.std.specs.Net.Grammar.{IsNumber}
use Rattle.jiff_core.specs.Calendar.{IsDate, days_from_civil, days_in_year, days_in_month}
use Rattle.jiff_fmt.specs.Text.{pad2, pad4}

-- exactly so many decimal digits write the number
abbrev pub IsExactly : ℕ → List ℕ → ℕ → Type 0
IsExactly len text n = IsNumber 10 text n × (length text ≡ len)

-- two digits write the number, which is at most `most`
abbrev pub IsTwoDigits : ℕ → List ℕ → ℕ → Type 0
IsTwoDigits most text n = IsExactly 2 text n × (n ≤ most)

-- the bytes at a place, fewer where the text ends before
abbrev pub part : ℕ → ℕ → List ℕ → List ℕ
part at len text = take len (drop at text)

-- year, month and day make a date from the year 1 on, so many days after 0001-01-01
abbrev pub IsDayOf : ℕ → ℕ → ℕ → ℤ → Type 0
IsDayOf year month mday day =
    (1 ≤ year) × IsDate (pos year) (pos month) (pos mday)
    × (day ≡ days_from_civil (pos year) month mday -ℤ days_from_civil (pos 1) 1 1)

-- full-date: four digits, a minus, two digits, a minus and two digits, which name a day of the calendar
abbrev pub IsFullDate : List ℕ → ℤ → Type 0
IsFullDate text day =
    (year month mday : ℕ) × IsExactly 4 (part 0 4 text) year × (part 4 1 text ≡ 45 ∷ [])
    × IsExactly 2 (part 5 2 text) month × (part 7 1 text ≡ 45 ∷ []) × IsExactly 2 (drop 8 text) mday
    × IsDayOf year month mday day

-- hour, minute and second with colons between them, in seconds; there is no leap second
abbrev pub IsClock : List ℕ → ℕ → Type 0
IsClock text n =
    (hour minute second : ℕ) × IsTwoDigits 23 (part 0 2 text) hour × (part 2 1 text ≡ 58 ∷ [])
    × IsTwoDigits 59 (part 3 2 text) minute × (part 5 1 text ≡ 58 ∷ []) × IsTwoDigits 59 (drop 6 text) second
    × (n ≡ hour * 3600 + minute * 60 + second)

-- `T` or a space
abbrev pub IsSeparator : List ℕ → Type 0
IsSeparator text = (text ≡ 84 ∷ []) ⊎ (text ≡ 32 ∷ [])

-- no digit stands first
abbrev pub IsNoDigitAhead : List ℕ → Type 0
IsNoDigitAhead [] = Unit {0}
IsNoDigitAhead (b ∷ bs) = ¬ (digit_value b < 10)

-- the text without a colon at its front
abbrev pub behind_colon : List ℕ → List ℕ
behind_colon [] = []
behind_colon (b ∷ bs) = if b == 58 then bs else b ∷ bs

-- hours and minutes of an offset, perhaps with a colon between them, in seconds
abbrev pub IsShift : List ℕ → ℕ → Type 0
IsShift text n =
    (hour minute : ℕ) × IsTwoDigits 23 (part 0 2 text) hour × IsTwoDigits 59 (behind_colon (drop 2 text)) minute
    × (n ≡ hour * 3600 + minute * 60)

-- time-offset, in seconds to the east: nothing or `Z` for UTC, or a sign with hours and minutes
abbrev pub IsOffset : List ℕ → ℤ → Type 0
IsOffset [] z = z ≡ pos 0
IsOffset (b ∷ bs) z =
    ((b ≡ 90) × (bs ≡ []) × (z ≡ pos 0))
    ⊎ (((n : ℕ) × (b ≡ 43) × IsShift bs n × (z ≡ pos n))
    ⊎ ((n : ℕ) × (b ≡ 45) × IsShift bs n × (z ≡ neg_ℤ (pos n))))

-- what stands behind a point: 1 to 9 digits, which are dropped, and the offset
abbrev pub IsFractionTail : List ℕ → ℤ → Type 0
IsFractionTail text z =
    (digits rest : List ℕ) × (text ≡ digits ++ rest) × IsNumeral 10 digits × (length digits ≤ 9) × IsOffset rest z

-- what stands behind the second: the offset, or a point and what stands behind one
abbrev pub IsTail : List ℕ → ℤ → Type 0
IsTail text z = IsOffset text z ⊎ ((rest : List ℕ) × (text ≡ 46 ∷ rest) × IsFractionTail rest z)

-- the text writes the time so many seconds after 0001-01-01T00:00:00 UTC, at most 9999-12-31T23:59:59 UTC
pub record IsTimeText (text : List ℕ) (seconds : ℕ) : Type 0 where
  pub day : ℤ
  pub clock : ℕ
  pub offset : ℤ
  pub date : IsFullDate (part 0 10 text) day
  pub separator : IsSeparator (part 10 1 text)
  pub time : IsClock (part 11 8 text) clock
  pub tail : IsTail (drop 19 text) offset
  pub value : pos seconds ≡ day *ℤ pos 86400 +ℤ pos clock -ℤ offset
  pub last : seconds ≤ 315537897599

-- the text of the time so many seconds after 0001-01-01T00:00:00 UTC, as `2024-06-19T17:30:05+00:00`
pub record IsPrintedTime (seconds : ℕ) (text : List ℕ) : Type 0 where
  pub year : ℕ
  pub month : ℕ
  pub mday : ℕ
  pub hour : ℕ
  pub minute : ℕ
  pub second : ℕ
  pub day : IsDayOf year month mday (pos (seconds / 86400))
  pub clock : (hour ≤ 23) × (minute ≤ 59) × (second ≤ 59) × (seconds % 86400 ≡ hour * 3600 + minute * 60 + second)
  pub spelled : text ≡ pad4 year ++ 45 ∷ pad2 month ++ 45 ∷ pad2 mday ++ 84 ∷ pad2 hour ++ 58 ∷ pad2 minute ++ 58 ∷ pad2 second ++ codes "+00:00"

-- ---- the same as functions

-- the number that exactly so many digits write, if they do
abbrev pub exactly_in : ℕ → List ℕ → Option ℕ
exactly_in len text = if length text == len then digits_in len text else None

-- the number that two digits write, where it is at most `most`
abbrev pub two_in : ℕ → List ℕ → Option ℕ
two_in most text = option_and_then (λ n. if nat_le n most then Some n else None) (exactly_in 2 text)

-- the calendar has the date, from the year 1 on
abbrev pub is_date : ℕ → ℕ → ℕ → Bool
is_date year month mday =
    is_in_range 1 9999 year && is_in_range 1 12 month && is_in_range 1 (days_in_month (pos year) month) mday

-- the days from 0001-01-01 to the date, if the calendar has it
abbrev pub day_in : ℕ → ℕ → ℕ → Option ℤ
day_in year month mday =
    if is_date year month mday then Some (days_from_civil (pos year) month mday -ℤ days_from_civil (pos 1) 1 1) else None

-- the day of a full-date
abbrev pub date_in : List ℕ → Option ℤ
date_in text =
    if bytes_eq (part 4 1 text) (45 ∷ []) && bytes_eq (part 7 1 text) (45 ∷ []) then
    option_and_then (λ year. option_and_then (λ month. option_and_then (λ mday. day_in year month mday)
    (exactly_in 2 (drop 8 text))) (exactly_in 2 (part 5 2 text))) (exactly_in 4 (part 0 4 text))
    else None

-- the seconds of hour, minute and second with colons between them
abbrev pub clock_in : List ℕ → Option ℕ
clock_in text =
    if bytes_eq (part 2 1 text) (58 ∷ []) && bytes_eq (part 5 1 text) (58 ∷ []) then
    option_and_then (λ hour. option_and_then (λ minute. option_map (λ second. hour * 3600 + minute * 60 + second)
    (two_in 59 (drop 6 text))) (two_in 59 (part 3 2 text))) (two_in 23 (part 0 2 text))
    else None

abbrev pub is_separator : List ℕ → Bool
is_separator text = bytes_eq text (84 ∷ []) || bytes_eq text (32 ∷ [])

-- the seconds of hours and minutes of an offset
abbrev pub shift_in : List ℕ → Option ℕ
shift_in text =
    option_and_then (λ hour. option_map (λ minute. hour * 3600 + minute * 60) (two_in 59 (behind_colon (drop 2 text))))
    (two_in 23 (part 0 2 text))

-- the seconds of an offset to the east
abbrev pub offset_in : List ℕ → Option ℤ
offset_in [] = Some (pos 0)
offset_in (b ∷ bs) =
    if b == 90 then (if length bs == 0 then Some (pos 0) else None)
    else (if b == 43 then option_map pos (shift_in bs)
    else (if b == 45 then option_map (λ n. neg_ℤ (pos n)) (shift_in bs) else None))

-- how many digits stand at the front
abbrev pub digits_ahead : List ℕ → ℕ
digits_ahead [] = 0
digits_ahead (b ∷ bs) = if is_digit b then suc (digits_ahead bs) else 0

-- the offset behind the digits of a fraction
abbrev pub fraction_tail_in : List ℕ → Option ℤ
fraction_tail_in text =
    if is_in_range 1 9 (digits_ahead text) then offset_in (drop (digits_ahead text) text) else None

-- the offset behind the second, and behind its fraction, if there is one
abbrev pub tail_in : List ℕ → Option ℤ
tail_in text = if bytes_eq (take 1 text) (46 ∷ []) then fraction_tail_in (drop 1 text) else offset_in text

-- the seconds as they are, where they lie in the years 0001 to 9999
abbrev pub seconds_in : ℤ → Option ℕ
seconds_in (pos n) = if nat_le n 315537897599 then Some n else None
seconds_in (negsuc n) = None

-- the time that the text writes, in seconds after 0001-01-01T00:00:00 UTC, if it writes one
unfoldable pub time_in : List ℕ → Option ℕ
time_in text =
    if is_separator (part 10 1 text) then
    option_and_then (λ day. option_and_then (λ clock. option_and_then
    (λ offset. seconds_in (day *ℤ pos 86400 +ℤ pos clock -ℤ offset))
    (tail_in (drop 19 text))) (clock_in (part 11 8 text))) (date_in (part 0 10 text))
    else None

-- The year of a day, and the day's place in it, from 0: the day is so many days after the year's first, and years are
-- taken off while the day isn't in them, at most so many.
unfoldable pub year_of_day : ℕ → ℕ → ℕ → ℕ × ℕ
year_of_day zero year day = (year, day)
year_of_day (suc most) year day =
    if nat_lt day (days_in_year (pos year)) then (year, day)
    else year_of_day most (suc year) (day - days_in_year (pos year))

-- the month of a day of a year, and the day's place in it, from 0, by taking months off
unfoldable pub month_of_day : ℕ → ℕ → ℕ → ℕ → ℕ × ℕ
month_of_day zero year month day = (month, day)
month_of_day (suc most) year month day =
    if nat_lt day (days_in_month (pos year) month) then (month, day)
    else month_of_day most year (suc month) (day - days_in_month (pos year) month)

-- a date as `2024-06-19`
abbrev pub date_text : ℕ → ℕ → ℕ → List ℕ
date_text year month mday = pad4 year ++ 45 ∷ pad2 month ++ 45 ∷ pad2 mday

-- the date so many days after 0001-01-01
abbrev pub day_text : ℕ → List ℕ
day_text day =
    let year = year_of_day 9998 1 day in
    let month = month_of_day 11 year.0 1 year.1 in
    date_text year.0 month.0 (month.1 + 1)

-- the clock so many seconds after midnight
abbrev pub clock_text : ℕ → List ℕ
clock_text n = pad2 (n / 3600) ++ 58 ∷ pad2 (n / 60 % 60) ++ 58 ∷ pad2 (n % 60)

-- the text of the time so many seconds after 0001-01-01T00:00:00 UTC
unfoldable pub time_text : ℕ → List ℕ
time_text seconds = day_text (seconds / 86400) ++ 84 ∷ clock_text (seconds % 86400) ++ codes "+00:00"
