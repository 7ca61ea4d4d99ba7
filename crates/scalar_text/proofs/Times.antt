-- Days of the calendar and texts of times.
use Rattle.std.proofs.Common.{◌≡◌, ℕ, zero, suc, ◌≤◌, ◌<◌, inl, inr, ℤ, pos, neg_ℤ, ◌+ℤ◌, ◌-ℤ◌, ◌*ℤ◌, to_z, of_z, w64, refl, sym, ap, ◌∙◌, subst, List, [], ◌∷◌, ◌++◌, length, get_or, take, drop, Option, Some, None, MatchOption, arith}
use Rattle.std.proofs.lemmas.Int.{to_z_pos}
use Rattle.std.specs.Char.{digit_value}
use Rattle.std.specs.Str.Parse.{AllDigits}
use Rattle.std.proofs.lemmas.List.{length-take-le, take-append-drop}
use Rattle.jiff_core.specs.Calendar.{IsDate, IsBetween, days_from_civil, day_count}
use Rattle.jiff_core.proofs.SignedLemmas.{signed_arith}
use Rattle.jiff_core.proofs.CalendarLemmas.{days_from_civil-day_count}
use Rattle.jiff_core.proofs.MarchLemmas.{day_count-early}
use Rattle.scalar_text.specs.Time.{IsExactly, IsTwoDigits, part, IsDayOf, IsFullDate, IsClock, IsShift, IsOffset, IsNoDigitAhead, IsFractionTail, IsTail, IsTimeText}

pub first_day_count : day_count (pos 1) 1 1 ≡ 3652791
first_day_count = day_count-early (pos 1) 10000 1 1 refl (omega arith) (omega arith) (omega arith)

-- 0001-01-01 is so many days before 1970-01-01
pub first_day : days_from_civil (pos 1) 1 1 ≡ neg_ℤ (pos 719162)
first_day = omega (arith, signed_arith, days_from_civil-day_count (pos 1) 1 1, first_day_count)

-- digits write one number
pub same_digits : (len : ℕ) (text : List ℕ) (a b : ℕ) → IsExactly len text a → IsExactly len text b → a ≡ b
same_digits len text a b h k = sym h.0.1 ∙ k.0.1

same_two : (most : ℕ) (text : List ℕ) (a b : ℕ) → IsTwoDigits most text a → IsTwoDigits most text b → a ≡ b
same_two most text a b h k = same_digits 2 text a b h.0 k.0

pub same_date : (text : List ℕ) (a b : ℤ) → IsFullDate text a → IsFullDate text b → a ≡ b
same_date text a b (y, m, d, hy, _, hm, _, hd, hz) (y₂, m₂, d₂, ky, _, km, _, kd, kz) =
    let ey = same_digits 4 _ y y₂ hy ky in
    let em = same_digits 2 _ m m₂ hm km in
    let ed = same_digits 2 _ d d₂ hd kd in
    cc

pub same_clock : (text : List ℕ) (a b : ℕ) → IsClock text a → IsClock text b → a ≡ b
same_clock text a b (h, m, s, hh, _, hm, _, hs, hz) (h₂, m₂, s₂, kh, _, km, _, ks, kz) =
    let eh = same_two 23 _ h h₂ hh kh in
    let em = same_two 59 _ m m₂ hm km in
    let es = same_two 59 _ s s₂ hs ks in
    omega arith

-- a date of the same numbers
pub date_of : (y m d y₂ m₂ d₂ : ℤ) → y ≡ y₂ → m ≡ m₂ → d ≡ d₂ → IsDate y m d → IsDate y₂ m₂ d₂
date_of y m d y₂ m₂ d₂ ey em ed is = subst (λ x. IsDate x m₂ d₂) ey (subst (λ x. IsDate y x d₂) em (subst (λ x. IsDate y m x) ed is))

pub date_number : (y : ℤ) (m d : ℕ) (y₂ : ℤ) (m₂ d₂ : ℕ) → y ≡ y₂ → pos m ≡ pos m₂ → pos d ≡ pos d₂ → days_from_civil y m d ≡ days_from_civil y₂ m₂ d₂
date_number y m d y₂ m₂ d₂ ey em ed =
    let e : m ≡ m₂ = cc in
    let f : d ≡ d₂ = cc in
    cc

-- the date of a text is that of its numbers
pub other_date : (text : List ℕ) (y m d : ℕ) → IsExactly 4 (part 0 4 text) y → IsExactly 2 (part 5 2 text) m → IsExactly 2 (drop 8 text) d → (day : ℤ) → IsFullDate text day → IsDayOf y m d day
other_date text y m d hy hm hd day (y₂, m₂, d₂, ky, _, km, _, kd, kz) =
    let ey : y₂ ≡ y = same_digits 4 _ y₂ y ky hy in
    let em : m₂ ≡ m = same_digits 2 _ m₂ m km hm in
    let ed : d₂ ≡ d = same_digits 2 _ d₂ d kd hd in
    subst (λ x. IsDayOf x m d day) ey (subst (λ x. IsDayOf y₂ x d day) em (subst (λ x. IsDayOf y₂ m₂ x day) ed kz))

same_shift : (text : List ℕ) (a b : ℕ) → IsShift text a → IsShift text b → a ≡ b
same_shift text a b (h, m, hh, hm, hz) (h₂, m₂, kh, km, kz) =
    let eh = same_two 23 _ h h₂ hh kh in
    let em = same_two 59 _ m m₂ hm km in
    omega arith

same_offset : (text : List ℕ) (a b : ℤ) → IsOffset text a → IsOffset text b → a ≡ b
same_offset [] a b h k = h ∙ sym k
same_offset (c ∷ cs) a b (inl h) (inl k) = h.2 ∙ sym k.2
same_offset (c ∷ cs) a b (inl h) (inr (inl k)) = absurd (omega (arith, h.0, k.1))
same_offset (c ∷ cs) a b (inl h) (inr (inr k)) = absurd (omega (arith, h.0, k.1))
same_offset (c ∷ cs) a b (inr (inl h)) (inl k) = absurd (omega (arith, h.1, k.0))
same_offset (c ∷ cs) a b (inr (inl h)) (inr (inl k)) = h.3 ∙ ap pos (same_shift cs h.0 k.0 h.2 k.2) ∙ sym k.3
same_offset (c ∷ cs) a b (inr (inl h)) (inr (inr k)) = absurd (omega (arith, h.1, k.1))
same_offset (c ∷ cs) a b (inr (inr h)) (inl k) = absurd (omega (arith, h.1, k.0))
same_offset (c ∷ cs) a b (inr (inr h)) (inr (inl k)) = absurd (omega (arith, h.1, k.1))
same_offset (c ∷ cs) a b (inr (inr h)) (inr (inr k)) = h.3 ∙ ap (λ n. neg_ℤ (pos n)) (same_shift cs h.0 k.0 h.2 k.2) ∙ sym k.3

-- no digit stands at the front of an offset
pub offset_ahead : (text : List ℕ) (z : ℤ) → IsOffset text z → IsNoDigitAhead text
offset_ahead [] z h = tt
offset_ahead (b ∷ bs) z (inl h) = subst (λ x. ¬ (digit_value x < 10)) (sym h.0) (λ lt. absurd (omega (arith, lt)))
offset_ahead (b ∷ bs) z (inr (inl h)) = subst (λ x. ¬ (digit_value x < 10)) (sym h.1) (λ lt. absurd (omega (arith, lt)))
offset_ahead (b ∷ bs) z (inr (inr h)) = subst (λ x. ¬ (digit_value x < 10)) (sym h.1) (λ lt. absurd (omega (arith, lt)))

first_same : (a b : ℕ) (xs ys : List ℕ) → a ∷ xs ≡ b ∷ ys → a ≡ b
first_same a b xs ys e = cc

rest_same : (a b : ℕ) (xs ys : List ℕ) → a ∷ xs ≡ b ∷ ys → xs ≡ ys
rest_same a b xs ys e = cc

-- a text is split in one way into digits and what has none in front
pub same_split : (ds es r s : List ℕ) → AllDigits 10 ds → AllDigits 10 es → IsNoDigitAhead r → IsNoDigitAhead s → ds ++ r ≡ es ++ s → (ds ≡ es) × (r ≡ s)
same_split [] [] r s all every free clear e = (refl, e)
same_split [] (c ∷ es) r s all every free clear e = absurd (subst IsNoDigitAhead e free every.0)
same_split (d ∷ ds) [] r s all every free clear e = absurd (subst IsNoDigitAhead (sym e) clear all.0)
same_split (d ∷ ds) (c ∷ es) r s all every free clear e =
    let front = first_same d c _ _ e in
    let more = same_split ds es r s all.1 every.1 free clear (rest_same d c _ _ e) in
    (ap (λ x. x ∷ ds) front ∙ ap (λ t. c ∷ t) more.0, more.1)

same_fraction_tail : (text : List ℕ) (a b : ℤ) → IsFractionTail text a → IsFractionTail text b → a ≡ b
same_fraction_tail text a b (ds, r, et, hd, _, h) (es, s, es-is, kd, _, k) =
    let same = (same_split ds es r s hd.1 kd.1 (offset_ahead r a h) (offset_ahead s b k) (sym et ∙ es-is)).1 in
    same_offset s a b (subst (λ t. IsOffset t a) same h) k

-- an offset begins with no point
pub no_point : (rest : List ℕ) (z : ℤ) → ¬ (IsOffset (46 ∷ rest) z)
no_point rest z (inl h) = absurd (omega (arith, h.0))
no_point rest z (inr (inl h)) = absurd (omega (arith, h.1))
no_point rest z (inr (inr h)) = absurd (omega (arith, h.1))

pub same_tail : (text : List ℕ) (a b : ℤ) → IsTail text a → IsTail text b → a ≡ b
same_tail text a b (inl h) (inl k) = same_offset text a b h k
same_tail text a b (inl h) (inr (s, e, k)) = absurd (no_point s a (subst (λ t. IsOffset t a) e h))
same_tail text a b (inr (r, e, h)) (inl k) = absurd (no_point r b (subst (λ t. IsOffset t b) e k))
same_tail text a b (inr (r, e, h)) (inr (s, f, k)) = same_fraction_tail s a b (subst (λ t. IsFractionTail t a) (rest_same 46 46 r s (sym e ∙ f)) h) k

-- the tail of a text is the offset behind its digits
pub tail_at : (text : List ℕ) (n : ℕ) (z : ℤ) → n ≤ length text → AllDigits 10 (take n text) → IsNoDigitAhead (drop n text) → IsFractionTail text z → (0 < n) × (n ≤ 9) × IsOffset (drop n text) z
tail_at text n z within all end (ds, r, e, hd, few, h) =
    let same = same_split (take n text) ds (drop n text) r all hd.1 end (offset_ahead r z h) (take-append-drop n text ∙ e) in
    let len : length ds ≡ n = ap length (sym same.0) ∙ length-take-le n text within in
    (omega (arith, hd.0), omega arith, subst (λ t. IsOffset t z) (sym same.1) h)

pub tail_of : (text : List ℕ) (n : ℕ) (z : ℤ) → n ≤ length text → AllDigits 10 (take n text) → 0 < n → n ≤ 9 → IsOffset (drop n text) z → IsFractionTail text z
tail_of text n z within all some few h =
    let len = length-take-le n text within in
    (take n text, drop n text, sym (take-append-drop n text), (omega (arith, len), all), omega (arith, len), h)

pub ahead_at : (text : List ℕ) (i byte : ℕ) → i < length text → byte ≡ get_or text i 0 → ¬ (digit_value byte < 10) → IsNoDigitAhead (drop i text)
ahead_at [] i byte within at other = absurd (omega arith)
ahead_at (b ∷ bs) zero byte within at other = subst (λ x. ¬ (digit_value x < 10)) at other
ahead_at (b ∷ bs) (suc i) byte within at other = ahead_at bs i byte (omega arith) at other

no_east : (b : ℕ) (bs : List ℕ) (z : ℤ) → b ≡ 43 → ((n : ℕ) → ¬ (IsShift bs n)) → ¬ (IsOffset (b ∷ bs) z)
no_east b bs z plus h (inl k) = absurd (omega (arith, k.0))
no_east b bs z plus h (inr (inl k)) = h k.0 k.2
no_east b bs z plus h (inr (inr k)) = absurd (omega (arith, k.1))

-- an offset with a sign is that of its hours and minutes
pub east_cases : (text : List ℕ) (r : Option ℤ) → 0 < length text → get_or text 0 0 ≡ 43 → MatchOption r ((n : ℕ) → ¬ (IsShift (drop 1 text) n)) (λ z. (n : ℕ) × IsShift (drop 1 text) n × (z ≡ pos n)) → MatchOption r ((z : ℤ) → ¬ (IsOffset text z)) (IsOffset text)
east_cases [] r some plus h = absurd (omega arith)
east_cases (b ∷ bs) (Some z) some plus h = inr (inl (h.0, plus, h.1, h.2))
east_cases (b ∷ bs) None some plus h = λ z k. no_east b bs z plus h k

no_west : (b : ℕ) (bs : List ℕ) (z : ℤ) → b ≡ 45 → ((n : ℕ) → ¬ (IsShift bs n)) → ¬ (IsOffset (b ∷ bs) z)
no_west b bs z minus h (inl k) = absurd (omega (arith, k.0))
no_west b bs z minus h (inr (inl k)) = absurd (omega (arith, k.1))
no_west b bs z minus h (inr (inr k)) = h k.0 k.2

pub west_cases : (text : List ℕ) (r : Option ℤ) → 0 < length text → get_or text 0 0 ≡ 45 → MatchOption r ((n : ℕ) → ¬ (IsShift (drop 1 text) n)) (λ z. (n : ℕ) × IsShift (drop 1 text) n × (z ≡ neg_ℤ (pos n))) → MatchOption r ((z : ℤ) → ¬ (IsOffset text z)) (IsOffset text)
west_cases [] r some minus h = absurd (omega arith)
west_cases (b ∷ bs) (Some z) some minus h = inr (inr (h.0, minus, h.1, h.2))
west_cases (b ∷ bs) None some minus h = λ z k. no_west b bs z minus h k

-- the seconds of parts that are in range, in 64 bits
pub in_64_bits : (day offset : ℤ) (clock : ℕ) → IsBetween (neg_ℤ (pos 10000000)) (pos 10000000) day → clock < 86400 → IsBetween (neg_ℤ (pos 86400)) (pos 86400) offset → to_z w64 (of_z w64 (to_z w64 (of_z w64 (to_z w64 (of_z w64 (to_z w64 (of_z w64 day) *ℤ pos 86400)) +ℤ to_z w64 clock)) -ℤ to_z w64 (of_z w64 offset))) ≡ day *ℤ pos 86400 +ℤ pos clock -ℤ offset
in_64_bits day offset clock d c o =
    let small : to_z w64 clock ≡ pos clock = to_z_pos w64 clock (omega arith) in
    omega (arith, signed_arith)

pub same_parts : {day day₂ offset offset₂ : ℤ} {clock clock₂ n : ℕ} → day ≡ day₂ → clock ≡ clock₂ → offset ≡ offset₂ → pos n ≡ day *ℤ pos 86400 +ℤ pos clock -ℤ offset → pos n ≡ day₂ *ℤ pos 86400 +ℤ pos clock₂ -ℤ offset₂
same_parts d c o value = cc

pub point_then : (text : List ℕ) → take 1 text ≡ 46 ∷ [] → text ≡ 46 ∷ drop 1 text
point_then [] e = absurd (cc)
point_then (b ∷ bs) e = ap (λ x. x ∷ bs) (first_same b 46 [] [] e)

pub no_point_tail : (text : List ℕ) (z : ℤ) → text ≡ 46 ∷ drop 1 text → ¬ (IsFractionTail (drop 1 text) z) → ¬ (IsTail text z)
no_point_tail text z e bad (inl h) = no_point (drop 1 text) z (subst (λ t. IsOffset t z) e h)
no_point_tail text z e bad (inr (r, f, h)) = bad (subst (λ t. IsFractionTail t z) (sym (ap (λ t. drop 1 t) f)) h)

-- the tail with a point is what stands behind that
pub fraction_cases : (text : List ℕ) (r : Option ℤ) → take 1 text ≡ 46 ∷ [] → MatchOption r ((z : ℤ) → ¬ (IsFractionTail (drop 1 text) z)) (IsFractionTail (drop 1 text)) → MatchOption r ((z : ℤ) → ¬ (IsTail text z)) (IsTail text)
fraction_cases text None point h = λ z k. no_point_tail text z (point_then text point) (h z) k
fraction_cases text (Some z) point h = inr (drop 1 text, point_then text point, h)

-- a text writes one time at most
pub same_time : (text : List ℕ) (a b : ℕ) → IsTimeText text a → IsTimeText text b → a ≡ b
same_time text a b h k =
    let day = same_date _ h.day k.day h.date k.date in
    let clock = same_clock _ h.clock k.clock h.time k.time in
    let offset = same_tail _ h.offset k.offset h.tail k.tail in
    let same : pos a ≡ pos b = same_parts day clock offset h.value ∙ sym k.value in
    cc
