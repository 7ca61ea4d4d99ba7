-- Texts of decimal digits.
use Rattle.std.proofs.Common.{◌≡◌, ℕ, zero, suc, ◌+◌, ◌*◌, ◌^◌, ◌<◌, ◌≤◌, List, [], ◌∷◌, length, get_or, take, arith, Bool, true, false, ◌&&◌, nat_lt, nat_le, Option, Some, None, refl, ap, if◌then◌else◌}
use Rattle.std.proofs.Math.Nat.{pow-le-pow_right}
use Rattle.std.proofs.lemmas.List.{length-take-le}
use Rattle.std.proofs.lemmas.Int.Digits.{digits_value-lt, digits_more, digits_value_more}
use Rattle.std.proofs.lemmas.Bool.{lt-ltb, le-leb, ltb-true, leb-true, and_parts}
use Rattle.std.proofs.lemmas.Str.Parse.{IsNumeralModel, numerals_by_value, tells_all_ascii_digits}
use Rattle.std.specs.Str.{all_ascii_digits}
use Rattle.std.specs.Char.{digit_value}
use Rattle.std.specs.Str.Parse.{AllDigits, digits_value}
use Rattle.base_types.specs.Digits.{IsDigits, digits_in}

-- each byte of a numeral is a digit
pub AllDigits_at : (ds : List ℕ) (i d : ℕ) → AllDigits 10 ds → i < length ds → digit_value (get_or ds i d) < 10
AllDigits_at [] i d h within = absurd (omega arith)
AllDigits_at (c ∷ cs) zero d h within = h.0
AllDigits_at (c ∷ cs) (suc i) d h within = AllDigits_at cs i d h.1 (omega arith)

pub no_numeral : (ds : List ℕ) (i byte : ℕ) → byte ≡ get_or ds i 0 → i < length ds → ¬ (digit_value byte < 10) → ¬ (AllDigits 10 ds)
no_numeral ds i byte at within other all = other (rw at (AllDigits_at ds i 0 all within))

-- up to 18 digits write a number below 10 ^ 18
pub eighteen_digits : (text : List ℕ) (i value : ℕ) → i < length text → length text ≤ 19 → AllDigits 10 (take i text) → value ≡ digits_value 10 (take i text) → value < 1000000000000000000
eighteen_digits text i value within short all is =
    let below = digits_value-lt 10 (take i text) all in
    let len = length-take-le i text (omega arith) in
    let most : 10 ^ length (take i text) ≤ 10 ^ 18 = let ten : 0 < 10 = omega arith in let few : length (take i text) ≤ 18 = omega arith in pow-le-pow_right ten few in
    omega arith

-- digits write a number below that power of ten
pub below_power : (text : List ℕ) (i most value : ℕ) → i ≡ length text → length text ≤ most → AllDigits 10 (take i text) → value ≡ digits_value 10 (take i text) → value < 10 ^ most
below_power text i most value end short all is =
    let below = digits_value-lt 10 (take i text) all in
    let len = length-take-le i text (omega arith) in
    let power : 10 ^ length (take i text) ≤ 10 ^ most = let ten : 0 < 10 = omega arith in let few : length (take i text) ≤ most = omega arith in pow-le-pow_right ten few in
    omega arith

-- one more digit
pub AllDigits-more : (s : List ℕ) (i byte : ℕ) → i < length s → AllDigits 10 (take i s) → byte ≡ get_or s i 0 → digit_value byte < 10 → AllDigits 10 (take (i + 1) s)
AllDigits-more s i byte within all at digit = digits_more 10 s i within all (rw (← at) digit)

pub digits_value-more : (s : List ℕ) (i value byte digit : ℕ) → i < length s → value ≡ digits_value 10 (take i s) → byte ≡ get_or s i 0 → digit ≡ digit_value byte → value * 10 + digit ≡ digits_value 10 (take (i + 1) s)
digits_value-more s i value byte digit within is at written = rw (digits_value_more 10 s i within, ← at, ← is, written)

-- the number in a text, by what its reader answers
pub digits_model : IsNumeralModel (λ ds. all_ascii_digits ds ≡ true) (digits_value 10)
digits_model = numerals_by_value (λ ds. all_ascii_digits ds ≡ true) tells_all_ascii_digits

pub digits_in-some : (most : ℕ) (text : List ℕ) (n : ℕ) → IsDigits most text n → digits_in most text ≡ Some n
unfolding digits_in
digits_in-some most text n h =
    let digits : all_ascii_digits text ≡ true = digits_model.from text h.0.0.1 in
    rw (lt-ltb 0 (length text) h.0.0.0, le-leb (length text) most h.1, digits) (ap Some h.0.1)

digits_if : (most : ℕ) (text : List ℕ) (b : Bool) → (nat_lt 0 (length text) && nat_le (length text) most && all_ascii_digits text) ≡ b → ((n : ℕ) → ¬ (IsDigits most text n)) → ◌≡◌ {A = Option ℕ} (if b then Some (digits_value 10 text) else None) None
digits_if most text false test none = refl
digits_if most text true test none =
    let lengths = (and_parts _ (all_ascii_digits text) test).0 in
    let digits = digits_model.to text (and_parts (nat_lt 0 (length text) && nat_le (length text) most) _ test).1 in
    let some = ltb-true 0 (length text) (and_parts _ _ lengths).0 in
    let few = leb-true (length text) most (and_parts (nat_lt 0 (length text)) _ lengths).1 in
    absurd (none (digits_value 10 text) (((some, digits), refl), few))

pub digits_in-none : (most : ℕ) (text : List ℕ) → ((n : ℕ) → ¬ (IsDigits most text n)) → digits_in most text ≡ None
unfolding digits_in
digits_in-none most text none = digits_if most text (nat_lt 0 (length text) && nat_le (length text) most && all_ascii_digits text) refl none

-- two readings of one text give one number
pub same_digits : (most : ℕ) (a b : List ℕ) (m n : ℕ) → a ≡ b → IsDigits most a m → IsDigits most b n → m ≡ n
same_digits most a b m n same first second = cc
