-- Digits behind a point.
use Rattle.std.proofs.Common.{◌++◌, ap, ◌≡◌, ℕ, zero, suc, ◌+◌, ◌-◌, ◌*◌, ◌^◌, ◌<◌, ◌≤◌, List, [], ◌∷◌, length, take, arith}
use Rattle.std.proofs.lemmas.Bool.{ne_eqb}
use Rattle.std.specs.Char.{digit_value}
use Rattle.std.specs.Str.Parse.{AllDigits, IsNumeral}
use Rattle.scalar_text.specs.Number.{first_digit, behind_first, digits_until_zero}
use Rattle.std.proofs.lemmas.List.{append_assoc, length-take}

-- a digit has the value that it is written for
pub digit_is : (k : ℕ) → k < 10 → digit_value (48 + k) ≡ k
digit_is k h = grind arith

-- so many digits and zeros behind them write less than a million
pub part_below : (value len : ℕ) → len ≤ 6 → value < 10 ^ len → value * 10 ^ (6 - len) < 1000000
part_below value zero few below = omega arith
part_below value (suc zero) few below = omega arith
part_below value (suc (suc zero)) few below = omega arith
part_below value (suc (suc (suc zero))) few below = omega arith
part_below value (suc (suc (suc (suc zero)))) few below = omega arith
part_below value (suc (suc (suc (suc (suc zero))))) few below = omega arith
part_below value (suc (suc (suc (suc (suc (suc zero)))))) few below = omega arith
part_below value (suc (suc (suc (suc (suc (suc (suc len))))))) few below = absurd (omega arith)

pub front_digits : (n : ℕ) (ds : List ℕ) → AllDigits 10 ds → AllDigits 10 (take n ds)
front_digits zero ds all = tt
front_digits (suc n) [] all = tt
front_digits (suc n) (d ∷ ds) all = (all.0, front_digits n ds all.1)

front_some : (ds : List ℕ) → 0 < length ds → 0 < length (take 6 ds)
front_some [] some = absurd (omega arith)
front_some (d ∷ ds) some = omega arith

-- the first digits of a numeral are one
pub front_numeral : (ds : List ℕ) → IsNumeral 10 ds → IsNumeral 10 (take 6 ds)
front_numeral ds all = (front_some ds all.0, front_digits 6 ds all.1)

pub front_short : (ds front : List ℕ) → front ≡ take 6 ds → length front ≤ 6
front_short ds front is = rw (is, length-take 6 ds) (omega arith)

-- the next digit of millionths
next_digit : (left n : ℕ) → 0 < left → (n ≡ 0 → ⊥) → digits_until_zero left n ≡ first_digit n ∷ digits_until_zero (left - 1) (behind_first n)
next_digit zero n some other = absurd (omega arith)
next_digit (suc left) n some other = let less : left ≡ suc left - 1 = omega arith in rw (ne_eqb n 0 other) (ap (λ k. first_digit n ∷ digits_until_zero k (behind_first n)) less)

-- that digit is pushed, and the others follow
pub pushed_digit : (old new pushed whole : List ℕ) (d left n next : ℕ) → new ≡ old ++ pushed → pushed ≡ d ∷ [] → d ≡ first_digit n → next ≡ behind_first n → 0 < left → (n ≡ 0 → ⊥) → old ++ digits_until_zero left n ≡ whole → new ++ digits_until_zero (left - 1) next ≡ whole
pushed_digit old new pushed whole d left n next is_new is_pushed is_d is_next some other is =
    rw (is_new, is_pushed, is_d, is_next, append_assoc old (first_digit n ∷ []) (digits_until_zero (left - 1) (behind_first n)), ← next_digit left n some other) is
