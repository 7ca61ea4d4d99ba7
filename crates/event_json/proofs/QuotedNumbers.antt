-- A number as the JSON reader reads it is one by the rules of quoting.
use Rattle.std.proofs.Common.{◌≡◌, ℕ, suc, ◌+◌, Bool, true, false, cond, ◌&&◌, ◌||◌, ◌==◌, List, [], ◌∷◌, length, drop, Option, Some, None, option_and_then, if◌then◌else◌, refl, sym, ap, ◌∙◌, arith}
use Rattle.std.proofs.lemmas.Bool.{and_from}
use Rattle.std.proofs.lemmas.Option.{none-some, same_Some}
use Rattle.std.specs.List.{prefix_len}
use Rattle.std.specs.Char.{is_ascii_digit}
use Rattle.json.specs.Word.{after_digits, after_minus, after_sign, after_whole, after_fraction, after_exponent, after_number}
use Rattle.json.specs.Print.{IsNumber}
use Rattle.scalar_text.specs.Quote as quoting

-- ---- digits

skipped : (d : Bool) (x : ℕ) (xs : List ℕ) (n : ℕ) → quoting.behind_digits xs ≡ drop n xs → (if d then quoting.behind_digits xs else x ∷ xs) ≡ drop (cond d (1 + n) 0) (x ∷ xs)
skipped true x xs n ih = let e : suc n ≡ 1 + n = omega arith in ih ∙ ap (λ k. drop k (x ∷ xs)) e
skipped false x xs n ih = refl

behind_is : (t : List ℕ) → quoting.behind_digits t ≡ drop (prefix_len is_ascii_digit t) t
behind_is [] = refl
behind_is (x ∷ xs) = skipped (is_ascii_digit x) x xs (prefix_len is_ascii_digit xs) (behind_is xs)

-- a digit at least stands at the front, and this behind the digits
record Digits (t rest : List ℕ) : Type 0 where
  starts : quoting.starts_with_digit t ≡ true
  behind : quoting.behind_digits t ≡ rest

starts_at : (d : Bool) (n : ℕ) (t rest : List ℕ) → cond (cond d (1 + n) 0 == 0) None (Some t) ≡ Some rest → d ≡ true
starts_at true n t rest e = refl
starts_at false n t rest e = absurd (none-some rest e)

left_at : (z : Bool) (t rest : List ℕ) → cond z None (Some t) ≡ Some rest → t ≡ rest
left_at true t rest e = absurd (none-some rest e)
left_at false t rest e = same_Some t rest e

digits : (t rest : List ℕ) → after_digits t ≡ Some rest → Digits t rest
digits [] rest e = absurd (none-some rest e)
digits (x ∷ xs) rest e = record {
  starts = starts_at (is_ascii_digit x) (prefix_len is_ascii_digit xs) _ rest e;
  behind = behind_is (x ∷ xs) ∙ left_at (prefix_len is_ascii_digit (x ∷ xs) == 0) _ rest e;
}

only_digits : (t : List ℕ) → after_digits t ≡ Some [] → quoting.is_digits t ≡ true
only_digits t e = let d = digits t [] e in and_from _ _ d.starts (ap (λ r. length r == 0) d.behind)

-- ---- the parts of a number

signed : (minus plus : Bool) (x : ℕ) (xs : List ℕ) → after_digits (cond (minus || plus) xs (x ∷ xs)) ≡ Some [] → (if plus || minus then quoting.is_digits xs else quoting.is_digits (x ∷ xs)) ≡ true
signed true true x xs e = only_digits xs e
signed true false x xs e = only_digits xs e
signed false true x xs e = only_digits xs e
signed false false x xs e = only_digits (x ∷ xs) e

signed_digits : (t : List ℕ) → after_digits (after_sign t) ≡ Some [] → quoting.is_signed_digits t ≡ true
signed_digits [] e = absurd (none-some _ e)
signed_digits (x ∷ xs) e = signed (x == 45) (x == 43) x xs e

exponent_by : (lower upper : Bool) (x : ℕ) (xs : List ℕ) → cond (lower || upper) (after_digits (after_sign xs)) (Some (x ∷ xs)) ≡ Some [] → ((upper || lower) && quoting.is_signed_digits xs) ≡ true
exponent_by true true x xs e = signed_digits xs e
exponent_by true false x xs e = signed_digits xs e
exponent_by false true x xs e = signed_digits xs e
exponent_by false false x xs e = let never : (x ∷ xs) ≡ [] = same_Some (x ∷ xs) [] e in absurd (cc)

exponent : (t : List ℕ) → after_exponent t ≡ Some [] → quoting.is_exponent t ≡ true
exponent [] e = refl
exponent (x ∷ xs) e = exponent_by (x == 101) (x == 69) x xs e

-- a part that is read, and then another
record Both (f : List ℕ → Option (List ℕ)) (o : Option (List ℕ)) (rest : List ℕ) : Type 0 where
  middle : List ℕ
  first : o ≡ Some middle
  second : f middle ≡ Some rest

both : (f : List ℕ → Option (List ℕ)) (o : Option (List ℕ)) (rest : List ℕ) → option_and_then f o ≡ Some rest → Both f o rest
both f None rest e = absurd (none-some rest e)
both f (Some t) rest e = record { middle = t; first = refl; second = e }

fraction_by : (dot : Bool) (x : ℕ) (xs : List ℕ) → option_and_then after_exponent (cond dot (after_digits xs) (Some (x ∷ xs))) ≡ Some []
    → (if dot then quoting.starts_with_digit xs && quoting.is_exponent (quoting.behind_digits xs) else quoting.is_exponent (x ∷ xs)) ≡ true
fraction_by true x xs e =
    let b = both after_exponent (after_digits xs) [] e in
    let d = digits xs b.middle b.first in
    and_from _ _ d.starts (ap quoting.is_exponent d.behind ∙ exponent b.middle b.second)
fraction_by false x xs e = exponent (x ∷ xs) e

fraction : (t : List ℕ) → option_and_then after_exponent (after_fraction t) ≡ Some [] → quoting.is_fraction t ≡ true
fraction [] e = refl
fraction (x ∷ xs) e = fraction_by (x == 46) x xs e

abbrev behind_whole : List ℕ → Option (List ℕ)
behind_whole t = option_and_then after_exponent (after_fraction t)

first_digit : (x : ℕ) (xs rest : List ℕ) (d : Bool) → is_ascii_digit x ≡ d → d ≡ true → (if d then quoting.behind_digits xs else x ∷ xs) ≡ rest → quoting.behind_digits xs ≡ rest
first_digit x xs rest true is so e = e
first_digit x xs rest false is so e = absurd (cc)

whole_by : (zero : Bool) (x : ℕ) (xs : List ℕ) → option_and_then behind_whole (cond zero (Some xs) (after_digits (x ∷ xs))) ≡ Some []
    → (if zero then quoting.is_fraction xs else (quoting.is_digit x && quoting.is_fraction (quoting.behind_digits xs))) ≡ true
whole_by true x xs e = fraction xs e
whole_by false x xs e =
    let b = both behind_whole (after_digits (x ∷ xs)) [] e in
    let d = digits (x ∷ xs) b.middle b.first in
    and_from _ _ d.starts (ap quoting.is_fraction (first_digit x xs b.middle (is_ascii_digit x) refl d.starts d.behind) ∙ fraction b.middle b.second)

whole : (t : List ℕ) → option_and_then behind_whole (after_whole t) ≡ Some [] → quoting.is_unsigned t ≡ true
whole [] e = absurd (none-some _ e)
whole (x ∷ xs) e = whole_by (x == 48) x xs e

chained : (o : Option (List ℕ)) → option_and_then after_exponent (option_and_then after_fraction o) ≡ option_and_then behind_whole o
chained None = refl
chained (Some t) = refl

number_by : (minus : Bool) (x : ℕ) (xs : List ℕ) → option_and_then behind_whole (after_whole (cond minus xs (x ∷ xs))) ≡ Some [] → (if minus then quoting.is_unsigned xs else quoting.is_unsigned (x ∷ xs)) ≡ true
number_by true x xs e = whole xs e
number_by false x xs e = whole (x ∷ xs) e

pub number_is : (s : List ℕ) → IsNumber s → quoting.is_number s ≡ true
unfolding after_number
number_is [] e = absurd (none-some _ e)
number_is (x ∷ xs) e = number_by (x == 45) x xs (sym (chained (after_whole (after_minus (x ∷ xs)))) ∙ e)
