-- Numerals of few digits, and of decimals.
use Rattle.std.proofs.Common.{◌≡◌, ℕ, ◌≤◌, true, false, ◌||◌, ◌==◌, List, [], ◌∷◌, length, get_or, codes, count_by, nat_lt, inl, inr, ◌⊎◌, refl, sym, ap, ◌∙◌, arith}
use Rattle.std.proofs.lemmas.Bool.{true≢false, eqb-true, ltb-true, and_parts, cases_Bool}
use Rattle.std.proofs.lemmas.List.Sums.{count_by-le-length}
use Rattle.std.proofs.lemmas.Slice.Eq.{bytes_eq-Decides}
use Rattle.std.specs.List.{list_all, list_any}
use Rattle.std.specs.Str.{bytes_eq}
use Rattle.scalar_text.specs.Quote as quoting

no_digit_is : (b c : ℕ) → quoting.is_digit b ≡ true → quoting.is_digit c ≡ false → (b == c) ≡ false
no_digit_is b c digit other_byte = go (cases_Bool (b == c))
  where
    go : ((b == c) ≡ true) ⊎ ((b == c) ≡ false) → (b == c) ≡ false
    go (inr e) = e
    go (inl e) = absurd (true≢false (sym digit ∙ ap quoting.is_digit (eqb-true b c e) ∙ other_byte))

no_point : (s : List ℕ) → list_all quoting.is_digit s ≡ true → list_any (λ b. (b == 46) || (b == 69) || (b == 101)) s ≡ false
no_point [] all = refl
no_point (b ∷ s) all =
    let both = and_parts (quoting.is_digit b) (list_all quoting.is_digit s) all in
    ap (λ t. t || (b == 69) || (b == 101) || list_any (λ b. (b == 46) || (b == 69) || (b == 101)) s) (no_digit_is b 46 both.0 refl)
    ∙ ap (λ t. t || (b == 101) || list_any (λ b. (b == 46) || (b == 69) || (b == 101)) s) (no_digit_is b 69 both.0 refl)
    ∙ ap (λ t. t || list_any (λ b. (b == 46) || (b == 69) || (b == 101)) s) (no_digit_is b 101 both.0 refl) ∙ no_point s both.1

few_digits : (n : ℕ) → n ≤ 18 → nat_lt 18 n ≡ false
few_digits n few = go (cases_Bool (nat_lt 18 n))
  where
    go : (nat_lt 18 n ≡ true) ⊎ (nat_lt 18 n ≡ false) → nat_lt 18 n ≡ false
    go (inr e) = e
    go (inl e) = absurd (omega (arith, ltb-true 18 n e, few))

no_minus : (s : List ℕ) → list_all quoting.is_digit s ≡ true → bytes_eq s (codes "-0") ≡ false
no_minus s all = go (cases_Bool (bytes_eq s (codes "-0")))
  where
    go : (bytes_eq s (codes "-0") ≡ true) ⊎ (bytes_eq s (codes "-0") ≡ false) → bytes_eq s (codes "-0") ≡ false
    go (inr e) = e
    go (inl e) = absurd (true≢false (sym all ∙ ap (list_all quoting.is_digit) ((bytes_eq-Decides s (codes "-0")).0 e)))

pub short_whole : (s : List ℕ) → length s ≤ 18 → list_all quoting.is_digit s ≡ true → quoting.is_decimal s ≡ false
short_whole s short all =
    let few : count_by quoting.is_digit s ≤ 18 = omega (arith, count_by-le-length quoting.is_digit s, short) in
    ap (λ t. t || nat_lt 18 (count_by quoting.is_digit s) || bytes_eq s (codes "-0")) (no_point s all)
    ∙ ap (λ t. t || bytes_eq s (codes "-0")) (few_digits (count_by quoting.is_digit s) few)
    ∙ no_minus s all

-- they begin with no minus
pub begins_plain : (s : List ℕ) → list_all quoting.is_digit s ≡ true → (get_or s 0 0 == 45) ≡ false
begins_plain [] all = refl
begins_plain (b ∷ s) all = no_digit_is b 45 (and_parts (quoting.is_digit b) (list_all quoting.is_digit s) all).0 refl

-- a point or an exponent makes a decimal
pub pointed : (s : List ℕ) → list_any (λ b. (b == 46) || (b == 69) || (b == 101)) s ≡ true → quoting.is_decimal s ≡ true
pointed s is = ap (λ t. t || nat_lt 18 (count_by quoting.is_digit s) || bytes_eq s (codes "-0")) is
