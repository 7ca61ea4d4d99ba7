-- Numbers of autonomous systems.
use Rattle.std.proofs.Common.{◌≡◌, ℕ, List, true, false, Some, None, sym, ◌∙◌, ap}
use Rattle.base_types.specs.Digits.{IsDigits, digits_in}
use Rattle.base_types.proofs.Numerals.{digits_in-some, digits_in-none}
use Rattle.scalar_net.specs.Asn.{behind_as, is_asn, asn_in}

-- the number of an autonomous system in a text, by what its reader answers
pub asn_in-none : (text digits : List ℕ) → digits ≡ behind_as text → ((n : ℕ) → ¬ (IsDigits 10 digits n)) → None ≡ asn_in text
unfolding asn_in
asn_in-none text digits is none =
    let read : digits_in 10 (behind_as text) ≡ None = ap (digits_in 10) (sym is) ∙ digits_in-none 10 digits none in
    rw read

pub asn_in-other : (text digits : List ℕ) (n : ℕ) → digits ≡ behind_as text → IsDigits 10 digits n → is_asn n ≡ false → None ≡ asn_in text
unfolding asn_in
asn_in-other text digits n is writes other =
    let read : digits_in 10 (behind_as text) ≡ Some n = ap (digits_in 10) (sym is) ∙ digits_in-some 10 digits n writes in
    rw (read, other)

pub asn_in-some : (text digits : List ℕ) (n : ℕ) → digits ≡ behind_as text → IsDigits 10 digits n → is_asn n ≡ true → Some n ≡ asn_in text
unfolding asn_in
asn_in-some text digits n is writes in_range =
    let read : digits_in 10 (behind_as text) ≡ Some n = ap (digits_in 10) (sym is) ∙ digits_in-some 10 digits n writes in
    rw (read, in_range)
