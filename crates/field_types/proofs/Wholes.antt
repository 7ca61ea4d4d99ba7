-- What the kinds of numbers make of whole numbers and decimals.
use Rattle.std.proofs.Common.{◌≡◌, ℕ, zero, suc, ◌*◌, ◌/◌, ◌%◌, ◌^◌, ◌==◌, ◌<◌, ◌≤◌, Bool, true, false, not, ◌&&◌, ℤ, pos, negsuc, neg_ℤ, ◌≤ℤ◌, ◌<ℤ◌, ◌*ℤ◌, unsigned_abs, List, [], ◌∷◌, length, decimal, Option, Some, None, nat_lt, nat_le, refl, sym, ap, ◌∙◌, subst, arith, if◌then◌else◌}
use Rattle.std.specs.Fmt.{signed_decimal}
use Rattle.std.specs.Int.{is_negative}
use Rattle.std.specs.Char.{digit_value, to_ascii_lowercase}
use Rattle.std.specs.Str.Parse.{AllDigits, digits_value}
use Rattle.std.specs.Ordering.{int_eq}
use Rattle.std.proofs.lemmas.Bool.{and_from, and_parts, le-leb, lt-leb, leb-true, lt-ltb, le-ltb, ltb-true, ltb-false, ne_eqb}
use Rattle.std.proofs.lemmas.Bool.Decides.{Decides-int_eq}
use Rattle.std.proofs.lemmas.Fmt.{decimal_is_IsNumeral, decimal-digits_value}
use Rattle.std.proofs.lemmas.Str.Parse.{digit_from_value}
use Rattle.base_types.proofs.Numerals.{digits_model}
use Rattle.jiff_core.proofs.SignedLemmas.{signed_arith}
use Rattle.base_types.specs.Digits.{digits_in}
use Rattle.scalar_text.specs.Number.{part_text, decimal_text, signed}
pub use Rattle.scalar_text.proofs.CanonicalDecimals.{fits_word as small}
use Rattle.scalar_text.proofs.PrintedDecimals.{part_numeral}
use Rattle.scalar_text.proofs.PrintedNumbers.{digits_fit, digits_pass, whole_fits, whole_passes, port_fits, port_passes, decimal_of_whole, decimal_of_great_whole, decimal_fits, decimal_passes}
use Rattle.scalar_text.specs.Number.{port_in}
use Rattle.scalar_net.specs.Asn.{behind_as, asn_in}
use Rattle.scalar_text.specs.Strip.{strip}
use Rattle.field_types.specs.Cleaning.{clean, is_short, is_accuracy, accuracy_of}
use Rattle.field_types.specs.declared.kind.FieldType.TheVariants as kind
use Rattle.field_types.specs.declared.value.Value.{Value}
use Rattle.field_types.specs.declared.value.Value.TheVariants as value
use Rattle.scalar_text.proofs.Stripped.{are_dark, strip-dark, dark_append}

-- ---- printed numbers have no blanks

pub dark_digits : (ds : List ℕ) → AllDigits 10 ds → are_dark ds ≡ true
dark_digits [] all = refl
dark_digits (d ∷ ds) all = and_from _ _ (le-leb 33 d (let is = digit_from_value d all.0 in omega (arith, is.0))) (dark_digits ds all.1)

pub dark_decimal : (n : ℕ) → n < 2 ^ 64 → are_dark (decimal n) ≡ true
dark_decimal n fits = dark_digits (decimal n) (decimal_is_IsNumeral n fits).0.1

dark_signed : (z : ℤ) → unsigned_abs z < 2 ^ 64 → are_dark (signed_decimal z) ≡ true
dark_signed (pos n) fits = dark_decimal n fits
dark_signed (negsuc n) fits = dark_decimal (suc n) fits

pub strip_signed : (z : ℤ) → unsigned_abs z < 2 ^ 64 → strip (signed_decimal z) ≡ signed_decimal z
strip_signed z fits = strip-dark (signed_decimal z) (dark_signed z fits)

dark_if : (b : Bool) (text : List ℕ) → are_dark text ≡ true → are_dark (if b then 45 ∷ text else text) ≡ true
dark_if true text dark = dark
dark_if false text dark = dark

dark_decimal_text : (z : ℤ) → unsigned_abs z < 2 ^ 64 → are_dark (decimal_text z) ≡ true
dark_decimal_text z fits =
    let part : are_dark (part_text (unsigned_abs z % 1000000)) ≡ true = dark_digits (part_text (unsigned_abs z % 1000000)) (part_numeral (unsigned_abs z % 1000000) (omega arith)).1 in
    dark_if (is_negative z) _ (dark_append (decimal (unsigned_abs z / 1000000)) (46 ∷ part_text (unsigned_abs z % 1000000)) (dark_decimal (unsigned_abs z / 1000000) (omega (arith, fits))) part)

pub strip_decimal : (z : ℤ) → unsigned_abs z < 2 ^ 64 → strip (decimal_text z) ≡ decimal_text z
strip_decimal z fits = strip-dark (decimal_text z) (dark_decimal_text z fits)

-- ---- short numbers

pub short_is : (z : ℤ) → is_short z ≡ true → unsigned_abs z < 10 ^ 18
short_is z test = ltb-true (unsigned_abs z) (10 ^ 18) test

pub long_is : (z : ℤ) → is_short z ≡ false → 10 ^ 18 ≤ unsigned_abs z
long_is z test = ltb-false (unsigned_abs z) (10 ^ 18) test

-- ---- whole numbers

pub whole_kept : (z m : ℤ) → m ≡ z → unsigned_abs z < 2 ^ 64 → is_short z ≡ true → clean kind.Whole (value.Whole z) ≡ Some (value.Whole m)
unfolding clean
whole_kept z m same fits test = rw (strip_signed z fits, whole_fits z fits (short_is z test)) (ap (λ n. Some (value.Whole n)) (sym same))

pub whole_refused : (z : ℤ) → unsigned_abs z < 2 ^ 64 → is_short z ≡ false → clean kind.Whole (value.Whole z) ≡ None
unfolding clean
whole_refused z fits test = rw (strip_signed z fits, whole_passes z fits (long_is z test))

pub extra_kept : (z m : ℤ) → m ≡ z → is_short z ≡ true → clean kind.Extra (value.Whole z) ≡ Some (value.Whole m)
unfolding clean
extra_kept z m same test = rw test (ap (λ n. Some (value.Whole n)) (sym same))

pub extra_refused : (z : ℤ) → is_short z ≡ false → clean kind.Extra (value.Whole z) ≡ None
unfolding clean
extra_refused z test = rw test

-- ---- ports

port_below : (n : ℕ) (m : ℤ) → m ≡ pos n → n < 65536 → clean kind.Port (value.Whole (pos n)) ≡ Some (value.Whole m)
unfolding clean
port_below n m same few = rw (strip_signed (pos n) (omega (arith, few)), port_fits n few) (ap (λ k. Some (value.Whole k)) (sym same))

pub port_kept : (z m : ℤ) → m ≡ z → pos 0 ≤ℤ z → z ≤ℤ pos 65535 → clean kind.Port (value.Whole z) ≡ Some (value.Whole m)
port_kept (pos n) m same low high = port_below n m same (omega (arith, signed_arith, high))
port_kept (negsuc n) m same low high = absurd (omega (arith, signed_arith, low))

no_digits_behind : (n most : ℕ) → digits_in most (45 ∷ decimal n) ≡ None
unfolding digits_in
no_digits_behind n most = none_if (nat_lt 0 (length (45 ∷ decimal n)) && nat_le (length (45 ∷ decimal n)) most)
  where
    none_if : (b : Bool) → (if b && false then Some (digits_value 10 (45 ∷ decimal n)) else None) ≡ None
    none_if true = refl
    none_if false = refl

pub port_negative : (z : ℤ) → unsigned_abs z < 2 ^ 64 → z <ℤ pos 0 → clean kind.Port (value.Whole z) ≡ None
unfolding clean port_in
port_negative (pos n) fits low = absurd (omega (arith, signed_arith, low))
port_negative (negsuc n) fits low = rw (strip_signed (negsuc n) fits, no_digits_behind (suc n) 5)

pub port_past : (z : ℤ) → unsigned_abs z < 2 ^ 64 → pos 65535 <ℤ z → clean kind.Port (value.Whole z) ≡ None
unfolding clean
port_past (pos n) fits high = rw (strip_signed (pos n) fits, port_passes n fits (omega (arith, signed_arith, high)))
port_past (negsuc n) fits high = absurd (omega (arith, signed_arith, high))

-- ---- numbers of autonomous systems

no_letter : (d s : ℕ) (rest : List ℕ) → digit_value d < 10 → behind_as (d ∷ s ∷ rest) ≡ d ∷ s ∷ rest
no_letter d s rest digit =
    let is = digit_from_value d digit in
    let lower : to_ascii_lowercase d ≡ d = grind (arith, is.0, is.1) in
    let other : (to_ascii_lowercase d == 97) ≡ false = ap (λ n. n == 97) lower ∙ ne_eqb d 97 (λ e. absurd (omega (arith, is.1, e))) in
    rw other

behind_as-digits : (ds : List ℕ) → AllDigits 10 ds → behind_as ds ≡ ds
behind_as-digits [] all = refl
behind_as-digits (d ∷ []) all = refl
behind_as-digits (d ∷ s ∷ rest) all = no_letter d s rest all.0

behind_as-decimal : (n : ℕ) → n < 2 ^ 64 → behind_as (decimal n) ≡ decimal n
behind_as-decimal n fits = behind_as-digits (decimal n) (decimal_is_IsNumeral n fits).0.1

asn_below : (n : ℕ) (m : ℤ) → m ≡ pos n → 0 < n → n < 4294967296 → clean kind.Asn (value.Whole (pos n)) ≡ Some (value.Whole m)
unfolding clean asn_in
asn_below n m same some few =
    rw (strip_signed (pos n) (omega (arith, few)), behind_as-decimal n (omega (arith, few)), digits_fit 10 n (omega arith) (omega (arith, few)) (omega (arith, few)), lt-ltb 0 n some, lt-ltb n 4294967296 few)
    (ap (λ k. Some (value.Whole k)) (sym same))

pub asn_kept : (z m : ℤ) → m ≡ z → pos 1 ≤ℤ z → z ≤ℤ pos 4294967295 → clean kind.Asn (value.Whole z) ≡ Some (value.Whole m)
asn_kept (pos n) m same low high = asn_below n m same (omega (arith, signed_arith, low)) (omega (arith, signed_arith, high))
asn_kept (negsuc n) m same low high = absurd (omega (arith, signed_arith, low))

asn_negative : (n : ℕ) → suc n < 2 ^ 64 → clean kind.Asn (value.Whole (negsuc n)) ≡ None
unfolding clean asn_in
asn_negative n fits = rw (strip_signed (negsuc n) fits, behind_minus-as (decimal (suc n)), no_digits_behind (suc n) 10)
  where
    behind_minus-as : (ds : List ℕ) → behind_as (45 ∷ ds) ≡ 45 ∷ ds
    behind_minus-as [] = refl
    behind_minus-as (d ∷ ds) = refl

asn_zero : clean kind.Asn (value.Whole (pos 0)) ≡ None
unfolding clean asn_in
asn_zero = rw (strip_signed (pos 0) (omega arith), behind_as-decimal 0 (omega arith), digits_fit 10 0 (omega arith) (omega arith) (omega arith))

pub asn_low : (z : ℤ) → unsigned_abs z < 2 ^ 64 → z <ℤ pos 1 → clean kind.Asn (value.Whole z) ≡ None
asn_low (pos zero) fits low = asn_zero
asn_low (pos (suc n)) fits low = absurd (omega (arith, signed_arith, low))
asn_low (negsuc n) fits low = asn_negative n fits

past_if : (n : ℕ) (t : Bool) → nat_lt n (10 ^ 10) ≡ t → n < 2 ^ 64 → 4294967296 ≤ n → asn_in (decimal n) ≡ None
unfolding asn_in
past_if n true e fits great = rw (behind_as-decimal n fits, digits_fit 10 n (omega arith) fits (ltb-true n (10 ^ 10) e), le-ltb n 4294967296 great, lt-ltb 0 n (omega (arith, great)))
past_if n false e fits great = rw (behind_as-decimal n fits, digits_pass 10 n fits (ltb-false n (10 ^ 10) e))

pub asn_past : (z : ℤ) → unsigned_abs z < 2 ^ 64 → pos 4294967295 <ℤ z → clean kind.Asn (value.Whole z) ≡ None
unfolding clean
asn_past (pos n) fits high = rw (strip_signed (pos n) fits, past_if n (nat_lt n (10 ^ 10)) refl fits (omega (arith, signed_arith, high)))
asn_past (negsuc n) fits high = absurd (omega (arith, signed_arith, high))

-- ---- decimals of whole numbers

times_million : (z : ℤ) → signed (is_negative z) (unsigned_abs z * 1000000) ≡ z *ℤ pos 1000000
times_million (pos n) = rw (le-ltb n 0 (omega arith)) (omega (arith, signed_arith))
times_million (negsuc n) = omega (arith, signed_arith)

pub decimal_kept : (z m : ℤ) → m ≡ z *ℤ pos 1000000 → unsigned_abs z < 10 ^ 12 → clean kind.Decimal (value.Whole z) ≡ Some (value.Decimal m)
unfolding clean
decimal_kept z m same few =
    let fits : unsigned_abs z < 2 ^ 64 = omega (arith, few) in
    rw (strip_signed z fits, decimal_of_whole z fits few) (ap (λ n. Some (value.Decimal n)) (times_million z ∙ sym same))

pub decimal_refused : (z : ℤ) → unsigned_abs z < 2 ^ 64 → 10 ^ 12 ≤ unsigned_abs z → clean kind.Decimal (value.Whole z) ≡ None
unfolding clean
decimal_refused z fits great = rw (strip_signed z fits, decimal_of_great_whole z fits great)

-- ---- decimals

pub own_decimal_kept : (z m : ℤ) → m ≡ z → unsigned_abs z < 2 ^ 64 → is_short z ≡ true → clean kind.Decimal (value.Decimal z) ≡ Some (value.Decimal m)
unfolding clean
own_decimal_kept z m same fits test = rw (strip_decimal z fits, decimal_fits z (short_is z test)) (ap (λ n. Some (value.Decimal n)) (sym same))

pub own_decimal_refused : (z : ℤ) → unsigned_abs z < 2 ^ 64 → is_short z ≡ false → clean kind.Decimal (value.Decimal z) ≡ None
unfolding clean
own_decimal_refused z fits test = rw (strip_decimal z fits, decimal_passes z fits (long_is z test))

pub extra_decimal_kept : (z m : ℤ) → m ≡ z → is_short z ≡ true → clean kind.Extra (value.Decimal z) ≡ Some (value.Decimal m)
unfolding clean
extra_decimal_kept z m same test = rw test (ap (λ n. Some (value.Decimal n)) (sym same))

pub extra_decimal_refused : (z : ℤ) → is_short z ≡ false → clean kind.Extra (value.Decimal z) ≡ None
unfolding clean
extra_decimal_refused z test = rw test

-- ---- accuracies

pub accuracy_size : (z : ℤ) → is_accuracy z ≡ true → unsigned_abs z ≤ 100000000
accuracy_size z test = leb-true (unsigned_abs z) 100000000 (and_parts (not (is_negative z)) (nat_le (unsigned_abs z) 100000000) test).1

pub own_accuracy_kept : (z m : ℤ) → m ≡ z → is_accuracy z ≡ true → clean kind.Accuracy (value.Decimal z) ≡ Some (value.Decimal m)
unfolding clean
own_accuracy_kept z m same test =
    let size = accuracy_size z test in
    rw (strip_decimal z (omega (arith, size)), decimal_fits z (omega (arith, size)), test) (ap (λ n. Some (value.Decimal n)) (sym same))

refused_if : (z : ℤ) (t : Bool) → is_short z ≡ t → unsigned_abs z < 2 ^ 64 → is_accuracy z ≡ false → clean kind.Accuracy (value.Decimal z) ≡ None
unfolding clean
refused_if z true short fits test = rw (strip_decimal z fits, decimal_fits z (short_is z short), test)
refused_if z false short fits test = rw (strip_decimal z fits, decimal_passes z fits (long_is z short))

pub own_accuracy_refused : (z : ℤ) → unsigned_abs z < 2 ^ 64 → is_accuracy z ≡ false → clean kind.Accuracy (value.Decimal z) ≡ None
own_accuracy_refused z fits test = refused_if z (is_short z) refl fits test

-- an accuracy that is a whole number
whole_accuracy : (z : ℤ) → unsigned_abs z < 10 ^ 12 → (o : Option Value) → accuracy_of (z *ℤ pos 1000000) ≡ o → clean kind.Accuracy (value.Whole z) ≡ o
unfolding clean
whole_accuracy z few o e =
    let fits : unsigned_abs z < 2 ^ 64 = omega (arith, few) in
    rw (strip_signed z fits, decimal_of_whole z fits few, times_million z) e

is_hundred : (n : ℕ) (m : ℤ) → m ≡ pos n → n ≤ 100000000 → accuracy_of m ≡ Some (value.Decimal m)
is_hundred n m same few = subst (λ k. accuracy_of k ≡ Some (value.Decimal k)) (sym same) (rw (le-ltb n 0 (omega arith), le-leb n 100000000 few))

not_hundred : (n : ℕ) (m : ℤ) → m ≡ pos n → 100000000 < n → accuracy_of m ≡ None
not_hundred n m same great = subst (λ k. accuracy_of k ≡ None) (sym same) (rw (le-ltb n 0 (omega arith), lt-leb n 100000000 great))

pub accuracy_kept : (z m : ℤ) → m ≡ z *ℤ pos 1000000 → pos 0 ≤ℤ z → z ≤ℤ pos 100 → clean kind.Accuracy (value.Whole z) ≡ Some (value.Decimal m)
accuracy_kept (pos n) m same low high =
    whole_accuracy (pos n) (omega (arith, signed_arith, high)) (Some (value.Decimal m))
    (ap accuracy_of (sym same) ∙ is_hundred (n * 1000000) m (omega (arith, signed_arith, same)) (omega (arith, signed_arith, high)))
accuracy_kept (negsuc n) m same low high = absurd (omega (arith, signed_arith, low))

below_zero : (k : ℕ) (m : ℤ) → m ≡ neg_ℤ (pos k) → 0 < k → accuracy_of m ≡ None
below_zero zero m same some = absurd (omega (arith, some))
below_zero (suc k) m same some = ap accuracy_of same

negative_if : (n : ℕ) (t : Bool) → nat_lt (suc n) (10 ^ 12) ≡ t → suc n < 2 ^ 64 → clean kind.Accuracy (value.Whole (negsuc n)) ≡ None
unfolding clean
negative_if n true e fits = whole_accuracy (negsuc n) (ltb-true (suc n) (10 ^ 12) e) None (below_zero (suc n * 1000000) (negsuc n *ℤ pos 1000000) (omega (arith, signed_arith)) (omega arith))
negative_if n false e fits = rw (strip_signed (negsuc n) fits, decimal_of_great_whole (negsuc n) fits (ltb-false (suc n) (10 ^ 12) e))

pub accuracy_negative : (z : ℤ) → unsigned_abs z < 2 ^ 64 → z <ℤ pos 0 → clean kind.Accuracy (value.Whole z) ≡ None
accuracy_negative (pos n) fits low = absurd (omega (arith, signed_arith, low))
accuracy_negative (negsuc n) fits low = negative_if n (nat_lt (suc n) (10 ^ 12)) refl fits

past_hundred : (n : ℕ) (t : Bool) → nat_lt n (10 ^ 12) ≡ t → n < 2 ^ 64 → 100 < n → clean kind.Accuracy (value.Whole (pos n)) ≡ None
unfolding clean
past_hundred n true e fits great = whole_accuracy (pos n) (ltb-true n (10 ^ 12) e) None (not_hundred (n * 1000000) (pos n *ℤ pos 1000000) (omega (arith, signed_arith)) (omega (arith, great)))
past_hundred n false e fits great = rw (strip_signed (pos n) fits, decimal_of_great_whole (pos n) fits (ltb-false n (10 ^ 12) e))

pub accuracy_past : (z : ℤ) → unsigned_abs z < 2 ^ 64 → pos 100 <ℤ z → clean kind.Accuracy (value.Whole z) ≡ None
accuracy_past (pos n) fits high = past_hundred n (nat_lt n (10 ^ 12)) refl fits (omega (arith, signed_arith, high))
accuracy_past (negsuc n) fits high = absurd (omega (arith, signed_arith, high))

-- ---- flags

zero_text : decimal 0 ≡ 48 ∷ []
zero_text = decimal-digits_value digits_model (48 ∷ []) refl (omega arith) (λ _. refl) (omega arith)

one_text : decimal 1 ≡ 49 ∷ []
one_text = decimal-digits_value digits_model (49 ∷ []) refl (omega arith) (λ _. refl) (omega arith)

pub flag_zero : (z : ℤ) → z ≡ pos 0 → clean kind.Flag (value.Whole z) ≡ Some (value.Flag false)
unfolding clean strip
flag_zero z is = subst (λ n. clean kind.Flag (value.Whole n) ≡ Some (value.Flag false)) (sym is) (rw zero_text)

pub flag_one : (z : ℤ) → z ≡ pos 1 → clean kind.Flag (value.Whole z) ≡ Some (value.Flag true)
unfolding clean strip
flag_one z is = subst (λ n. clean kind.Flag (value.Whole n) ≡ Some (value.Flag true)) (sym is) (rw one_text)

no_eq : (z m : ℤ) (t : Bool) → int_eq z m ≡ t → (z ≡ m → ⊥) → int_eq z m ≡ false
no_eq z m true e other = absurd (other ((Decides-int_eq z m).0 e))
no_eq z m false e other = e

pub no_bit : (z : ℤ) → (z ≡ pos 0 → ⊥) → (z ≡ pos 1 → ⊥) → clean kind.Flag (value.Whole z) ≡ None
unfolding clean
no_bit z none single = rw (no_eq z (pos 0) (int_eq z (pos 0)) refl none, no_eq z (pos 1) (int_eq z (pos 1)) refl single)

pub hundred : (z : ℤ) → pos 0 ≤ℤ z → z ≤ℤ pos 100 → unsigned_abs z ≤ 100
hundred (pos n) low high = omega (arith, signed_arith, high)
hundred (negsuc n) low high = absurd (omega (arith, signed_arith, low))
