-- What is kept of a value is canonical: numbers, times and further data.
use Rattle.std.proofs.Common.{◌≡◌, ℕ, zero, suc, ◌+◌, ◌^◌, ◌<◌, ◌≤◌, ◌==◌, ℤ, pos, unsigned_abs, inl, List, [], ◌∷◌, length, take, drop, map, codes, Bool, true, false, Option, Some, None, nat_lt, if◌then◌else◌, refl, sym, ap, ◌∙◌, subst, arith}
use Rattle.std.specs.List.{list_all}
use Rattle.std.specs.Option.{option_and_then}
use Rattle.std.specs.Char.{to_ascii_uppercase}
use Rattle.std.specs.Str.Parse.{IsNumeral, digits_value}
use Rattle.std.proofs.Math.Nat.{pow-le-pow_right}
use Rattle.std.proofs.lemmas.Bool.{and_parts, and_from, lt-ltb, ltb-true}
use Rattle.std.proofs.lemmas.Int.Digits.{digits_value-lt}
use Rattle.std.proofs.lemmas.Option.{none-some, same_Some}
use Rattle.jiff_core.proofs.SignedLemmas.{signed_arith}
use Rattle.base_types.specs.Digits.{IsDigits, digits_in}
use Rattle.scalar_text.specs.Number.{IsWholeText, AreMillionths, IsDecimalText, decimal_in, whole_in, port_in, signed, behind_minus, has_minus, point_in, millionths}
use Rattle.scalar_text.specs.Words.{flag_of}
use Rattle.scalar_text.proofs.NumberForms.{whole_form, decimal_form}
use Rattle.scalar_text.proofs.Numerals.{part_below, front_digits}
use Rattle.scalar_net.specs.Asn.{is_asn, behind_as, asn_in}
use Rattle.scalar_text.specs.Strip.{strip}
use Rattle.field_types.specs.Cleaning.{clean, printed, takes, is_short, is_alphanumeric, is_country_code, is_extra_item}
use Rattle.field_types.specs.declared.kind.FieldType.TheVariants as kind
use Rattle.field_types.specs.declared.value.Value.{Value}
use Rattle.field_types.specs.declared.value.Value.TheVariants as value
use Rattle.field_types.proofs.KindByKind.{flag_kept}
use Rattle.scalar_text.proofs.Stripped.{strip-strip}
use Rattle.field_types.proofs.Twice.{from_text, mapped, text_of, kept_again, mapped_stripped, upper_clear, map_twice, upper_twice_byte}
use Rattle.field_types.proofs.Wholes.{whole_kept, port_kept, asn_kept, own_decimal_kept}

-- ---- flags

pub flag_twice : (u v : Value) → clean kind.Flag u ≡ Some v → clean kind.Flag v ≡ Some v
unfolding clean
flag_twice u v h =
    let (text, kept) = from_text kind.Flag (takes kind.Flag u) (printed u) v h in
    let (b, found, same) = mapped value.Flag (flag_of (strip text)) v kept in
    subst (λ w. clean kind.Flag w ≡ Some w) (sym same) (flag_kept kind.Flag b (inl refl))

-- ---- numbers of autonomous systems and ports

tested : (p : ℕ → Bool) (m n : ℕ) (b : Bool) → p m ≡ b → (if b then Some m else None) ≡ Some n → p n ≡ true
tested p m n true e h = subst (λ k. p k ≡ true) (same_Some m n h) e
tested p m n false e h = absurd (none-some n h)

tested_from : (p : ℕ → Bool) (o : Option ℕ) (n : ℕ) → option_and_then (λ m. if p m then Some m else None) o ≡ Some n → p n ≡ true
tested_from p None n h = absurd (none-some n h)
tested_from p (Some m) n h = tested p m n (p m) refl h

pub asn_is : (text : List ℕ) (n : ℕ) → asn_in text ≡ Some n → is_asn n ≡ true
unfolding asn_in
asn_is text n h = tested_from is_asn (digits_in 10 (behind_as text)) n h

pub port_is : (text : List ℕ) (n : ℕ) → port_in text ≡ Some n → nat_lt n 65536 ≡ true
unfolding port_in
port_is text n h = tested_from (λ n. nat_lt n 65536) (digits_in 5 text) n h

pub asn_twice : (u v : Value) → clean kind.Asn u ≡ Some v → clean kind.Asn v ≡ Some v
unfolding clean
asn_twice u v h =
    let (text, kept) = from_text kind.Asn (takes kind.Asn u) (printed u) v h in
    let (n, found, same) = mapped (λ n. value.Whole (pos n)) (asn_in (strip text)) v kept in
    let parts = and_parts (nat_lt 0 n) (nat_lt n (2 ^ 32)) (asn_is (strip text) n found) in
    let some = ltb-true 0 n parts.0 in
    let few = ltb-true n (2 ^ 32) parts.1 in
    subst (λ w. clean kind.Asn w ≡ Some w) (sym same) (asn_kept (pos n) (pos n) refl (omega (arith, signed_arith, some)) (omega (arith, signed_arith, few)))

pub port_twice : (u v : Value) → clean kind.Port u ≡ Some v → clean kind.Port v ≡ Some v
unfolding clean
port_twice u v h =
    let (text, kept) = from_text kind.Port (takes kind.Port u) (printed u) v h in
    let (n, found, same) = mapped (λ n. value.Whole (pos n)) (port_in (strip text)) v kept in
    let few = ltb-true n 65536 (port_is (strip text) n found) in
    subst (λ w. clean kind.Port w ≡ Some w) (sym same) (port_kept (pos n) (pos n) refl (omega (arith, signed_arith)) (omega (arith, signed_arith, few)))

-- ---- whole numbers and decimals

digits_small : (most : ℕ) (text : List ℕ) (n : ℕ) → IsDigits most text n → n < 10 ^ most
digits_small most text n h =
    let below = digits_value-lt 10 text h.0.0.1 in
    let value = h.0.1 in
    let power : 10 ^ length text ≤ 10 ^ most = let ten : 0 < 10 = omega arith in let few : length text ≤ most = h.1 in pow-le-pow_right ten few in
    omega (arith, below, value, power)

size_of : (b : Bool) (n : ℕ) → unsigned_abs (signed b n) ≡ n
size_of true zero = refl
size_of true (suc n) = refl
size_of false n = refl

pub whole_short : (text : List ℕ) (z : ℤ) → IsWholeText text z → unsigned_abs z < 10 ^ 18
whole_short text z (n, digits, is) =
    let small = digits_small 18 (behind_minus text) n digits in
    subst (λ k. unsigned_abs k < 10 ^ 18) (sym is) (subst (λ k. k < 10 ^ 18) (sym (size_of (has_minus text) n)) small)

pub whole_twice : (u v : Value) → clean kind.Whole u ≡ Some v → clean kind.Whole v ≡ Some v
unfolding clean
whole_twice u v h =
    let (text, kept) = from_text kind.Whole (takes kind.Whole u) (printed u) v h in
    let (z, found, same) = mapped value.Whole (whole_in (strip text)) v kept in
    let small = whole_short (strip text) z ((whole_form (strip text)).sound z found) in
    subst (λ w. clean kind.Whole w ≡ Some w) (sym same) (whole_kept z z refl (omega (arith, small)) (lt-ltb (unsigned_abs z) (10 ^ 18) small))

short_front : (k : ℕ) (ds : List ℕ) → length (take k ds) ≤ k
short_front zero ds = omega arith
short_front (suc k) [] = omega arith
short_front (suc k) (d ∷ ds) = let few = short_front k ds in omega (arith, few)

part_small : (ds : List ℕ) → IsNumeral 10 ds → millionths ds < 1000000
part_small ds numeral =
    part_below (digits_value 10 (take 6 ds)) (length (take 6 ds)) (short_front 6 ds) (digits_value-lt 10 (take 6 ds) (front_digits 6 ds numeral.1))

millionths_small : (at : Option ℕ) (text : List ℕ) (n : ℕ) → AreMillionths at text n → n < 10 ^ 18
millionths_small None text n (w, digits, is) = let small = digits_small 12 text w digits in omega (arith, small, is)
millionths_small (Some i) text n (w, digits, part, is) =
    let small = digits_small 12 (take i text) w digits in
    let rest = part_small (drop (i + 1) text) part in
    omega (arith, small, rest, is)

pub decimal_short : (text : List ℕ) (z : ℤ) → IsDecimalText text z → unsigned_abs z < 10 ^ 18
decimal_short text z (n, are, is) =
    let small = millionths_small (point_in (behind_minus text)) (behind_minus text) n are in
    subst (λ k. unsigned_abs k < 10 ^ 18) (sym is) (subst (λ k. k < 10 ^ 18) (sym (size_of (has_minus text) n)) small)

pub decimal_twice : (u v : Value) → clean kind.Decimal u ≡ Some v → clean kind.Decimal v ≡ Some v
unfolding clean
decimal_twice u v h =
    let (text, kept) = from_text kind.Decimal (takes kind.Decimal u) (printed u) v h in
    let (z, found, same) = mapped value.Decimal (decimal_in (strip text)) v kept in
    let small = decimal_short (strip text) z ((decimal_form (strip text)).sound z found) in
    subst (λ w. clean kind.Decimal w ≡ Some w) (sym same) (own_decimal_kept z z refl (omega (arith, small)) (lt-ltb (unsigned_abs z) (10 ^ 18) small))

-- ---- further data

same_if : (b : Bool) (x v : Value) → (if b then Some x else None) ≡ Some v → v ≡ x
same_if true x v h = sym (same_Some x v h)
same_if false x v h = absurd (none-some v h)

pub extra_twice : (u v : Value) → clean kind.Extra u ≡ Some v → clean kind.Extra v ≡ Some v
unfolding clean
extra_twice (value.Text text) v h = kept_again kind.Extra (strip text) v (text_of (strip text) v h) (strip-strip text) h
extra_twice (value.Whole n) v h = subst (λ w. clean kind.Extra w ≡ Some v) (sym (same_if (is_short n) (value.Whole n) v h)) h
extra_twice (value.Flag b) v h = subst (λ w. clean kind.Extra w ≡ Some v) (same_Some (value.Flag b) v h) h
extra_twice (value.Decimal n) v h = subst (λ w. clean kind.Extra w ≡ Some v) (sym (same_if (is_short n) (value.Decimal n) v h)) h
extra_twice (value.List items) v h = subst (λ w. clean kind.Extra w ≡ Some v) (sym (same_if (list_all is_extra_item items) (value.List items) v h)) h

-- ---- codes of countries

upper_code : (b : ℕ) → is_alphanumeric b ≡ true → is_alphanumeric (to_ascii_uppercase b) ≡ true
upper_code b code = grind (arith, code)

upper_codes : (text : List ℕ) → list_all is_alphanumeric text ≡ true → list_all is_alphanumeric (map to_ascii_uppercase text) ≡ true
upper_codes [] codes = refl
upper_codes (b ∷ bs) codes = let parts = and_parts (is_alphanumeric b) (list_all is_alphanumeric bs) codes in and_from _ _ (upper_code b parts.0) (upper_codes bs parts.1)

length-upper : (text : List ℕ) → length (map to_ascii_uppercase text) ≡ length text
length-upper [] = refl
length-upper (b ∷ bs) = ap suc (length-upper bs)

code_if : (text : List ℕ) (b : Bool) (x v : Value) → is_country_code text ≡ b → (if b then Some x else None) ≡ Some v → is_country_code text ≡ true
code_if text true x v e h = e
code_if text false x v e h = absurd (none-some v h)

pub country_twice : (u v : Value) → clean kind.Cc u ≡ Some v → clean kind.Cc v ≡ Some v
unfolding clean
country_twice u v h =
    let (text, kept) = from_text kind.Cc (takes kind.Cc u) (printed u) v h in
    let code = strip text in
    let up = map to_ascii_uppercase code in
    let is = code_if code (is_country_code code) (value.Text up) v refl kept in
    let same : v ≡ value.Text up = same_if (is_country_code code) (value.Text up) v kept in
    let parts = and_parts (length code == 2) (list_all is_alphanumeric code) is in
    let again : is_country_code up ≡ true = and_from _ _ (ap (λ n. n == 2) (length-upper code) ∙ parts.0) (upper_codes code parts.1) in
    kept_again kind.Cc up v same (mapped_stripped to_ascii_uppercase upper_clear text)
    (rw again (ap (λ t. Some (value.Text t)) (map_twice to_ascii_uppercase upper_twice_byte code) ∙ ap Some (sym same)))
