-- Numbers in words.
use Rattle.std.proofs.Common.{◌≡◌, ◌&&◌, ◌<◌, ◌^◌, ℕ, Bool, true, false, not, nat_le, nat_lt, List, length, Result, Ok, Err, Some, None, refl, sym, ap, ◌∙◌, if◌then◌else◌}
use Rattle.std.specs.List.{list_all}
use Rattle.std.specs.Result.{OkIff, result_ok}
use Rattle.std.specs.Str.Parse.{digits_value, ParsesUnsigned}
use Rattle.std.proofs.lemmas.Bool.{and_parts, le-leb, leb-true, lt-ltb, ltb-true}
use Rattle.std.proofs.lemmas.Str.Parse.{IsDigitsTest, IsNumeralModel, numerals_by_value, parse_digits}
use Rattle.command_words.specs.Values.{has_needless_zero, is_digit, is_number, number_in}

tells_digits : IsDigitsTest (λ ds. list_all is_digit ds ≡ true)
tells_digits = record {
  empty = refl;
  parts = λ c cs e. let k = and_parts (is_digit c) (list_all is_digit cs) e in let m = and_parts (nat_le 48 c) (nat_le c 57) k.0 in ((leb-true 48 c m.0, leb-true c 57 m.1), k.1);
  more = λ c cs k e i. (le-leb 48 c k.0 i && le-leb c 57 k.1 i) && e i;
}

digits_model : IsNumeralModel (λ ds. list_all is_digit ds ≡ true) (digits_value 10)
digits_model = numerals_by_value (λ ds. list_all is_digit ds ≡ true) tells_digits

number_if : (text : List ℕ) (b : Bool) → is_number text ≡ true → nat_lt (digits_value 10 text) (2 ^ 64) ≡ b → number_in text ≡ (if b then Some (digits_value 10 text) else None)
number_if text b is fits = ap (λ t. if t && nat_lt (digits_value 10 text) (2 ^ 64) then Some (digits_value 10 text) else None) is ∙ ap (λ t. if t then Some (digits_value 10 text) else None) fits

digits_some : (text : List ℕ) → is_number text ≡ true → (list_all is_digit text ≡ true) × (0 < length text)
digits_some text is =
    let front = and_parts (nat_lt 0 (length text) && list_all is_digit text) (not (has_needless_zero text)) is in
    let parts = and_parts (nat_lt 0 (length text)) (list_all is_digit text) front.0 in
    (parts.1, ltb-true 0 (length text) parts.0)

-- what is parsed of digits is their number, if it fits
pub number_parsed : {E : Type 0} (text : List ℕ) (r : Result ℕ E) → ParsesUnsigned 64 10 text r → is_number text ≡ true → result_ok r ≡ number_in text
number_parsed {E = E} text r parsed is = by_result r (parse_digits digits_model 64 text r parsed (digits_some text is).0)
  where
    by_result : (r : Result ℕ E) → OkIff r ((0 < length text) × (digits_value 10 text < 2 ^ 64)) (digits_value 10 text) → result_ok r ≡ number_in text
    by_result (Ok n) given = ap Some given.1 ∙ sym (number_if text true is (lt-ltb _ _ given.0.1))
    by_result (Err e) given = sym (number_if text false is (by_test (nat_lt (digits_value 10 text) (2 ^ 64)) refl))
      where
        by_test : (b : Bool) → nat_lt (digits_value 10 text) (2 ^ 64) ≡ b → nat_lt (digits_value 10 text) (2 ^ 64) ≡ false
        by_test true fits = absurd (given ((digits_some text is).1, ltb-true _ _ fits))
        by_test false fits = fits
