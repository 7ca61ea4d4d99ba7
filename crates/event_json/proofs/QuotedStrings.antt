-- What a string stands for stays, whatever decimals go under quotes behind it.
use Rattle.std.proofs.Common.{◌≡◌, ℕ, zero, suc, ◌*◌, ◌+◌, ◌≤◌, Bool, true, false, cond, ◌&&◌, ◌==◌, List, [], ◌∷◌, length, Option, Some, None, option_and_then, nat_lt, if◌then◌else◌, refl, sym, ap, ◌∙◌, arith}
use Rattle.std.proofs.lemmas.Bool.{eqb-true, false≢true}
use Rattle.std.specs.Char.{digit_value, encode_utf8, is_digit}
use Rattle.json.specs.Text.{plain, after_backslash, after_u, after_high, code_unit, content, is_high_surrogate, is_low_surrogate, prepend, short_escape, surrogate_pair}
use Rattle.scalar_text.specs.Quote as quoting

abbrev behind_byte : Bool → Bool → List ℕ → List ℕ
behind_byte q e xs = if q then quoting.quote xs else (if e then quoting.quote_escape xs else quoting.quote_string xs)

-- what is read of the bytes is what is read of them quoted
record Same (xs : List ℕ) : Type 0 where
  string : content plain (quoting.quote_string xs) ≡ content plain xs
  escape : content after_backslash (quoting.quote_escape xs) ≡ content after_backslash xs
  pair : (high : ℕ) → content (after_high high) (quoting.quote_string xs) ≡ content (after_high high) xs

-- ---- hexadecimal digits

-- they are no marks
digit_passes : (x : ℕ) (xs : List ℕ) (q e : Bool) → (x == 34) ≡ q → (x == 92) ≡ e → is_digit x 16 ≡ true → behind_byte q e xs ≡ quoting.quote_string xs
digit_passes x xs true e is_quote is_escape digit = absurd (false≢true (sym (ap (λ y. is_digit y 16) (eqb-true x 34 is_quote)) ∙ digit))
digit_passes x xs false true is_quote is_escape digit = absurd (false≢true (sym (ap (λ y. is_digit y 16) (eqb-true x 92 is_escape)) ∙ digit))
digit_passes x xs false false is_quote is_escape digit = refl

-- where another byte is read as nothing, whatever stands behind it
digit_step : (read : List ℕ → Option (List ℕ)) (x : ℕ) (xs : List ℕ) (d : Bool) → is_digit x 16 ≡ d → (d ≡ false → (ys : List ℕ) → read (x ∷ ys) ≡ None) → read (x ∷ quoting.quote_string xs) ≡ read (x ∷ xs)
    → read (quoting.quote_string (x ∷ xs)) ≡ read (x ∷ xs)
digit_step read x xs true digit none later = ap (λ l. read (x ∷ l)) (digit_passes x xs (x == 34) (x == 92) refl refl digit) ∙ later
digit_step read x xs false digit none later = none refl _ ∙ sym (none refl xs)

abbrev unit_of : Bool → Bool → Bool → Bool → ℕ → ℕ → ℕ → ℕ → Option ℕ
unit_of p q r s a b c d = cond (p && q && r && s) (Some (digit_value a * 4096 + digit_value b * 256 + digit_value c * 16 + digit_value d)) None

no_second : (p r s : Bool) (a b c d : ℕ) → unit_of p false r s a b c d ≡ None
no_second true r s a b c d = refl
no_second false r s a b c d = refl

no_third : (p q s : Bool) (a b c d : ℕ) → unit_of p q false s a b c d ≡ None
no_third true true s a b c d = refl
no_third true false s a b c d = refl
no_third false q s a b c d = refl

no_fourth : (p q r : Bool) (a b c d : ℕ) → unit_of p q r false a b c d ≡ None
no_fourth true true true a b c d = refl
no_fourth true true false a b c d = refl
no_fourth true false r a b c d = refl
no_fourth false q r a b c d = refl

unit_none : (a b c d : ℕ) (p q r s : Bool) → is_digit a 16 ≡ p → is_digit b 16 ≡ q → is_digit c 16 ≡ r → is_digit d 16 ≡ s → unit_of p q r s a b c d ≡ None → code_unit a b c d ≡ None
unfolding code_unit
unit_none a b c d p q r s ep eq er es none =
    ap (λ t. unit_of t (is_digit b 16) (is_digit c 16) (is_digit d 16) a b c d) ep ∙ ap (λ t. unit_of p t (is_digit c 16) (is_digit d 16) a b c d) eq
    ∙ ap (λ t. unit_of p q t (is_digit d 16) a b c d) er ∙ ap (λ t. unit_of p q r t a b c d) es ∙ none

-- ---- four of them, and what follows

-- A reader of four digits: of fewer bytes it reads nothing, and of others nothing where they aren't all digits.
record Reader (read : List ℕ → Option (List ℕ)) : Type 0 where
  one : (a : ℕ) → read (a ∷ []) ≡ None
  two : (a b : ℕ) → read (a ∷ b ∷ []) ≡ None
  three : (a b c : ℕ) → read (a ∷ b ∷ c ∷ []) ≡ None
  none : (a b c d : ℕ) (ys : List ℕ) → code_unit a b c d ≡ None → read (a ∷ b ∷ c ∷ d ∷ ys) ≡ None

module _ (read : List ℕ → Option (List ℕ)) (r : Reader read) where
  bad_first : (a : ℕ) → is_digit a 16 ≡ false → (ys : List ℕ) → read (a ∷ ys) ≡ None
  bad_first a is [] = r.one a
  bad_first a is (b ∷ []) = r.two a b
  bad_first a is (b ∷ c ∷ []) = r.three a b c
  bad_first a is (b ∷ c ∷ d ∷ ys) = r.none a b c d ys (unit_none a b c d false (is_digit b 16) (is_digit c 16) (is_digit d 16) is refl refl refl refl)

  bad_second : (a b : ℕ) → is_digit b 16 ≡ false → (ys : List ℕ) → read (a ∷ b ∷ ys) ≡ None
  bad_second a b is [] = r.two a b
  bad_second a b is (c ∷ []) = r.three a b c
  bad_second a b is (c ∷ d ∷ ys) = r.none a b c d ys (unit_none a b c d (is_digit a 16) false (is_digit c 16) (is_digit d 16) refl is refl refl (no_second (is_digit a 16) (is_digit c 16) (is_digit d 16) a b c d))

  bad_third : (a b c : ℕ) → is_digit c 16 ≡ false → (ys : List ℕ) → read (a ∷ b ∷ c ∷ ys) ≡ None
  bad_third a b c is [] = r.three a b c
  bad_third a b c is (d ∷ ys) = r.none a b c d ys (unit_none a b c d (is_digit a 16) (is_digit b 16) false (is_digit d 16) refl refl is refl (no_third (is_digit a 16) (is_digit b 16) (is_digit d 16) a b c d))

  bad_fourth : (a b c d : ℕ) → is_digit d 16 ≡ false → (ys : List ℕ) → read (a ∷ b ∷ c ∷ d ∷ ys) ≡ None
  bad_fourth a b c d is ys = r.none a b c d ys (unit_none a b c d (is_digit a 16) (is_digit b 16) (is_digit c 16) false refl refl refl is (no_fourth (is_digit a 16) (is_digit b 16) (is_digit c 16) a b c d))

  module _ (xs : List ℕ) (later : (a b c d : ℕ) (ys : List ℕ) → length ys ≤ length xs → read (a ∷ b ∷ c ∷ d ∷ quoting.quote_string ys) ≡ read (a ∷ b ∷ c ∷ d ∷ ys)) where
    fourth : (a b c : ℕ) (ys : List ℕ) → length ys ≤ length xs → read (a ∷ b ∷ c ∷ quoting.quote_string ys) ≡ read (a ∷ b ∷ c ∷ ys)
    fourth a b c [] within = refl
    fourth a b c (d ∷ ys) within = digit_step (λ l. read (a ∷ b ∷ c ∷ l)) d ys (is_digit d 16) refl (bad_fourth a b c d) (later a b c d ys (omega (arith, within)))

    third : (a b : ℕ) (ys : List ℕ) → length ys ≤ length xs → read (a ∷ b ∷ quoting.quote_string ys) ≡ read (a ∷ b ∷ ys)
    third a b [] within = refl
    third a b (c ∷ ys) within = digit_step (λ l. read (a ∷ b ∷ l)) c ys (is_digit c 16) refl (bad_third a b c) (fourth a b c ys (omega (arith, within)))

    second : (a : ℕ) (ys : List ℕ) → length ys ≤ length xs → read (a ∷ quoting.quote_string ys) ≡ read (a ∷ ys)
    second a [] within = refl
    second a (b ∷ ys) within = digit_step (λ l. read (a ∷ l)) b ys (is_digit b 16) refl (bad_second a b) (third a b ys (omega (arith, within)))

    all_four : (ys : List ℕ) → length ys ≤ length xs → read (quoting.quote_string ys) ≡ read ys
    all_four [] within = refl
    all_four (a ∷ ys) within = digit_step read a ys (is_digit a 16) refl (bad_first a) (second a ys (omega (arith, within)))

after_u_reads : Reader (content after_u)
unfolding content
after_u_reads = record { one = λ a. refl; two = λ a b. refl; three = λ a b c. refl; none = λ a b c d ys is. ap (option_and_then _) is }

nothing_either : (t : Bool) → cond {A = Option (List ℕ)} t None None ≡ None
nothing_either true = refl
nothing_either false = refl

after_high_reads : (high u : ℕ) → Reader (λ l. content (after_high high) (92 ∷ u ∷ l))
unfolding content
after_high_reads high u = record {
  one = λ a. refl;
  two = λ a b. refl;
  three = λ a b c. refl;
  none = λ a b c d ys is.
      ap (λ o. cond (u == 117) (option_and_then (λ l. cond (is_low_surrogate l) (prepend (encode_utf8 (surrogate_pair high l)) (content plain ys)) None) o) None) is ∙ nothing_either (u == 117);
}

-- ---- bytes of a string

module _ (x : ℕ) (xs : List ℕ) (far : (rest : List ℕ) → length rest ≤ length xs → Same rest) where
  string_by : (q e : Bool) → cond q (Some []) (cond e (content after_backslash (behind_byte q e xs)) (cond (nat_lt x 32) None (prepend (x ∷ []) (content plain (behind_byte q e xs)))))
      ≡ cond q (Some []) (cond e (content after_backslash xs) (cond (nat_lt x 32) None (prepend (x ∷ []) (content plain xs))))
  string_by true e = refl
  string_by false true = (far xs (omega arith)).escape
  string_by false false = ap (λ o. cond (nat_lt x 32) None (prepend (x ∷ []) o)) (far xs (omega arith)).string

  string_at : content plain (quoting.quote_string (x ∷ xs)) ≡ content plain (x ∷ xs)
  unfolding content
  string_at = string_by (x == 34) (x == 92)

  unit_later : (a b c d : ℕ) (ys : List ℕ) → length ys ≤ length xs → content after_u (a ∷ b ∷ c ∷ d ∷ quoting.quote_string ys) ≡ content after_u (a ∷ b ∷ c ∷ d ∷ ys)
  unfolding content
  unit_later a b c d ys within =
      ap (λ (f : ℕ → Option (List ℕ)). option_and_then f (code_unit a b c d)) (λ i u. cond (is_high_surrogate u) ((far ys within).pair u i) (cond (is_low_surrogate u) None (prepend (encode_utf8 u) ((far ys within).string i))))

  unit_at : (ys : List ℕ) → length ys ≤ length xs → content after_u (quoting.quote_string ys) ≡ content after_u ys
  unit_at = all_four (content after_u) after_u_reads xs unit_later

  escape_at : content after_backslash (quoting.quote_escape (x ∷ xs)) ≡ content after_backslash (x ∷ xs)
  unfolding content
  escape_at = λ i. cond (x == 117) (unit_at xs (omega arith) i) (option_and_then (λ c. prepend (c ∷ []) ((far xs (omega arith)).string i)) (short_escape x))

  pair_later : (high u a b c d : ℕ) (ys : List ℕ) → length ys ≤ length xs → content (after_high high) (92 ∷ u ∷ a ∷ b ∷ c ∷ d ∷ quoting.quote_string ys) ≡ content (after_high high) (92 ∷ u ∷ a ∷ b ∷ c ∷ d ∷ ys)
  unfolding content
  pair_later high u a b c d ys within =
      ap (λ o. cond (u == 117) (option_and_then (λ l. cond (is_low_surrogate l) (prepend (encode_utf8 (surrogate_pair high l)) o) None) (code_unit a b c d)) None) (far ys within).string

  pair_four : (high u : ℕ) (ys : List ℕ) → length ys ≤ length xs → content (after_high high) (92 ∷ u ∷ quoting.quote_string ys) ≡ content (after_high high) (92 ∷ u ∷ ys)
  pair_four high u = all_four (λ l. content (after_high high) (92 ∷ u ∷ l)) (after_high_reads high u) xs (pair_later high u)

  pair_escape : (high : ℕ) (ys : List ℕ) → length ys ≤ length xs → content (after_high high) (92 ∷ quoting.quote_escape ys) ≡ content (after_high high) (92 ∷ ys)
  pair_escape high [] within = refl
  pair_escape high (u ∷ ys) within = pair_four high u ys (omega (arith, within))

  no_pair : (high : ℕ) → (x == 92) ≡ false → (ys : List ℕ) → content (after_high high) (x ∷ ys) ≡ None
  unfolding content
  no_pair high is [] = refl
  no_pair high is (u ∷ []) = refl
  no_pair high is (u ∷ a ∷ []) = refl
  no_pair high is (u ∷ a ∷ b ∷ []) = refl
  no_pair high is (u ∷ a ∷ b ∷ c ∷ []) = refl
  no_pair high is (u ∷ a ∷ b ∷ c ∷ d ∷ ys) = ap (λ t. cond (t && (u == 117)) (option_and_then (λ l. cond (is_low_surrogate l) (prepend (encode_utf8 (surrogate_pair high l)) (content plain ys)) None) (code_unit a b c d)) None) is

  pair_by : (high : ℕ) (e : Bool) → (x == 92) ≡ e → content (after_high high) (quoting.quote_string (x ∷ xs)) ≡ content (after_high high) (x ∷ xs)
  pair_by high true is =
      let e = eqb-true x 92 is in
      ap (λ y. content (after_high high) (quoting.quote_string (y ∷ xs))) e ∙ pair_escape high xs (omega arith) ∙ ap (λ y. content (after_high high) (y ∷ xs)) (sym e)
  pair_by high false is = no_pair high is _ ∙ sym (no_pair high is xs)

  same_at : Same (x ∷ xs)
  same_at = record { string = string_at; escape = escape_at; pair = λ high. pair_by high (x == 92) refl }

same : (n : ℕ) (xs : List ℕ) → length xs ≤ n → Same xs
same n [] within = record { string = refl; escape = refl; pair = λ high. refl }
same zero (x ∷ xs) within = absurd (omega (arith, within))
same (suc n) (x ∷ xs) within = same_at x xs (λ rest small. same n rest (omega (arith, within, small)))

pub content_stays : (xs : List ℕ) → content plain (quoting.quote_string xs) ≡ content plain xs
content_stays xs = (same (length xs) xs (omega arith)).string
