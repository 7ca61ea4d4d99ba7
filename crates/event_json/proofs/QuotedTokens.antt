-- The lexemes of a text with its decimals under quotes are those of the text, each decimal replaced.
use Rattle.std.proofs.Common.{◌≡◌, ℕ, zero, suc, ◌+◌, ◌-◌, ◌<◌, ◌≤◌, Bool, true, false, cond, not, ◌&&◌, ◌||◌, ◌==◌, List, [], ◌∷◌, ◌++◌, length, take, drop, codes, Option, Some, None, option_and_then, nat_lt, inl, inr, ◌⊎◌, if◌then◌else◌, refl, sym, ap, ap₂, ◌∙◌, subst, arith, length-append, take_at, append_assoc, append-nil}
use Rattle.std.proofs.lemmas.Bool.{true≢false, false≢true, eqb-true, eqb-false, leb-true, and_parts, or_cases, cases_Bool}
use Rattle.std.proofs.lemmas.List.{take-append-drop}
use Rattle.std.proofs.lemmas.Slice.Eq.{bytes_eq-Decides}
use Rattle.std.specs.List.{prefix_len}
use Rattle.std.specs.Char.{is_ascii_digit}
use Rattle.json.specs.Token.{Token}
use Rattle.json.specs.Text.{plain, content, prepend}
use Rattle.json.specs.Word.{is_operator, is_space, head, ends_word, after_digits, after_minus, after_sign, after_whole, after_fraction, after_exponent, after_number, number_before, literal, word}
use Rattle.json.specs.Lex.{Class, Mode, Lexeme, token, comma, colon, quote, backslash, operator, space, other, class, lex, lex_byte, between, in_word, in_string, in_escape, string_token, operator_lexeme}
use Rattle.json.specs.Print.{IsNumber}
use Rattle.json.proofs.Printed.Numbers.{in_word-ended, lex-number, number_alone}
use Rattle.scalar_text.specs.Quote as quoting
use Rattle.event_model.specs.Trees.{dec_key}
use Rattle.event_json.proofs.QuotedNumbers.{number_is}
use Rattle.event_json.proofs.QuotedStrings.{content_stays}

-- ---- lexemes

-- the token is none of a fault
abbrev pub IsGoodToken : Token → Type 0
IsGoodToken Token.begin_object = Unit {0}
IsGoodToken Token.end_object = Unit {0}
IsGoodToken Token.begin_array = Unit {0}
IsGoodToken Token.end_array = Unit {0}
IsGoodToken (Token.key s) = Unit {0}
IsGoodToken (Token.string s) = Unit {0}
IsGoodToken (Token.number s) = Unit {0}
IsGoodToken (Token.boolean b) = Unit {0}
IsGoodToken Token.null = Unit {0}
IsGoodToken Token.bad = ⊥

abbrev pub IsGoodLexeme : Lexeme → Type 0
IsGoodLexeme (token t) = IsGoodToken t
IsGoodLexeme comma = Unit {0}
IsGoodLexeme colon = Unit {0}

abbrev pub AreGoodLexemes : List Lexeme → Type 0
AreGoodLexemes [] = Unit {0}
AreGoodLexemes (l ∷ ls) = IsGoodLexeme l × AreGoodLexemes ls

abbrev pub decimal_lexemes : List ℕ → List Lexeme
decimal_lexemes s = token Token.begin_object ∷ token (Token.string dec_key) ∷ colon ∷ token (Token.string s) ∷ token Token.end_object ∷ []

-- a lexeme, or those of the object that stands for a decimal
abbrev pub quoted_lexeme : Lexeme → List Lexeme
quoted_lexeme (token Token.begin_object) = token Token.begin_object ∷ []
quoted_lexeme (token Token.end_object) = token Token.end_object ∷ []
quoted_lexeme (token Token.begin_array) = token Token.begin_array ∷ []
quoted_lexeme (token Token.end_array) = token Token.end_array ∷ []
quoted_lexeme (token (Token.key s)) = token (Token.key s) ∷ []
quoted_lexeme (token (Token.string s)) = token (Token.string s) ∷ []
quoted_lexeme (token (Token.number s)) = if quoting.is_decimal s then decimal_lexemes s else token (Token.number s) ∷ []
quoted_lexeme (token (Token.boolean b)) = token (Token.boolean b) ∷ []
quoted_lexeme (token Token.null) = token Token.null ∷ []
quoted_lexeme (token Token.bad) = token Token.bad ∷ []
quoted_lexeme comma = comma ∷ []
quoted_lexeme colon = colon ∷ []

abbrev pub quoted_lexemes : List Lexeme → List Lexeme
quoted_lexemes [] = []
quoted_lexemes (l ∷ ls) = quoted_lexeme l ++ quoted_lexemes ls

string_stays : (o : Option (List ℕ)) → quoted_lexeme (token (string_token o)) ≡ token (string_token o) ∷ []
string_stays (Some s) = refl
string_stays None = refl

abbrev operator_of : Bool → Bool → Bool → Bool → Bool → Lexeme
operator_of a b c d e = cond a (token Token.begin_object) (cond b (token Token.end_object) (cond c (token Token.begin_array) (cond d (token Token.end_array) (cond e comma colon))))

operator_by : (a b c d e : Bool) → quoted_lexeme (operator_of a b c d e) ≡ operator_of a b c d e ∷ []
operator_by true b c d e = refl
operator_by false true c d e = refl
operator_by false false true d e = refl
operator_by false false false true e = refl
operator_by false false false false true = refl
operator_by false false false false false = refl

operator_stays : (x : ℕ) → quoted_lexeme (operator_lexeme x) ≡ operator_lexeme x ∷ []
operator_stays x = operator_by (x == 123) (x == 125) (x == 91) (x == 93) (x == 44)

-- ---- bytes of numbers

abbrev all_below : (ℕ → Bool) → ℕ → Bool
all_below p zero = true
all_below p (suc n) = p n && all_below p n

below_at : (p : ℕ → Bool) (n x : ℕ) (b : Bool) → (n == x) ≡ b → p n ≡ true → x < suc n → (x < n → p x ≡ true) → p x ≡ true
below_at p n x true e here less later = ap p (sym (eqb-true n x e)) ∙ here
below_at p n x false e here less later = later (omega (arith, less, eqb-false n x e))

below_sound : (p : ℕ → Bool) (n x : ℕ) → all_below p n ≡ true → x < n → p x ≡ true
below_sound p zero x all less = absurd (omega (arith, less))
below_sound p (suc n) x all less =
    let both = and_parts (p n) (all_below p n) all in
    below_at p n x (n == x) refl both.0 less (below_sound p n x both.1)

abbrev is_other : Class → Bool
is_other quote = false
is_other backslash = false
is_other operator = false
is_other space = false
is_other other = true

other_is : (c : Class) → is_other c ≡ true → c ≡ other
other_is quote h = absurd (false≢true h)
other_is backslash h = absurd (false≢true h)
other_is operator h = absurd (false≢true h)
other_is space h = absurd (false≢true h)
other_is other h = refl

digit_below : (b : ℕ) → quoting.is_digit b ≡ true → b < 102
digit_below b h = omega (arith, leb-true b 57 (and_parts _ _ h).1)

byte_below : (b c : ℕ) → (b == c) ≡ true → c < 102 → b < 102
byte_below b c e less = omega (arith, eqb-true b c e, less)

either_below : {P Q : Type 0} (b : ℕ) → (P → b < 102) → (Q → b < 102) → P ⊎ Q → b < 102
either_below b f g (inl p) = f p
either_below b f g (inr r) = g r

pub number_below : (b : ℕ) → quoting.is_number_byte b ≡ true → b < 102
number_below b h =
    either_below b
    (λ h. either_below b
    (λ h. either_below b
    (λ h. either_below b
    (λ h. either_below b (digit_below b) (λ e. byte_below b 43 e (omega arith)) (or_cases _ _ h))
    (λ e. byte_below b 45 e (omega arith)) (or_cases _ _ h))
    (λ e. byte_below b 46 e (omega arith)) (or_cases _ _ h))
    (λ e. byte_below b 69 e (omega arith)) (or_cases _ _ h))
    (λ e. byte_below b 101 e (omega arith)) (or_cases _ _ h)

unless : (a b : Bool) → (not a || b) ≡ true → a ≡ true → b ≡ true
unless true b h e = h
unless false b h e = absurd (false≢true e)

number_is_other : (b : ℕ) → quoting.is_number_byte b ≡ true → class b ≡ other
number_is_other b h = other_is (class b) (unless (quoting.is_number_byte b) (is_other (class b)) (below_sound (λ y. not (quoting.is_number_byte y) || is_other (class y)) 102 b refl (number_below b h)) h)

-- what ends a word is no byte of a number, and begins no string
ends_number : (b : ℕ) → (is_operator b || is_space b) ≡ true → quoting.is_number_byte b ≡ false
ends_number b h = go (cases_Bool (quoting.is_number_byte b))
  where
    go : (quoting.is_number_byte b ≡ true) ⊎ (quoting.is_number_byte b ≡ false) → quoting.is_number_byte b ≡ false
    go (inr e) = e
    go (inl e) =
        absurd (true≢false (sym (unless (quoting.is_number_byte b) (not (is_operator b || is_space b)) (below_sound (λ y. not (quoting.is_number_byte y) || not (is_operator y || is_space y)) 102 b refl (number_below b e)) e) ∙ ap not h))

ends_string : (b : ℕ) → (is_operator b || is_space b) ≡ true → (b == 34) ≡ false
ends_string b h = go (cases_Bool (b == 34))
  where
    go : ((b == 34) ≡ true) ⊎ ((b == 34) ≡ false) → (b == 34) ≡ false
    go (inr e) = e
    go (inl e) = absurd (true≢false (sym h ∙ ap (λ y. is_operator y || is_space y) (eqb-true b 34 e)))

-- ---- what is read of a number

abbrev AreNumberBytes : List ℕ → Type 0
AreNumberBytes [] = Unit {0}
AreNumberBytes (b ∷ bs) = (quoting.is_number_byte b ≡ true) × AreNumberBytes bs

joined : (a b : List ℕ) → AreNumberBytes a → AreNumberBytes b → AreNumberBytes (a ++ b)
joined [] b f g = g
joined (x ∷ a) b f g = (f.0, joined a b f.1 g)

record Eats (text rest : List ℕ) : Type 0 where
  eaten : List ℕ
  is : text ≡ eaten ++ rest
  bytes : AreNumberBytes eaten

abbrev EatsIf : List ℕ → Option (List ℕ) → Type 0
EatsIf text None = Unit {0}
EatsIf text (Some rest) = Eats text rest

eats_nothing : (t : List ℕ) → Eats t t
eats_nothing t = record { eaten = []; is = refl; bytes = tt }

eats_on : (t u v : List ℕ) → Eats t u → Eats u v → Eats t v
eats_on t u v f g = record {
  eaten = f.eaten ++ g.eaten;
  is = f.is ∙ ap (λ l. f.eaten ++ l) g.is ∙ sym (append_assoc f.eaten g.eaten v);
  bytes = joined f.eaten g.eaten f.bytes g.bytes;
}

eats_byte : (c : ℕ) (t : List ℕ) → quoting.is_number_byte c ≡ true → (head t == c) ≡ true → Eats t (drop 1 t)
eats_byte c [] k e = absurd (true≢false (sym k ∙ ap quoting.is_number_byte (sym (eqb-true 32 c e))))
eats_byte c (x ∷ xs) k e = record { eaten = x ∷ []; is = refl; bytes = (ap quoting.is_number_byte (eqb-true x c e) ∙ k, tt) }

eats_either : (a b : ℕ) (t : List ℕ) → quoting.is_number_byte a ≡ true → quoting.is_number_byte b ≡ true → ((head t == a) ≡ true) ⊎ ((head t == b) ≡ true) → Eats t (drop 1 t)
eats_either a b t p r (inl e) = eats_byte a t p e
eats_either a b t p r (inr e) = eats_byte b t r e

digit_byte : (x : ℕ) → is_ascii_digit x ≡ true → quoting.is_number_byte x ≡ true
digit_byte x h = ap (λ d. d || (x == 43) || (x == 45) || (x == 46) || (x == 69) || (x == 101)) h

eats_digits_at : (d : Bool) (x : ℕ) (xs : List ℕ) (n : ℕ) → (d ≡ true → quoting.is_number_byte x ≡ true) → Eats xs (drop n xs) → Eats (x ∷ xs) (drop (cond d (1 + n) 0) (x ∷ xs))
eats_digits_at false x xs n k ih = eats_nothing (x ∷ xs)
eats_digits_at true x xs n k ih =
    let e : suc n ≡ 1 + n = omega arith in
    subst (λ j. Eats (x ∷ xs) (drop j (x ∷ xs))) e (record { eaten = x ∷ ih.eaten; is = ap (λ l. x ∷ l) ih.is; bytes = (k refl, ih.bytes) })

eats_digits : (t : List ℕ) → Eats t (drop (prefix_len is_ascii_digit t) t)
eats_digits [] = eats_nothing []
eats_digits (x ∷ xs) = eats_digits_at (is_ascii_digit x) x xs (prefix_len is_ascii_digit xs) (digit_byte x) (eats_digits xs)

by_test : (b : Bool) (t : List ℕ) (x y : Option (List ℕ)) → (b ≡ true → EatsIf t x) → EatsIf t y → EatsIf t (cond b x y)
by_test true t x y f g = f refl
by_test false t x y f g = g

skipped : (b : Bool) (t : List ℕ) → (b ≡ true → Eats t (drop 1 t)) → Eats t (cond b (drop 1 t) t)
skipped true t f = f refl
skipped false t f = eats_nothing t

behind : (t u : List ℕ) (o : Option (List ℕ)) → Eats t u → EatsIf u o → EatsIf t o
behind t u None f g = tt
behind t u (Some v) f g = eats_on t u v f g

and_then : (f : List ℕ → Option (List ℕ)) → ((u : List ℕ) → EatsIf u (f u)) → (t : List ℕ) (o : Option (List ℕ)) → EatsIf t o → EatsIf t (option_and_then f o)
and_then f g t None h = tt
and_then f g t (Some u) h = behind t u (f u) h (g u)

eats_after_digits : (t : List ℕ) → EatsIf t (after_digits t)
eats_after_digits t = by_test (prefix_len is_ascii_digit t == 0) t None (Some (drop (prefix_len is_ascii_digit t) t)) (λ e. tt) (eats_digits t)

eats_sign : (t : List ℕ) → Eats t (after_sign t)
eats_sign t = skipped ((head t == 45) || (head t == 43)) t (λ e. eats_either 45 43 t refl refl (or_cases _ _ e))

eats_exponent : (t : List ℕ) → EatsIf t (after_exponent t)
eats_exponent t =
    by_test ((head t == 101) || (head t == 69)) t (after_digits (after_sign (drop 1 t))) (Some t)
    (λ e. behind t (drop 1 t) _ (eats_either 101 69 t refl refl (or_cases _ _ e)) (behind (drop 1 t) (after_sign (drop 1 t)) _ (eats_sign (drop 1 t)) (eats_after_digits (after_sign (drop 1 t)))))
    (eats_nothing t)

eats_fraction : (t : List ℕ) → EatsIf t (after_fraction t)
eats_fraction t =
    by_test (head t == 46) t (after_digits (drop 1 t)) (Some t) (λ e. behind t (drop 1 t) _ (eats_byte 46 t refl e) (eats_after_digits (drop 1 t))) (eats_nothing t)

eats_whole : (t : List ℕ) → EatsIf t (after_whole t)
eats_whole t = by_test (head t == 48) t (Some (drop 1 t)) (after_digits t) (eats_byte 48 t refl) (eats_after_digits t)

eats_number : (t : List ℕ) → EatsIf t (after_number t)
unfolding after_number
eats_number t =
    and_then after_exponent eats_exponent t _ (and_then after_fraction eats_fraction t _
    (behind t (after_minus t) _ (skipped (head t == 45) t (eats_byte 45 t refl)) (eats_whole (after_minus t))))

-- ---- numbers

-- the lexer passes them inside a word
word_passes : (s rest : List ℕ) → AreNumberBytes s → lex in_word (s ++ rest) ≡ lex in_word rest
unfolding lex
word_passes [] rest are = refl
word_passes (x ∷ s) rest are = ap (λ c. lex_byte in_word c x (s ++ rest) (λ m. lex m (s ++ rest))) (number_is_other x are.0) ∙ word_passes s rest are.1

-- they are one run
one_run : (run s rest : List ℕ) → AreNumberBytes s → quoting.quote_after run (s ++ rest) ≡ quoting.quote_after (run ++ s) rest
one_run run [] rest are = ap (λ r. quoting.quote_after r rest) (sym (append-nil run))
one_run run (x ∷ s) rest are =
    ap (λ b. if b then quoting.quote_after (run ++ x ∷ []) (s ++ rest) else quoting.quoted_run run ++ x ∷ (if x == 34 then quoting.quote_string (s ++ rest) else quoting.quote_after [] (s ++ rest))) are.0
    ∙ one_run (run ++ x ∷ []) s rest are.1 ∙ ap (λ r. quoting.quote_after r rest) (append_assoc run (x ∷ []) s)

-- a byte that is none of theirs ends the run
run_ends : (run bs : List ℕ) (b : ℕ) → quoting.is_number_byte b ≡ false → (b == 34) ≡ false → quoting.quote_after run (b ∷ bs) ≡ quoting.quoted_run run ++ b ∷ quoting.quote bs
run_ends run bs b plain_byte no_string =
    ap (λ t. if t then quoting.quote_after (run ++ b ∷ []) bs else quoting.quoted_run run ++ b ∷ (if b == 34 then quoting.quote_string bs else quoting.quote bs)) plain_byte
    ∙ ap (λ t. quoting.quoted_run run ++ b ∷ (if t then quoting.quote_string bs else quoting.quote bs)) no_string

run_before : (run rest : List ℕ) → ends_word rest ≡ true → quoting.quote_after run rest ≡ quoting.quoted_run run ++ quoting.quote rest
run_before run [] ended = sym (append-nil (quoting.quoted_run run))
run_before run (b ∷ bs) ended =
    run_ends run bs b (ends_number b ended) (ends_string b ended) ∙ ap (λ l. quoting.quoted_run run ++ l) (sym (run_ends [] bs b (ends_number b ended) (ends_string b ended)))

-- a word ends where it ended
ends_quoted : (rest : List ℕ) → ends_word rest ≡ true → ends_word (quoting.quote rest) ≡ true
ends_quoted [] ended = refl
ends_quoted (b ∷ bs) ended = ap ends_word (run_ends [] bs b (ends_number b ended) (ends_string b ended)) ∙ ended

number_tests : (x : ℕ) → quoting.is_number_byte x ≡ true → ((x == 34) ≡ false) × ((x == 92) ≡ false) × (nat_lt x 32 ≡ false)
number_tests x h =
    let all = below_sound (λ y. not (quoting.is_number_byte y) || (not (y == 34) && (not (y == 92) && not (nat_lt y 32)))) 102 x refl (number_below x h) in
    let parts = and_parts _ _ (unless (quoting.is_number_byte x) _ all h) in
    let later = and_parts _ _ parts.1 in
    (turned _ parts.0, turned _ later.0, turned _ later.1)
  where
    turned : (b : Bool) → not b ≡ true → b ≡ false
    turned true e = absurd (false≢true e)
    turned false e = refl

-- in a string they stand for themselves
number_content : (s rest : List ℕ) → AreNumberBytes s → content plain (s ++ 34 ∷ rest) ≡ Some s
unfolding content
number_content [] rest are = refl
number_content (x ∷ s) rest are =
    let tests = number_tests x are.0 in
    rw (tests.0, tests.1, tests.2) (ap (prepend (x ∷ [])) (number_content s rest are.1))

number_inside : (s rest : List ℕ) → AreNumberBytes s → lex in_string (s ++ 34 ∷ rest) ≡ lex between rest
unfolding lex
number_inside [] rest are = refl
number_inside (x ∷ s) rest are =
    ap (λ c. lex_byte in_string c x (s ++ 34 ∷ rest) (λ m. lex m (s ++ 34 ∷ rest))) (number_is_other x are.0) ∙ number_inside s rest are.1

decimal_lexed : (s r : List ℕ) → AreNumberBytes s → lex between ((codes "{\"$dec\":\"" ++ s ++ codes "\"}") ++ r) ≡ decimal_lexemes s ++ lex between r
unfolding lex content
decimal_lexed s r are =
    let grouped : (codes "{\"$dec\":\"" ++ s ++ codes "\"}") ++ r ≡ codes "{\"$dec\":\"" ++ (s ++ 34 ∷ 125 ∷ r) = ap (λ l. codes "{\"$dec\":\"" ++ l) (append_assoc s (codes "\"}") r) in
    ap (lex between) grouped
    ∙ ap₂ (λ o l. token Token.begin_object ∷ token (Token.string dec_key) ∷ colon ∷ token (string_token o) ∷ l) (number_content s (125 ∷ r) are) (number_inside s (125 ∷ r) are)

-- ---- a word

-- the lexer goes on behind it, and so does the quoting
record Quotes (text : List ℕ) : Type 0 where
  rest : List ℕ
  word_is : List ℕ
  is : text ≡ word_is ++ rest
  ended : ends_word rest ≡ true
  lexed : lex in_word text ≡ lex in_word rest
  quoted : List ℕ
  quoted_is : quoting.quote text ≡ quoted ++ quoting.quote rest
  lexemes : (r : List ℕ) → ends_word r ≡ true → lex between (quoted ++ r) ≡ quoted_lexeme (token (word text)) ++ lex between r

front_of : (s rest : List ℕ) → take (length (s ++ rest) - length rest) (s ++ rest) ≡ s
front_of s rest =
    let e : length (s ++ rest) - length rest ≡ length s = omega (arith, length-append s rest) in
    ap (λ n. take n (s ++ rest)) e ∙ take_at s rest (length s) refl

number_lexed : (s r : List ℕ) (n d : Bool) → quoting.is_number s ≡ n → n ≡ true → AreNumberBytes s → IsNumber s → ends_word r ≡ true
    → lex between ((if n && d then codes "{\"$dec\":\"" ++ s ++ codes "\"}" else s) ++ r) ≡ (if d then decimal_lexemes s else token (Token.number s) ∷ []) ++ lex between r
number_lexed s r true true is so are number ended = decimal_lexed s r are
number_lexed s r true false is so are number ended = lex-number s r number ended
number_lexed s r false d is so are number ended = absurd (false≢true so)

number_quotes : (t rest : List ℕ) → word t ≡ Token.number (take (length t - length rest) t) → Eats t rest → ends_word rest ≡ true → after_number t ≡ Some rest → Quotes t
number_quotes t rest reads eats ended after =
    let s = eats.eaten in
    let front : take (length t - length rest) t ≡ s = ap (λ l. take (length l - length rest) l) eats.is ∙ front_of s rest in
    let number : IsNumber s = number_alone s rest ended (sym (ap after_number eats.is) ∙ after) in
    record {
      rest = rest;
      word_is = s;
      is = eats.is;
      ended = ended;
      lexed = ap (lex in_word) eats.is ∙ word_passes s rest eats.bytes;
      quoted = quoting.quoted_run s;
      quoted_is = ap quoting.quote eats.is ∙ one_run [] s rest eats.bytes ∙ run_before s rest ended;
      lexemes = λ r end. number_lexed s r (quoting.is_number s) (quoting.is_decimal s) refl (number_is s number) eats.bytes number end
          ∙ ap (λ w. quoted_lexeme (token w) ++ lex between r) (sym (reads ∙ ap Token.number front));
    }

ended_number : (t rest : List ℕ) (b : Bool) → ends_word rest ≡ b → word t ≡ cond b (Token.number (take (length t - length rest) t)) Token.bad → Eats t rest → after_number t ≡ Some rest → IsGoodToken (word t) → Quotes t
ended_number t rest true e reads eats after h = number_quotes t rest reads eats e after
ended_number t rest false e reads eats after h = absurd (subst IsGoodToken reads h)

number_word : (t : List ℕ) (o : Option (List ℕ)) → after_number t ≡ o → EatsIf t o → word t ≡ number_before t o → IsGoodToken (word t) → Quotes t
number_word t None after eats reads h = absurd (subst IsGoodToken reads h)
number_word t (Some rest) after eats reads h = ended_number t rest (ends_word rest) refl reads eats after h

passed : (b : Bool) (k : Token) → IsGoodToken (cond b k Token.bad) → b ≡ true
passed true k h = refl
passed false k h = absurd h

literal_quotes : (name : List ℕ) (k : Token) (t : List ℕ) → word t ≡ literal name k t → quoted_lexeme (token k) ≡ token k ∷ [] → ((rest : List ℕ) → lex in_word (name ++ rest) ≡ lex in_word rest)
    → ((rest : List ℕ) → ends_word rest ≡ true → quoting.quote (name ++ rest) ≡ name ++ quoting.quote rest) → ((r : List ℕ) → ends_word r ≡ true → lex between (name ++ r) ≡ token k ∷ lex between r) → IsGoodToken (word t) → Quotes t
literal_quotes name k t reads stays lexed quoted lexemes h =
    let good = passed _ k (subst IsGoodToken reads h) in
    let both = and_parts _ _ good in
    let front : name ≡ take (length name) t = (bytes_eq-Decides name (take (length name) t)).0 both.0 in
    let rest = drop (length name) t in
    let is : t ≡ name ++ rest = sym (take-append-drop (length name) t) ∙ ap (λ l. l ++ rest) (sym front) in
    let token_is : word t ≡ k = reads ∙ ap (λ b. cond b k Token.bad) good in
    record {
      rest = rest;
      word_is = name;
      is = is;
      ended = both.1;
      lexed = ap (lex in_word) is ∙ lexed rest;
      quoted = name;
      quoted_is = ap quoting.quote is ∙ quoted rest both.1;
      lexemes = λ r end. lexemes r end ∙ ap (λ l. l ++ lex between r) (sym (ap (λ w. quoted_lexeme (token w)) token_is ∙ stays));
    }

-- an e at the end of a word is no number
behind_e : (run rest : List ℕ) → quoting.quoted_run run ≡ run → ends_word rest ≡ true → quoting.quote_after run rest ≡ run ++ quoting.quote rest
behind_e run rest same ended = run_before run rest ended ∙ ap (λ l. l ++ quoting.quote rest) same

true_lexed : (r : List ℕ) → ends_word r ≡ true → lex between (116 ∷ 114 ∷ 117 ∷ 101 ∷ r) ≡ token (Token.boolean true) ∷ lex between r
unfolding lex word
true_lexed r ended = ap₂ (λ b l. token (cond b (Token.boolean true) Token.bad) ∷ l) ended (in_word-ended r ended)

false_lexed : (r : List ℕ) → ends_word r ≡ true → lex between (102 ∷ 97 ∷ 108 ∷ 115 ∷ 101 ∷ r) ≡ token (Token.boolean false) ∷ lex between r
unfolding lex word
false_lexed r ended = ap₂ (λ b l. token (cond b (Token.boolean false) Token.bad) ∷ l) ended (in_word-ended r ended)

null_lexed : (r : List ℕ) → ends_word r ≡ true → lex between (110 ∷ 117 ∷ 108 ∷ 108 ∷ r) ≡ token Token.null ∷ lex between r
unfolding lex word
null_lexed r ended = ap₂ (λ b l. token (cond b Token.null Token.bad) ∷ l) ended (in_word-ended r ended)

word_by : (t : List ℕ) (true_is false_is null_is : Bool)
    → word t ≡ cond true_is (literal (116 ∷ 114 ∷ 117 ∷ 101 ∷ []) (Token.boolean true) t) (cond false_is (literal (102 ∷ 97 ∷ 108 ∷ 115 ∷ 101 ∷ []) (Token.boolean false) t) (cond null_is (literal (110 ∷ 117 ∷ 108 ∷ 108 ∷ []) Token.null t) (number_before t (after_number t))))
    → IsGoodToken (word t) → Quotes t
unfolding lex
word_by t true f n reads h =
    literal_quotes (116 ∷ 114 ∷ 117 ∷ 101 ∷ []) (Token.boolean true) t reads refl (λ r. refl) (λ r ended. ap (λ l. 116 ∷ 114 ∷ 117 ∷ l) (behind_e (101 ∷ []) r refl ended)) true_lexed h
word_by t false true n reads h =
    literal_quotes (102 ∷ 97 ∷ 108 ∷ 115 ∷ 101 ∷ []) (Token.boolean false) t reads refl (λ r. refl) (λ r ended. ap (λ l. 102 ∷ 97 ∷ 108 ∷ 115 ∷ l) (behind_e (101 ∷ []) r refl ended)) false_lexed h
word_by t false false true reads h =
    literal_quotes (110 ∷ 117 ∷ 108 ∷ 108 ∷ []) Token.null t reads refl (λ r. refl) (λ r ended. refl) null_lexed h
word_by t false false false reads h = number_word t (after_number t) refl (eats_number t) reads h

word_quotes : (t : List ℕ) → IsGoodToken (word t) → Quotes t
unfolding word
word_quotes t h = word_by t (head t == 116) (head t == 102) (head t == 110) refl h

-- ---- texts

record AllQuoted (text : List ℕ) : Type 0 where
  outside : AreGoodLexemes (lex between text) → lex between (quoting.quote text) ≡ quoted_lexemes (lex between text)
  inside : AreGoodLexemes (lex in_string text) → lex in_string (quoting.quote_string text) ≡ quoted_lexemes (lex in_string text)
  escaped : AreGoodLexemes (lex in_escape text) → lex in_escape (quoting.quote_escape text) ≡ quoted_lexemes (lex in_escape text)

module _ (x : ℕ) (xs : List ℕ) (here : AllQuoted xs) where
  abbrev of_tests : Bool → Bool → Bool → Bool → Class
  of_tests q b o s = cond q quote (cond b backslash (cond o operator (cond s space other)))

  class_is : (q b o s : Bool) → (x == 34) ≡ q → (x == 92) ≡ b → is_operator x ≡ o → is_space x ≡ s → class x ≡ of_tests q b o s
  class_is q b o s eq eb eo es =
      ap (λ t. of_tests t (x == 92) (is_operator x) (is_space x)) eq ∙ ap (λ t. of_tests q t (is_operator x) (is_space x)) eb
      ∙ ap (λ t. of_tests q b t (is_space x)) eo ∙ ap (λ t. of_tests q b o t) es

  -- a byte of a class, whatever stands behind it
  lexed_as : (m : Mode) (c : Class) (ys : List ℕ) → class x ≡ c → lex m (x ∷ ys) ≡ lex_byte m c x ys (λ next. lex next ys)
  unfolding lex
  lexed_as m c ys is = ap (λ k. lex_byte m k x ys (λ next. lex next ys)) is

  behind_word : ((rest : List ℕ) → length rest ≤ length xs → AllQuoted rest) → class x ≡ other → (is_operator x || is_space x) ≡ false → Quotes (x ∷ xs) → AreGoodLexemes (lex in_word xs)
      → lex between (quoting.quote (x ∷ xs)) ≡ quoted_lexeme (token (word (x ∷ xs))) ++ quoted_lexemes (lex in_word xs)
  behind_word far is_other no_end q h = by q.word_is q.is
    where
      on : lex in_word xs ≡ lex between q.rest
      on = sym (lexed_as in_word other xs is_other) ∙ q.lexed ∙ in_word-ended q.rest q.ended

      by : (w : List ℕ) → x ∷ xs ≡ w ++ q.rest → lex between (quoting.quote (x ∷ xs)) ≡ quoted_lexeme (token (word (x ∷ xs))) ++ quoted_lexemes (lex in_word xs)
      by [] is = absurd (true≢false (sym (ap ends_word is ∙ q.ended) ∙ no_end))
      by (y ∷ w) is =
          let small : length q.rest ≤ length xs = omega (arith, ap length is, length-append w q.rest) in
          let later : lex between (quoting.quote q.rest) ≡ quoted_lexemes (lex in_word xs) = (far q.rest small).outside (subst AreGoodLexemes on h) ∙ ap quoted_lexemes (sym on) in
          ap (lex between) q.quoted_is ∙ q.lexemes (quoting.quote q.rest) (ends_quoted q.rest q.ended) ∙ ap (λ l. quoted_lexeme (token (word (x ∷ xs))) ++ l) later

  at_quote : (ys : List ℕ) → lex between (34 ∷ ys) ≡ token (string_token (content plain ys)) ∷ lex in_string ys
  unfolding lex
  at_quote ys = refl

  outside_by : ((rest : List ℕ) → length rest ≤ length xs → AllQuoted rest) → (q b o s : Bool) → (x == 34) ≡ q → (x == 92) ≡ b → is_operator x ≡ o → is_space x ≡ s
      → AreGoodLexemes (lex_byte between (of_tests q b o s) x xs (λ m. lex m xs)) → lex between (quoting.quote (x ∷ xs)) ≡ quoted_lexemes (lex_byte between (of_tests q b o s) x xs (λ m. lex m xs))
  outside_by far true b o s eq eb eo es h =
      ap (λ y. lex between (quoting.quote (y ∷ xs))) (eqb-true x 34 eq)
      ∙ at_quote (quoting.quote_string xs) ∙ ap₂ (λ o l. token (string_token o) ∷ l) (content_stays xs) (here.inside h.1)
      ∙ ap (λ l. l ++ quoted_lexemes (lex in_string xs)) (sym (string_stays (content plain xs)))
  outside_by far false true o s eq eb eo es h = absurd h.0
  outside_by far false false true s eq eb eo es h =
      ap (lex between) (run_ends [] xs x (ends_number x (ap (λ t. t || is_space x) eo)) eq) ∙ lexed_as between operator (quoting.quote xs) (class_is false false true s eq eb eo es)
      ∙ ap (λ l. operator_lexeme x ∷ l) (here.outside h.1) ∙ ap (λ l. l ++ quoted_lexemes (lex between xs)) (sym (operator_stays x))
  outside_by far false false false true eq eb eo es h =
      ap (lex between) (run_ends [] xs x (ends_number x (ap (λ t. t || is_space x) eo ∙ es)) eq) ∙ lexed_as between space (quoting.quote xs) (class_is false false false true eq eb eo es) ∙ here.outside h
  outside_by far false false false false eq eb eo es h =
      behind_word far (class_is false false false false eq eb eo es) (ap (λ t. t || is_space x) eo ∙ es) (word_quotes (x ∷ xs) h.0) h.1

  outside_at : ((rest : List ℕ) → length rest ≤ length xs → AllQuoted rest) → AreGoodLexemes (lex between (x ∷ xs)) → lex between (quoting.quote (x ∷ xs)) ≡ quoted_lexemes (lex between (x ∷ xs))
  outside_at far h =
      let is = lexed_as between (class x) xs refl in
      outside_by far (x == 34) (x == 92) (is_operator x) (is_space x) refl refl refl refl (subst AreGoodLexemes is h) ∙ ap quoted_lexemes (sym is)

  inside_on : (o s : Bool) → lex_byte in_string (of_tests false false o s) x xs (λ m. lex m xs) ≡ lex in_string xs
  inside_on true s = refl
  inside_on false true = refl
  inside_on false false = refl

  inside_passes : (o s : Bool) (ys : List ℕ) → (x == 34) ≡ false → (x == 92) ≡ false → is_operator x ≡ o → is_space x ≡ s → lex in_string (x ∷ ys) ≡ lex in_string ys
  inside_passes true s ys eq eb eo es = lexed_as in_string operator ys (class_is false false true s eq eb eo es)
  inside_passes false true ys eq eb eo es = lexed_as in_string space ys (class_is false false false true eq eb eo es)
  inside_passes false false ys eq eb eo es = lexed_as in_string other ys (class_is false false false false eq eb eo es)

  inside_by : (q b o s : Bool) → (x == 34) ≡ q → (x == 92) ≡ b → is_operator x ≡ o → is_space x ≡ s → AreGoodLexemes (lex_byte in_string (of_tests q b o s) x xs (λ m. lex m xs))
      → lex in_string (x ∷ (if q then quoting.quote xs else (if b then quoting.quote_escape xs else quoting.quote_string xs))) ≡ quoted_lexemes (lex_byte in_string (of_tests q b o s) x xs (λ m. lex m xs))
  inside_by true b o s eq eb eo es h = lexed_as in_string quote (quoting.quote xs) (class_is true b o s eq eb eo es) ∙ here.outside h
  inside_by false true o s eq eb eo es h = lexed_as in_string backslash (quoting.quote_escape xs) (class_is false true o s eq eb eo es) ∙ here.escaped h
  inside_by false false o s eq eb eo es h =
      inside_passes o s (quoting.quote_string xs) eq eb eo es ∙ here.inside (subst AreGoodLexemes (inside_on o s) h) ∙ ap quoted_lexemes (sym (inside_on o s))

  inside_at : AreGoodLexemes (lex in_string (x ∷ xs)) → lex in_string (quoting.quote_string (x ∷ xs)) ≡ quoted_lexemes (lex in_string (x ∷ xs))
  inside_at h =
      let is = lexed_as in_string (class x) xs refl in
      inside_by (x == 34) (x == 92) (is_operator x) (is_space x) refl refl refl refl (subst AreGoodLexemes is h) ∙ ap quoted_lexemes (sym is)

  escaped_at : AreGoodLexemes (lex in_escape (x ∷ xs)) → lex in_escape (quoting.quote_escape (x ∷ xs)) ≡ quoted_lexemes (lex in_escape (x ∷ xs))
  escaped_at h =
      let is = lexed_as in_escape (class x) xs refl in
      lexed_as in_escape (class x) (quoting.quote_string xs) refl ∙ here.inside (subst AreGoodLexemes is h) ∙ ap quoted_lexemes (sym is)

  all_at : ((rest : List ℕ) → length rest ≤ length xs → AllQuoted rest) → AllQuoted (x ∷ xs)
  all_at far = record { outside = outside_at far; inside = inside_at; escaped = escaped_at }

nothing_quoted : AllQuoted []
unfolding lex
nothing_quoted = record { outside = λ h. refl; inside = λ h. refl; escaped = λ h. refl }

all_quoted : (n : ℕ) (text : List ℕ) → length text ≤ n → AllQuoted text
all_quoted n [] within = nothing_quoted
all_quoted zero (x ∷ xs) within = absurd (omega (arith, within))
all_quoted (suc n) (x ∷ xs) within = all_at x xs (all_quoted n xs (omega (arith, within))) (λ rest small. all_quoted n rest (omega (arith, within, small)))

pub text_quoted : (text : List ℕ) → AreGoodLexemes (lex between text) → lex between (quoting.quote text) ≡ quoted_lexemes (lex between text)
text_quoted text good = (all_quoted (length text) text (omega arith)).outside good
