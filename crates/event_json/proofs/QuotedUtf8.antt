-- A text stays UTF-8 where its decimals go under quotes.
use Rattle.std.proofs.Common.{◌≡◌, ℕ, ◌+◌, ◌/◌, ◌<◌, ◌≤◌, Bool, true, false, ◌&&◌, ◌==◌, cond, List, [], ◌∷◌, ◌++◌, codes, IsUtf8, if◌then◌else◌, refl, sym, ap, subst, ◌∙◌, arith}
use Rattle.std.specs.Str.{IsAscii}
use lib.Utf8.{next, scalar, scalars, encode, encodes}
use lib.Dec.{T, ltb, ltb→lt}
use Rattle.std.proofs.lemmas.Bool.{and_parts, eqb-true}
use Rattle.std.proofs.lemmas.Str.{IsUtf8-append, IsUtf8-encode, IsUtf8-from_ascii, IsAscii-append}
use Rattle.std.proofs.lemmas.Str.Ascii.{IsAscii-nil, IsAscii-cons}
use Rattle.scalar_text.specs.Quote as quoting
use Rattle.event_json.proofs.QuotedTokens.{number_below}

-- bytes above ASCII
abbrev AreHigh : List ℕ → Type 0
AreHigh [] = Unit {0}
AreHigh (b ∷ bs) = (128 ≤ b) × AreHigh bs

record IsHigh (bytes : List ℕ) : Type 0 where
  first : ℕ
  more : List ℕ
  is : bytes ≡ first ∷ more
  high : AreHigh (first ∷ more)

-- ---- such bytes stay

no_number : (b : ℕ) (t : Bool) → quoting.is_number_byte b ≡ t → 128 ≤ b → t ≡ false
no_number b true is high = absurd (omega (arith, number_below b is, high))
no_number b false is high = refl

no_byte : (b c : ℕ) (t : Bool) → (b == c) ≡ t → c < 128 → 128 ≤ b → t ≡ false
no_byte b c true is low high = absurd (omega (arith, eqb-true b c is, low, high))
no_byte b c false is low high = refl

string_on : (bs rest : List ℕ) → AreHigh bs → quoting.quote_string (bs ++ rest) ≡ bs ++ quoting.quote_string rest
string_on [] rest high = refl
string_on (b ∷ bs) rest high =
    ap (λ t. b ∷ (if t then quoting.quote (bs ++ rest) else (if b == 92 then quoting.quote_escape (bs ++ rest) else quoting.quote_string (bs ++ rest)))) (no_byte b 34 (b == 34) refl (omega arith) high.0)
    ∙ ap (λ t. b ∷ (if t then quoting.quote_escape (bs ++ rest) else quoting.quote_string (bs ++ rest))) (no_byte b 92 (b == 92) refl (omega arith) high.0)
    ∙ ap (λ l. b ∷ l) (string_on bs rest high.1)

after_step : (run : List ℕ) (b : ℕ) (bs : List ℕ) → 128 ≤ b → quoting.quote_after run (b ∷ bs) ≡ quoting.quoted_run run ++ b ∷ quoting.quote bs
after_step run b bs high =
    ap (λ t. if t then quoting.quote_after (run ++ b ∷ []) bs else quoting.quoted_run run ++ b ∷ (if b == 34 then quoting.quote_string bs else quoting.quote bs)) (no_number b (quoting.is_number_byte b) refl high)
    ∙ ap (λ t. quoting.quoted_run run ++ b ∷ (if t then quoting.quote_string bs else quoting.quote bs)) (no_byte b 34 (b == 34) refl (omega arith) high)

outside_on : (bs rest : List ℕ) → AreHigh bs → quoting.quote (bs ++ rest) ≡ bs ++ quoting.quote rest
outside_on [] rest high = refl
outside_on (b ∷ bs) rest high = after_step [] b (bs ++ rest) high.0 ∙ ap (λ l. b ∷ l) (outside_on bs rest high.1)

-- ---- texts

run_ascii : (run : List ℕ) → IsAscii run → IsUtf8 (quoting.quoted_run run)
unfolding encode
run_ascii run ascii = by (quoting.is_number run && quoting.is_decimal run)
  where
    by : (t : Bool) → IsUtf8 (if t then codes "{\"$dec\":\"" ++ run ++ codes "\"}" else run)
    by true = IsUtf8-append (codes "{\"$dec\":\"") (run ++ codes "\"}") (codes "{\"$dec\":\"", (refl, refl)) (IsUtf8-append run (codes "\"}") (IsUtf8-from_ascii run ascii) (codes "\"}", (refl, refl)))
    by false = IsUtf8-from_ascii run ascii

-- what is quoted of a text is a text, outside strings behind a run, in a string, and behind a backslash
record AllUtf8 (text : List ℕ) : Type 0 where
  after : (run : List ℕ) → IsAscii run → IsUtf8 (quoting.quote_after run text)
  inside : IsUtf8 (quoting.quote_string text)
  escaped : IsUtf8 (quoting.quote_escape text)

byte_then : (b : ℕ) (bs : List ℕ) → b < 128 → IsUtf8 bs → IsUtf8 (b ∷ bs)
byte_then b bs low text = IsUtf8-append (b ∷ []) bs (IsUtf8-from_ascii (b ∷ []) (IsAscii-cons b [] low IsAscii-nil)) text

module _ (b : ℕ) (bs : List ℕ) (low : b < 128) (here : AllUtf8 bs) where
  low_after : (run : List ℕ) (n s : Bool) → IsAscii run → IsUtf8 (if n then quoting.quote_after (run ++ b ∷ []) bs else quoting.quoted_run run ++ b ∷ (if s then quoting.quote_string bs else quoting.quote bs))
  low_after run true s ascii = here.after (run ++ b ∷ []) (IsAscii-append run (b ∷ []) ascii (IsAscii-cons b [] low IsAscii-nil))
  low_after run false true ascii = IsUtf8-append (quoting.quoted_run run) _ (run_ascii run ascii) (byte_then b _ low here.inside)
  low_after run false false ascii = IsUtf8-append (quoting.quoted_run run) _ (run_ascii run ascii) (byte_then b _ low (here.after [] IsAscii-nil))

  low_inside : (q e : Bool) → IsUtf8 (b ∷ (if q then quoting.quote bs else (if e then quoting.quote_escape bs else quoting.quote_string bs)))
  low_inside true e = byte_then b _ low (here.after [] IsAscii-nil)
  low_inside false true = byte_then b _ low here.escaped
  low_inside false false = byte_then b _ low here.inside

  low_all : AllUtf8 (b ∷ bs)
  low_all = record {
    after = λ run ascii. low_after run (quoting.is_number_byte b) (b == 34) ascii;
    inside = low_inside (b == 34) (b == 92);
    escaped = byte_then b _ low here.inside;
  }

high_all : (first : ℕ) (more rest : List ℕ) → AreHigh (first ∷ more) → IsUtf8 (first ∷ more) → AllUtf8 rest → AllUtf8 (first ∷ more ++ rest)
high_all first more rest high front here = record {
  after = λ run ascii. subst IsUtf8 (sym (after_step run first (more ++ rest) high.0 ∙ ap (λ l. quoting.quoted_run run ++ first ∷ l) (outside_on more rest high.1)))
      (IsUtf8-append (quoting.quoted_run run) _ (run_ascii run ascii) (IsUtf8-append (first ∷ more) _ front (here.after [] IsAscii-nil)));
  inside = subst IsUtf8 (sym (string_on (first ∷ more) rest high)) (IsUtf8-append (first ∷ more) _ front here.inside);
  escaped = subst IsUtf8 (sym (ap (λ l. first ∷ l) (string_on more rest high.1))) (IsUtf8-append (first ∷ more) _ front here.inside);
}

-- the bytes of a character, by how many there are
abbrev encoded : Bool → Bool → Bool → ℕ → List ℕ
encoded one two three c =
    cond one (c ∷ []) (cond two ((192 + c / 64) ∷ next c ∷ []) (cond three ((224 + c / 4096) ∷ next (c / 64) ∷ next c ∷ []) ((240 + c / 262144) ∷ next (c / 4096) ∷ next (c / 64) ∷ next c ∷ [])))

one_all : (one two three : Bool) (c : ℕ) (rest : List ℕ) → (one ≡ true → c < 128) → IsUtf8 (encoded one two three c) → AllUtf8 rest → AllUtf8 (encoded one two three c ++ rest)
one_all true two three c rest low text here = low_all c rest (low refl) here
one_all false true three c rest low text here = high_all (192 + c / 64) (next c ∷ []) rest (omega arith, (omega arith, tt)) text here
one_all false false true c rest low text here = high_all (224 + c / 4096) (next (c / 64) ∷ next c ∷ []) rest (omega arith, (omega arith, (omega arith, tt))) text here
one_all false false false c rest low text here =
    high_all (240 + c / 262144) (next (c / 4096) ∷ next (c / 64) ∷ next c ∷ []) rest (omega arith, (omega arith, (omega arith, (omega arith, tt)))) text here

char_all : (c : ℕ) (rest : List ℕ) → IsUtf8 (encode c) → AllUtf8 rest → AllUtf8 (encode c ++ rest)
unfolding encode
char_all c rest text here = one_all (ltb c 128) (ltb c 2048) (ltb c 65536) c rest (λ e. ltb→lt c 128 (subst T (sym e) tt)) text here

all_utf8 : (cs : List ℕ) → scalars cs ≡ true → AllUtf8 (encodes cs)
all_utf8 [] good = record { after = run_ascii; inside = ([], (refl, refl)); escaped = ([], (refl, refl)) }
all_utf8 (c ∷ cs) good =
    let parts = and_parts (scalar c) (scalars cs) good in
    char_all c (encodes cs) (IsUtf8-encode c parts.0) (all_utf8 cs parts.1)

pub quoted_utf8 : (text : List ℕ) → IsUtf8 text → IsUtf8 (quoting.quote text)
quoted_utf8 text utf8 = subst (λ t. IsUtf8 (quoting.quote t)) utf8.1.1 ((all_utf8 utf8.0 utf8.1.0).after [] IsAscii-nil)
