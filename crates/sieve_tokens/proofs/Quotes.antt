-- The length of a quoted text.
use Rattle.std.proofs.Common.{◌≡◌, ◌⊎◌, ◌<◌, ℕ, zero, suc, ◌+◌, Bool, true, false, not, ◌||◌, ◌==◌, List, [], ◌∷◌, ◌++◌, length, take, drop, map, get_or, Option, Some, None, refl, sym, ap, ◌∙◌, subst, inl, inr, lit<, arith, append_assoc, length-append}
use Rattle.std.specs.List.{flat_map, list_all}
use Rattle.std.specs.Prelude.{if◌then◌else◌, option_and_then, IsUtf8}
use Rattle.std.specs.Str.{is_utf8}
use Rattle.std.proofs.lemmas.Bool.{and_from, and_parts, eq-eqb, eqb-true, or_cases, not-true, not_from_false}
use Rattle.std.proofs.lemmas.List.{take_at, drop_at, get_or_at}
use Rattle.std.proofs.lemmas.Str.{IsCharBoundary-after_ascii, IsCharBoundary-before_ascii, IsUtf8-append, IsUtf8-drop, IsUtf8-from_ascii, IsUtf8-from_is_utf8, IsUtf8-nil, IsUtf8-take, is_utf8-from_IsUtf8}
use Rattle.sieve_tokens.specs.Bytes.{backslash, is_escape, is_quote}
use Rattle.sieve_tokens.specs.Quoted.{escaped, may_stand, meaning_of, meant, plain, written, Quotable}
use Rattle.sieve_tokens.specs.Scan.{closing, if_text, quoted_len}

abbrev body : List Quotable → List ℕ
body inner = flat_map written inner

module _ (q : ℕ) (other : (backslash == q) ≡ false) where
  closing_found : (inner : List Quotable) (at : ℕ) (rest : List ℕ) → list_all (may_stand q) inner ≡ true → closing q false at (body inner ++ q ∷ rest) ≡ Some (at + length (body inner))
  closing_found [] at rest all = rw (eq-eqb q q refl) (ap Some (omega arith))
  closing_found (plain b ∷ inner) at rest all =
      let parts = and_parts (may_stand q (plain b)) (list_all (may_stand q) inner) all in
      let apart = and_parts (not (b == q)) (not (b == backslash)) parts.0 in
      rw (not-true (b == q) apart.0, not-true (b == backslash) apart.1) (closing_found inner (at + 1) rest parts.1 ∙ ap Some (omega arith))
  closing_found (escaped b ∷ inner) at rest all =
      let parts = and_parts (is_escape b) (list_all (may_stand q) inner) all in
      rw (other, parts.0) (closing_found inner (at + 1 + 1) rest parts.1 ∙ ap Some (omega arith))

abbrev Closed : ℕ → ℕ → ℕ → List ℕ → Type 0
Closed q at n xs = (inner : List Quotable) × (rest : List ℕ) × (xs ≡ body inner ++ q ∷ rest) × (n ≡ at + length (body inner)) × (list_all (may_stand q) inner ≡ true)

abbrev ClosedBehind : Bool → ℕ → ℕ → ℕ → List ℕ → Type 0
ClosedBehind true q at n xs = (c : ℕ) × (cs : List ℕ) × (xs ≡ c ∷ cs) × (is_escape c ≡ true) × Closed q (at + 1) n cs
ClosedBehind false q at n xs = Closed q at n xs

escape_at : (q at n b : ℕ) (bs : List ℕ) (t : Bool) → is_escape b ≡ t → ◌≡◌ {A = Option ℕ} (if t then closing q false (at + 1) bs else None) (Some n)
    → (closing q false (at + 1) bs ≡ Some n → Closed q (at + 1) n bs) → ClosedBehind true q at n (b ∷ bs)
escape_at q at n b bs true is e more = (b, bs, refl, is, more e)
escape_at q at n b bs false is e more = absurd (cc)

quotable_at : (q at n b : ℕ) (bs : List ℕ) (ends slash : Bool) → (b == q) ≡ ends → (b == backslash) ≡ slash
    → ◌≡◌ {A = Option ℕ} (if ends then Some at else closing q slash (at + 1) bs) (Some n)
    → (closing q slash (at + 1) bs ≡ Some n → ClosedBehind slash q (at + 1) n bs) → Closed q at n (b ∷ bs)
quotable_at q at n b bs true slash ends is e more =
    let same : at ≡ n = cc in
    ([], bs, ap (λ c. c ∷ bs) (eqb-true b q ends), omega arith, refl)
quotable_at q at n b bs false true ends is e more =
    let (c, cs, at_c, escapes, inner, rest, all, place, stand) = spread (more e) in
    let front : b ≡ backslash = eqb-true b backslash is in
    (escaped c ∷ inner, rest, (λ i. front i ∷ at_c i) ∙ ap (λ (l : List ℕ). backslash ∷ (c ∷ l)) all, omega arith, and_from (is_escape c) _ escapes stand)
  where
    spread : ClosedBehind true q (at + 1) n bs → (c : ℕ) × (cs : List ℕ) × (bs ≡ c ∷ cs) × (is_escape c ≡ true) × (inner : List Quotable) × (rest : List ℕ) × (cs ≡ body inner ++ q ∷ rest) × (n ≡ at + 1 + 1 + length (body inner)) × (list_all (may_stand q) inner ≡ true)
    spread h = (h.0, h.1, h.2, h.3, h.4.0, h.4.1, h.4.2, h.4.3, h.4.4)
quotable_at q at n b bs false false ends is e more =
    let (inner, rest, all, place, stand) = more e in
    let may : may_stand q (plain b) ≡ true = and_from (not (b == q)) (not (b == backslash)) (not_from_false _ ends) (not_from_false _ is) in
    (plain b ∷ inner, rest, ap (λ (l : List ℕ). b ∷ l) all, omega arith, and_from (may_stand q (plain b)) _ may stand)

closing_sound : (q : ℕ) (after : Bool) (at n : ℕ) (xs : List ℕ) → closing q after at xs ≡ Some n → ClosedBehind after q at n xs
closing_sound q true at n [] e = absurd (cc)
closing_sound q false at n [] e = absurd (cc)
closing_sound q true at n (b ∷ bs) e = escape_at q at n b bs (is_escape b) refl e (closing_sound q false (at + 1) n bs)
closing_sound q false at n (b ∷ bs) e = quotable_at q at n b bs (b == q) (b == backslash) refl refl e (closing_sound q (b == backslash) (at + 1) n bs)

-- ---- an escape is text where what it stands for is

ascii_join : (a rest : List ℕ) (c : ℕ) → c < 128 → IsUtf8 a → IsUtf8 rest → IsUtf8 (a ++ c ∷ rest)
ascii_join a rest c small front behind = IsUtf8-append a (c ∷ rest) front (IsUtf8-append (c ∷ []) rest (IsUtf8-from_ascii (c ∷ []) one) behind)
  where
    one : (i : ℕ) → get_or (c ∷ []) i 0 < 128
    one zero = small
    one (suc i) = omega arith

ascii_front : (a rest : List ℕ) (c : ℕ) → c < 128 → IsUtf8 (a ++ c ∷ rest) → IsUtf8 a
ascii_front a rest c small text =
    let at = get_or_at a c rest 0 (length a) refl in
    let within : length a < length (a ++ c ∷ rest) = omega (arith, length-append a (c ∷ rest)) in
    subst IsUtf8 (take_at a (c ∷ rest) (length a) refl) (IsUtf8-take (a ++ c ∷ rest) (length a) text (IsCharBoundary-before_ascii (a ++ c ∷ rest) (length a) within (omega arith)))

ascii_behind : (a rest : List ℕ) (c : ℕ) → c < 128 → IsUtf8 (a ++ c ∷ rest) → IsUtf8 rest
ascii_behind a rest c small text =
    let at = get_or_at a c rest 0 (length a) refl in
    let within : length a < length (a ++ c ∷ rest) = omega (arith, length-append a (c ∷ rest)) in
    let cut = IsUtf8-drop (a ++ c ∷ rest) (length a + 1) text (IsCharBoundary-after_ascii (a ++ c ∷ rest) (length a) text within (omega arith)) in
    let same : drop (length a + 1) (a ++ c ∷ rest) ≡ rest =
    ap (drop (length a + 1)) (sym (append_assoc a (c ∷ []) rest)) ∙ drop_at (a ++ c ∷ []) rest (length a + 1) (length-append a (c ∷ [])) in
    subst IsUtf8 same cut

abbrev Small : ℕ → Type 0
Small b = (b < 128) × (meaning_of b < 128)

escape_small : (b : ℕ) → is_escape b ≡ true → Small b
escape_small b is = by_first (or_cases (((b == backslash) || is_quote b) || (b == 110)) (b == 116) is)
  where
    at : (n : ℕ) → Small n → (b == n) ≡ true → Small b
    at n small e = subst Small (sym (eqb-true b n e)) small

    by_third : ((b == backslash) ≡ true) ⊎ (is_quote b ≡ true) → Small b
    by_third h = elim h [ inl e ↦ at 92 (lit< tt, lit< tt) e | inr e ↦ elim (or_cases (b == 39) (b == 34) e) [ inl f ↦ at 39 (lit< tt, lit< tt) f | inr f ↦ at 34 (lit< tt, lit< tt) f ] ]

    by_second : (((b == backslash) || is_quote b) ≡ true) ⊎ ((b == 110) ≡ true) → Small b
    by_second h = elim h [ inl e ↦ by_third (or_cases (b == backslash) (is_quote b) e) | inr e ↦ at 110 (lit< tt, lit< tt) e ]

    by_first : ((((b == backslash) || is_quote b) || (b == 110)) ≡ true) ⊎ ((b == 116) ≡ true) → Small b
    by_first h = elim h [ inl e ↦ by_second (or_cases ((b == backslash) || is_quote b) (b == 110) e) | inr e ↦ at 116 (lit< tt, lit< tt) e ]

written_text : (q : ℕ) (a : List ℕ) (inner : List Quotable) → list_all (may_stand q) inner ≡ true → IsUtf8 (a ++ map meant inner) → IsUtf8 (a ++ body inner)
written_text q a [] all text = text
written_text q a (plain b ∷ inner) all text =
    let parts = and_parts (may_stand q (plain b)) (list_all (may_stand q) inner) all in
    subst IsUtf8 (append_assoc a (b ∷ []) (body inner)) (written_text q (a ++ b ∷ []) inner parts.1 (subst IsUtf8 (sym (append_assoc a (b ∷ []) (map meant inner))) text))
written_text q a (escaped b ∷ inner) all text =
    let parts = and_parts (is_escape b) (list_all (may_stand q) inner) all in
    let small = escape_small b parts.0 in
    let behind = written_text q [] inner parts.1 (ascii_behind a (map meant inner) (meaning_of b) small.1 text) in
    ascii_join a (b ∷ body inner) 92 (lit< tt) (ascii_front a (map meant inner) (meaning_of b) small.1 text) (ascii_join [] (body inner) b small.0 IsUtf8-nil behind)

pub meant_text : (q : ℕ) (a : List ℕ) (inner : List Quotable) → list_all (may_stand q) inner ≡ true → IsUtf8 (a ++ body inner) → IsUtf8 (a ++ map meant inner)
meant_text q a [] all text = text
meant_text q a (plain b ∷ inner) all text =
    let parts = and_parts (may_stand q (plain b)) (list_all (may_stand q) inner) all in
    subst IsUtf8 (append_assoc a (b ∷ []) (map meant inner)) (meant_text q (a ++ b ∷ []) inner parts.1 (subst IsUtf8 (sym (append_assoc a (b ∷ []) (body inner))) text))
meant_text q a (escaped b ∷ inner) all text =
    let parts = and_parts (is_escape b) (list_all (may_stand q) inner) all in
    let small = escape_small b parts.0 in
    let later = ascii_behind a (b ∷ body inner) 92 (lit< tt) text in
    let behind = meant_text q [] inner parts.1 (ascii_behind [] (body inner) b small.0 later) in
    ascii_join a (map meant inner) (meaning_of b) small.1 (ascii_front a (b ∷ body inner) 92 (lit< tt) text) behind

-- ---- whole quoted texts

quote_is : (q : ℕ) → is_quote q ≡ true → (backslash == q) ≡ false
quote_is q is = elim (or_cases (q == 39) (q == 34) is) [ inl e ↦ rw (eqb-true q 39 e) refl | inr e ↦ rw (eqb-true q 34 e) refl ]

-- a quoted text has that length
pub quoted_found : (q : ℕ) (inner : List Quotable) (rest : List ℕ) → is_quote q ≡ true → list_all (may_stand q) inner ≡ true → IsUtf8 (map meant inner)
    → quoted_len q (body inner ++ q ∷ rest) ≡ Some (length (body inner) + 2)
unfolding quoted_len
quoted_found q inner rest is all text =
    let closes : closing q false 0 (body inner ++ q ∷ rest) ≡ Some (length (body inner)) = closing_found q (quote_is q is) inner 0 rest all ∙ ap Some (omega arith) in
    let valid : is_utf8 (take (length (body inner)) (body inner ++ q ∷ rest)) ≡ true =
    ap is_utf8 (take_at (body inner) (q ∷ rest) (length (body inner)) refl) ∙ is_utf8-from_IsUtf8 (body inner) (written_text q [] inner all text) in
    rw (closes, valid) refl

abbrev pub QuotedTo : ℕ → ℕ → List ℕ → Type 0
QuotedTo q n behind = (inner : List Quotable) × (rest : List ℕ) × (behind ≡ body inner ++ q ∷ rest) × (n ≡ length (body inner) + 2) × (list_all (may_stand q) inner ≡ true) × IsUtf8 (map meant inner)

text_at : (q n at : ℕ) (behind : List ℕ) (t : Bool) → is_utf8 (take at behind) ≡ t → ◌≡◌ {A = Option ℕ} (if t then Some (at + 2) else None) (Some n) → Closed q 0 at behind → QuotedTo q n behind
text_at q n at behind true is e closed =
    let (inner, rest, all, place, stand) = closed in
    let size : at + 2 ≡ n = cc in
    let front : take at behind ≡ body inner = ap (take at) all ∙ take_at (body inner) (q ∷ rest) at (omega arith) in
    (inner, rest, all, omega arith, stand, meant_text q [] inner stand (subst IsUtf8 front (IsUtf8-from_is_utf8 (take at behind) is)))
text_at q n at behind false is e closed = absurd (cc)

quoted_by : (q n : ℕ) (behind : List ℕ) (o : Option ℕ) → closing q false 0 behind ≡ o → option_and_then (if_text behind) o ≡ Some n → QuotedTo q n behind
quoted_by q n behind None is e = absurd (cc)
quoted_by q n behind (Some at) is e = text_at q n at behind (is_utf8 (take at behind)) refl e (closing_sound q false 0 at behind is)

-- what has a length is a quoted text
pub quoted_sound : (q n : ℕ) (behind : List ℕ) → quoted_len q behind ≡ Some n → QuotedTo q n behind
unfolding quoted_len
quoted_sound q n behind e = quoted_by q n behind (closing q false 0 behind) refl e
