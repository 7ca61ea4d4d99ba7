-- The piece at the front of a text is the longest that stands there.
use Rattle.std.proofs.Common.{◌≡◌, ◌⊎◌, ◌<◌, ◌≤◌, ℕ, ◌+◌, Bool, true, false, ◌||◌, ◌==◌, List, [], ◌∷◌, ◌++◌, length, drop, Option, Some, None, refl, sym, ap, ◌∙◌, subst, inl, inr, arith, append_assoc, length-append, ⊎_elim}
use Rattle.std.specs.List.{flat_map, list_all}
use Rattle.std.specs.Option.{option_map, MatchOption}
use Rattle.std.specs.Prelude.{codes, if◌then◌else◌}
use Rattle.std.proofs.lemmas.Bool.Decides.{nat_tests}
use Rattle.std.proofs.lemmas.Bool.{and_parts, both_ways, eq-eqb, eqb-true, false_from_ne_true, or_cases}
use Rattle.std.proofs.lemmas.List.{append-nil, drop_at, nil_from_length}
use Rattle.sieve_tokens.specs.Blank.{IsBlank}
use Rattle.sieve_tokens.specs.Bytes.{is_blank_byte, is_digit, is_quote, is_word_start}
use Rattle.sieve_tokens.specs.Number.{IsDecimal, IsWhole}
use Rattle.sieve_tokens.specs.Piece.{IsOf, Leads, Stands}
use Rattle.sieve_tokens.specs.Quoted.{written, IsQuoted}
use Rattle.sieve_tokens.specs.Scan.{blank, comment_len, is_quoted_kind, is_quoted_of, number_at, piece_at, quoted_len, sign_at, sign_piece, token, word_len}
use Rattle.sieve_tokens.specs.Sign.{sign_text, IsSign}
use Rattle.sieve_tokens.specs.Word.{IsWord}
use Rattle.sieve_tokens.specs.declared.piece.Piece.{Piece}
use Rattle.sieve_tokens.specs.declared.sign.Sign.{Sign}
use Rattle.sieve_tokens.specs.declared.sign.Sign.TheVariants as sign
use Rattle.sieve_tokens.specs.declared.token.TokenKind.{TokenKind}
use Rattle.sieve_tokens.specs.declared.token.TokenKind.TheVariants as kind
use Rattle.sieve_tokens.proofs.Comments.{block_comment_len, comment_sound, line_comment_len}
use Rattle.sieve_tokens.proofs.Numbers.{decimal_len, number_sound, whole_len}
use Rattle.sieve_tokens.proofs.Quotes.{quoted_found, quoted_sound}
use Rattle.sieve_tokens.proofs.Signs.{sign_most, sign_size, sign_sound}
use Rattle.sieve_tokens.proofs.WordLens.{word_most, word_sound}

-- ---- a byte of one kind is of no other

module _ (is : ℕ → Bool) (b : ℕ) (passes : is b ≡ true) where
  not_byte : (n : ℕ) → is n ≡ false → (b == n) ≡ false
  not_byte n other = false_from_ne_true (b == n) (λ e. both_ways (is b) (ap is (eqb-true b n e) ∙ other) passes)

  not_either : (x y : Bool) → x ≡ false → y ≡ false → (x || y) ≡ false
  not_either x y none never = rw (none, never) refl

  not_blank : is 32 ≡ false → is 9 ≡ false → is 10 ≡ false → is 13 ≡ false → is_blank_byte b ≡ false
  not_blank space tab feed return = rw (not_byte 32 space, not_byte 9 tab, not_byte 10 feed, not_byte 13 return) refl

  not_quote : is 39 ≡ false → is 34 ≡ false → is_quote b ≡ false
  not_quote single double = rw (not_byte 39 single, not_byte 34 double) refl

digit_no_start : (b : ℕ) → is_digit b ≡ true → is_word_start b ≡ false
digit_no_start b is = grind (arith, nat_tests)

-- ---- which piece stands there, by the first byte

module _ (bs : List ℕ) where
  at_blank : (b : ℕ) → is_blank_byte b ≡ true → piece_at (b ∷ bs) ≡ Some (blank 1)
  unfolding piece_at
  at_blank b is = rw is refl

  at_slash : piece_at (47 ∷ bs) ≡ option_map blank (comment_len (47 ∷ bs))
  unfolding piece_at
  at_slash = refl

  at_word : (b : ℕ) → is_word_start b ≡ true → piece_at (b ∷ bs) ≡ Some (token kind.Word (word_len (b ∷ bs)))
  unfolding piece_at
  at_word b is = rw (not_blank is_word_start b is refl refl refl refl, not_byte is_word_start b is 47 refl, is) refl

  no_start : (b : ℕ) → is_quote b ≡ true → is_word_start b ≡ false
  no_start b is = ⊎_elim (λ (e : (b == 39) ≡ true). rw (eqb-true b 39 e) refl) (λ (e : (b == 34) ≡ true). rw (eqb-true b 34 e) refl) (or_cases (b == 39) (b == 34) is)

  at_quote : (b : ℕ) → is_quote b ≡ true → piece_at (b ∷ bs) ≡ option_map (token kind.Quoted) (quoted_len b bs)
  unfolding piece_at
  at_quote b is = rw (not_blank is_quote b is refl refl refl refl, not_byte is_quote b is 47 refl, no_start b is, is) refl

  at_digit : (b : ℕ) → is_digit b ≡ true → piece_at (b ∷ bs) ≡ number_at (b ∷ bs)
  unfolding piece_at
  at_digit b is = rw (not_blank is_digit b is refl refl refl refl, not_byte is_digit b is 47 refl, digit_no_start b is, not_quote is_digit b is refl refl, is) refl

  at_minus : piece_at (45 ∷ bs) ≡ number_at (45 ∷ bs)
  unfolding piece_at
  at_minus = refl

at_sign : (s : Sign) (rest : List ℕ) → piece_at (sign_text s ++ rest) ≡ option_map sign_piece (sign_at (sign_text s ++ rest))
unfolding piece_at
at_sign sign.OpenBrace rest = refl
at_sign sign.CloseBrace rest = refl
at_sign sign.OpenParen rest = refl
at_sign sign.CloseParen rest = refl
at_sign sign.OpenBracket rest = refl
at_sign sign.CloseBracket rest = refl
at_sign sign.Comma rest = refl
at_sign sign.And rest = refl
at_sign sign.Or rest = refl
at_sign sign.Equal rest = refl
at_sign sign.Matches rest = refl
at_sign sign.Assign rest = refl
at_sign sign.Differs rest = refl
at_sign sign.NotMatches rest = refl
at_sign sign.Not rest = refl
at_sign sign.Within rest = refl
at_sign sign.LessOrEqual rest = refl
at_sign sign.Less rest = refl
at_sign sign.GreaterOrEqual rest = refl
at_sign sign.Greater rest = refl
at_sign sign.Exists rest = refl
at_sign sign.NotExists rest = refl
at_sign sign.Contains rest = refl
at_sign sign.In rest = refl
at_sign sign.Before rest = refl
at_sign sign.After rest = refl

-- ---- what stands there is found, or a longer one of its kind

abbrev Found : Option TokenKind → ℕ → List ℕ → Type 0
Found k n text = (p : Piece) × (piece_at text ≡ Some p) × (k ≡ p.kind) × (n ≤ p.len)

blank_found : (bytes rest : List ℕ) → IsBlank bytes rest → Found None (length bytes) (bytes ++ rest)
blank_found bytes rest h = elim h [
  | inl one ↦ let (b, at, is) = one in let e = ap length at in (blank 1, ap (λ (l : List ℕ). piece_at (l ++ rest)) at ∙ at_blank rest b is, refl, omega arith)
  | inr comment ↦ elim comment [
    | inl line ↦
        let at : piece_at (bytes ++ rest) ≡ option_map blank (comment_len (bytes ++ rest)) = rw line.1 (at_slash (47 ∷ (line.0 ++ rest))) in
        (blank (length bytes), at ∙ ap (option_map blank) (line_comment_len bytes rest line), refl, omega arith)
    | inr block ↦
        let at : piece_at (bytes ++ rest) ≡ option_map blank (comment_len (bytes ++ rest)) = rw block.1 (at_slash (42 ∷ ((block.0 ++ codes "*/") ++ rest))) in
        (blank (length bytes), at ∙ ap (option_map blank) (block_comment_len bytes rest block), refl, omega arith)
  ]
]

word_found : (bytes rest : List ℕ) → IsWord bytes → Found (Some kind.Word) (length bytes) (bytes ++ rest)
word_found bytes rest h = elim h as (λ w. Found (Some kind.Word) (length bytes) (bytes ++ rest)) [
  | inl plain ↦
      let (b, bs, at, start, all) = plain in
      let found : piece_at (bytes ++ rest) ≡ Some (token kind.Word (word_len (bytes ++ rest))) = rw at (at_word (bs ++ rest) b start) in
      (token kind.Word (word_len (bytes ++ rest)), found, refl, word_most bytes rest h)
  | inr force ↦
      let found : piece_at (bytes ++ rest) ≡ Some (token kind.Word (word_len (bytes ++ rest))) = rw force (at_word (100 ∷ (100 ∷ (33 ∷ rest))) 97 refl) in
      (token kind.Word (word_len (bytes ++ rest)), found, refl, word_most bytes rest h)
]

quoted_is_found : (bytes rest : List ℕ) → IsQuoted bytes → Found (Some kind.Quoted) (length bytes) (bytes ++ rest)
quoted_is_found bytes rest h =
    let (q, inner, at, is, all, text) = h in
    let body = flat_map written inner in
    let apart : (body ++ q ∷ []) ++ rest ≡ body ++ q ∷ rest = append_assoc body (q ∷ []) rest in
    let found : piece_at (bytes ++ rest) ≡ Some (token kind.Quoted (length body + 2)) =
    ap (λ (l : List ℕ). piece_at (l ++ rest)) at ∙ (at_quote ((body ++ q ∷ []) ++ rest) q is ∙ ap (option_map (token kind.Quoted)) (ap (quoted_len q) apart ∙ quoted_found q inner rest is all text)) in
    let size = ap length at in
    (token kind.Quoted (length body + 2), found, refl, omega (arith, length-append body (q ∷ [])))

-- what begins with a digit, or with a minus
numeral_at : (minus digits behind : List ℕ) → (minus ≡ []) ⊎ (minus ≡ codes "-") → 0 < length digits → list_all is_digit digits ≡ true → piece_at (minus ++ (digits ++ behind)) ≡ number_at (minus ++ (digits ++ behind))
numeral_at minus [] behind sign some all = absurd (omega arith)
numeral_at minus (d ∷ ds) behind sign some all = ⊎_elim
    (λ (none : minus ≡ []). rw none (at_digit (ds ++ behind) d (and_parts (is_digit d) (list_all is_digit ds) all).0))
    (λ (one : minus ≡ codes "-"). rw one (at_minus (d ∷ (ds ++ behind))))
    sign

whole_is_found : (bytes rest : List ℕ) → IsWhole bytes rest → Found (Some kind.Whole) (length bytes) (bytes ++ rest)
whole_is_found bytes rest h =
    let (minus, digits, is, sign, are, few, stop) = h in
    let apart : bytes ++ rest ≡ minus ++ (digits ++ rest) = ap (λ (l : List ℕ). l ++ rest) is ∙ append_assoc minus digits rest in
    let at : piece_at (bytes ++ rest) ≡ number_at (bytes ++ rest) = rw apart (numeral_at minus digits rest sign are.0 are.1) in
    (token kind.Whole (length bytes), at ∙ whole_len bytes rest h, refl, omega arith)

decimal_is_found : (bytes rest : List ℕ) → IsDecimal bytes rest → Found (Some kind.Decimal) (length bytes) (bytes ++ rest)
decimal_is_found bytes rest h =
    let (minus, digits, fraction, is, sign, are, few, behind, stop) = h in
    let last = codes "." ++ fraction in
    let apart : bytes ++ rest ≡ minus ++ (digits ++ (last ++ rest)) =
    ap (λ (l : List ℕ). l ++ rest) is ∙ (append_assoc minus (digits ++ last) rest ∙ ap (λ (l : List ℕ). minus ++ l) (append_assoc digits last rest)) in
    let at : piece_at (bytes ++ rest) ≡ number_at (bytes ++ rest) = rw apart (numeral_at minus digits (last ++ rest) sign are.0 are.1) in
    (token kind.Decimal (length bytes), at ∙ decimal_len bytes rest h, refl, omega arith)

sign_is_found : (bytes rest : List ℕ) → IsSign bytes → Found (Some kind.Sign) (length bytes) (bytes ++ rest)
sign_is_found bytes rest h =
    let (s, is) = h in
    let (t, found, le) = sign_most s rest in
    let size = ap length is in
    (sign_piece t, ap (λ (l : List ℕ). piece_at (l ++ rest)) is ∙ (at_sign s rest ∙ ap (option_map sign_piece) found), refl, omega arith)

found_of : (k : Option TokenKind) (bytes rest : List ℕ) → IsOf k bytes rest → Found k (length bytes) (bytes ++ rest)
found_of None bytes rest h = blank_found bytes rest h
found_of (Some kind.Word) bytes rest h = word_found bytes rest h
found_of (Some kind.Quoted) bytes rest h = quoted_is_found bytes rest h
found_of (Some kind.Whole) bytes rest h = whole_is_found bytes rest h
found_of (Some kind.Decimal) bytes rest h = decimal_is_found bytes rest h
found_of (Some kind.Sign) bytes rest h = sign_is_found bytes rest h

-- ---- what is found stands there

abbrev Led : Piece → List ℕ → Type 0
Led p text = (rest : List ℕ) × Leads p text rest

the_piece : {p q : Piece} → ◌≡◌ {A = Option Piece} (Some p) (Some q) → p ≡ q
the_piece e = cc

from_len : (f : ℕ → Piece) (o : Option ℕ) (p : Piece) → option_map f o ≡ Some p → (n : ℕ) × (o ≡ Some n) × (f n ≡ p)
from_len f None p e = absurd (cc)
from_len f (Some n) p e = (n, refl, the_piece e)

from_sign : (o : Option Sign) (p : Piece) → option_map sign_piece o ≡ Some p → (s : Sign) × (o ≡ Some s) × (sign_piece s ≡ p)
from_sign None p e = absurd (cc)
from_sign (Some s) p e = (s, refl, the_piece e)

led_comment : (text : List ℕ) (p : Piece) → option_map blank (comment_len text) ≡ Some p → Led p text
led_comment text p e =
    let (n, found, same) = from_len blank (comment_len text) p e in
    let (bytes, rest, at, size, of) = comment_sound n text found in
    subst (λ (q : Piece). Led q text) same (rest, (bytes, at, size, of))

led_word : (b : ℕ) (bs : List ℕ) (p : Piece) → is_word_start b ≡ true → ◌≡◌ {A = Option Piece} (Some (token kind.Word (word_len (b ∷ bs)))) (Some p) → Led p (b ∷ bs)
led_word b bs p start e =
    let (bytes, rest, at, size, of) = word_sound b bs start in
    subst (λ (q : Piece). Led q (b ∷ bs)) (the_piece e) (rest, (bytes, at, size, of))

led_quoted : (b : ℕ) (bs : List ℕ) (p : Piece) → is_quote b ≡ true → option_map (token kind.Quoted) (quoted_len b bs) ≡ Some p → Led p (b ∷ bs)
led_quoted b bs p quote e =
    let (n, found, same) = from_len (token kind.Quoted) (quoted_len b bs) p e in
    let (inner, rest, at, size, all, text) = quoted_sound b n bs found in
    let body = flat_map written inner in
    let bytes = b ∷ (body ++ b ∷ []) in
    let whole : b ∷ bs ≡ bytes ++ rest = ap (λ (l : List ℕ). b ∷ l) (at ∙ sym (append_assoc body (b ∷ []) rest)) in
    subst (λ (q : Piece). Led q (b ∷ bs)) same (rest, (bytes, whole, omega (arith, length-append body (b ∷ [])), (b, inner, refl, quote, all, text)))

led_number : (text : List ℕ) (p : Piece) → number_at text ≡ Some p → Led p text
led_number text p e = let (bytes, rest, at, size, of) = number_sound text p e in (rest, (bytes, at, size, of))

led_sign : (text : List ℕ) (p : Piece) → option_map sign_piece (sign_at text) ≡ Some p → Led p text
led_sign text p e =
    let (s, found, same) = from_sign (sign_at text) p e in
    subst (λ (q : Piece). Led q text) same (drop (length (sign_text s)) text, (sign_text s, sign_sound text s found, refl, (s, refl)))

led_blank : (b : ℕ) (bs : List ℕ) (p : Piece) → is_blank_byte b ≡ true → ◌≡◌ {A = Option Piece} (Some (blank 1)) (Some p) → Led p (b ∷ bs)
led_blank b bs p is e = subst (λ (q : Piece). Led q (b ∷ bs)) (the_piece e) (bs, (b ∷ [], refl, refl, inl (b, refl, is)))

led_by : (b : ℕ) (bs : List ℕ) (p : Piece) (blanks slash start quote numeral : Bool) → is_blank_byte b ≡ blanks → is_word_start b ≡ start → is_quote b ≡ quote
    → (if blanks then Some (blank 1)
    else if slash then option_map blank (comment_len (b ∷ bs))
    else if start then Some (token kind.Word (word_len (b ∷ bs)))
    else if quote then option_map (token kind.Quoted) (quoted_len b bs)
    else if numeral then number_at (b ∷ bs)
    else option_map sign_piece (sign_at (b ∷ bs))) ≡ Some p → Led p (b ∷ bs)
led_by b bs p true slash start quote numeral is_blank is_start is_quoted e = led_blank b bs p is_blank e
led_by b bs p false true start quote numeral is_blank is_start is_quoted e = led_comment (b ∷ bs) p e
led_by b bs p false false true quote numeral is_blank is_start is_quoted e = led_word b bs p is_start e
led_by b bs p false false false true numeral is_blank is_start is_quoted e = led_quoted b bs p is_quoted e
led_by b bs p false false false false true is_blank is_start is_quoted e = led_number (b ∷ bs) p e
led_by b bs p false false false false false is_blank is_start is_quoted e = led_sign (b ∷ bs) p e

found_leads : (text : List ℕ) (p : Piece) → piece_at text ≡ Some p → Led p text
unfolding piece_at
found_leads [] p e = absurd (cc)
found_leads (b ∷ bs) p e = led_by b bs p (is_blank_byte b) (b == 47) (is_word_start b) (is_quote b) (is_digit b || (b == 45)) refl refl refl e

-- ---- the piece found is the one that stands there

same_found : (text : List ℕ) (p q : Piece) → piece_at text ≡ Some p → piece_at text ≡ Some q → p ≡ q
same_found text p q this that = the_piece (sym this ∙ that)

led_found : (q : Piece) (text rest : List ℕ) → Leads q text rest → Found q.kind q.len text
led_found q text rest h =
    let (bytes, at, size, of) = h in
    let (p, found, same, le) = found_of q.kind bytes rest of in
    (p, ap piece_at at ∙ found, same, omega arith)

pub found_stands : (text : List ℕ) (p : Piece) → piece_at text ≡ Some p → (rest : List ℕ) × Stands p text rest
found_stands text p e =
    let (rest, leads) = found_leads text p e in (
      rest,
      record {
        leads = leads;
        longest = λ q behind h.
            let (r, found, same, le) = led_found q text behind h in
            let one = ap (λ (x : Piece). x.len) (same_found text p r e found) in
            omega arith;
      },
    )

pub stands_found : (p : Piece) (text rest : List ℕ) → Stands p text rest → piece_at text ≡ Some p
stands_found p text rest h =
    let (r, found, same, le) = led_found p text rest h.leads in
    let (behind, leads) = found_leads text r found in
    let most = h.longest r behind leads in
    let size : r.len ≡ p.len = omega arith in
    found ∙ ap Some (λ i. record { kind = sym same i; len = size i })

-- ---- what a piece that stands there says of the text

nonempty : (k : Option TokenKind) (bytes rest : List ℕ) → IsOf k bytes rest → 0 < length bytes
nonempty None bytes rest h = elim h [
  | inl one ↦ let e = ap length one.1 in omega arith
  | inr comment ↦ elim comment [ inl line ↦ let e = ap length line.1 in omega arith | inr block ↦ let e = ap length block.1 in omega arith ]
]
nonempty (Some kind.Word) bytes rest h = elim h [ inl plain ↦ let e = ap length plain.2 in omega arith | inr force ↦ let e = ap length force in omega arith ]
nonempty (Some kind.Quoted) bytes rest h = let e = ap length h.2 in omega arith
nonempty (Some kind.Whole) bytes rest h = let e = ap length h.2 in omega (arith, length-append h.0 h.1, h.4.0)
nonempty (Some kind.Decimal) bytes rest h =
    let e = ap length h.3 in
    omega (arith, length-append h.0 (h.1 ++ (codes "." ++ h.2)), length-append h.1 (codes "." ++ h.2), h.5.0)
nonempty (Some kind.Sign) bytes rest h = let e = ap length h.1 in let some = sign_size h.0 in omega arith

pub size_of : (p : Piece) (text rest : List ℕ) → Stands p text rest → (0 < p.len) × (p.len + length rest ≡ length text) × (rest ≡ drop p.len text)
size_of p text rest h =
    let (bytes, at, size, of) = h.leads in
    let some = nonempty p.kind bytes rest of in
    let whole = ap length at in
    (omega arith, omega (arith, length-append bytes rest), sym (ap (drop p.len) at ∙ drop_at bytes rest p.len size))

-- one piece stands at a place, and one text behind it
pub one_piece : (p q : Piece) (text rest behind : List ℕ) → Stands p text rest → Stands q text behind → (p ≡ q) × (rest ≡ behind)
one_piece p q text rest behind this that =
    let same = same_found text p q (stands_found p text rest this) (stands_found q text behind that) in
    let first = (size_of p text rest this).2 in
    let second = (size_of q text behind that).2 in
    (same, first ∙ (ap (λ (x : Piece). drop x.len text) same ∙ sym second))

-- what looking at the front answers
pub stands_or_none : (text : List ℕ) (o : Option Piece) → o ≡ piece_at text → MatchOption o ((piece : Piece) (behind : List ℕ) → Stands piece text behind → ⊥) (λ piece. (behind : List ℕ) × Stands piece text behind)
stands_or_none text None e = λ piece behind h. absurd (none_some (e ∙ stands_found piece text behind h))
  where
    none_some : {p : Piece} → ◌≡◌ {A = Option Piece} None (Some p) → ⊥
    none_some e = absurd (cc)
stands_or_none text (Some p) e = found_stands text p (sym e)

-- ---- a quoted text by itself

quoted_is : (k : Option TokenKind) → is_quoted_kind k ≡ true → k ≡ Some kind.Quoted
quoted_is None e = absurd (cc)
quoted_is (Some kind.Word) e = absurd (cc)
quoted_is (Some kind.Quoted) e = refl
quoted_is (Some kind.Whole) e = absurd (cc)
quoted_is (Some kind.Decimal) e = absurd (cc)
quoted_is (Some kind.Sign) e = absurd (cc)

pub alone_quoted : (text : List ℕ) (o : Option Piece) → o ≡ piece_at text → is_quoted_of (length text) o ≡ true → IsQuoted text
alone_quoted text None is e = absurd (cc)
alone_quoted text (Some p) is e =
    let parts = and_parts (p.len == length text) (is_quoted_kind p.kind) e in
    let same = eqb-true p.len (length text) parts.0 in
    let (rest, (bytes, at, size, of)) = found_leads text p (sym is) in
    let nothing : rest ≡ [] = nil_from_length rest (omega (arith, ap length at, length-append bytes rest)) in
    let all : text ≡ bytes = at ∙ (ap (λ (l : List ℕ). bytes ++ l) nothing ∙ append-nil bytes) in
    let quoted : IsQuoted bytes = subst (λ (k : Option TokenKind). IsOf k bytes rest) (quoted_is p.kind parts.1) of in
    subst IsQuoted (sym all) quoted

pub quoted_alone : (text : List ℕ) → IsQuoted text → is_quoted_of (length text) (piece_at text) ≡ true
quoted_alone text h =
    let (p, found, same, le) = quoted_is_found text [] h in
    let here : piece_at text ≡ Some p = sym (ap piece_at (append-nil text)) ∙ found in
    let (rest, stands) = found_stands text p here in
    let size = size_of p text rest stands in
    let whole : p.len ≡ length text = omega (arith, size.1) in
    rw (here, eq-eqb p.len (length text) whole, ← same) refl
