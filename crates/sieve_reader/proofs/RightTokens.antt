-- The tokens of a text are right.
use Rattle.std.proofs.Common.{◌≡◌, ℕ, zero, suc, ◌+◌, ◌≤◌, Bool, true, List, [], ◌∷◌, ◌++◌, length, Some, refl, ap, ◌∙◌, inl, inr, arith}
use Rattle.std.specs.Prelude.{nat_le, ◌&&◌, codes, All}
use Rattle.std.specs.List.{list_all}
use Rattle.std.specs.Str.{is_utf8, IsAscii}
use Rattle.std.proofs.lemmas.Bool.{and_from, and_parts, le-leb, leb-true}
use Rattle.std.proofs.lemmas.Bool.Decides.{nat_tests}
use Rattle.std.proofs.lemmas.List.Elements.{All-head, All-tail}
use Rattle.std.proofs.lemmas.List.Folds.{list_all-append}
use Rattle.std.proofs.lemmas.Str.{is_utf8-from_IsUtf8, IsUtf8-from_ascii}
use Rattle.std.proofs.lemmas.Str.Ascii.{IsAscii-nil}
use Rattle.base_types.specs.Name.{is_name_byte}
use Rattle.sieve_tokens.specs.Bytes.{is_digit, is_word_start}
use Rattle.sieve_tokens.specs.Number.{IsMinus}
use Rattle.sieve_tokens.specs.Word.{IsWord}
use Rattle.sieve_tokens.specs.Piece.{IsOf}
use Rattle.sieve_tokens.specs.Sign.{sign_text}
use Rattle.sieve_tokens.specs.Token.{bytes_of, AreTokens, HasItsKind, Rise}
use Rattle.sieve_tokens.specs.declared.sign.Sign.{Sign}
use Rattle.sieve_tokens.specs.declared.sign.Sign.TheVariants as signs
use Rattle.sieve_tokens.specs.declared.token.Token.{Token}
use Rattle.sieve_tokens.specs.declared.token.TokenKind.{TokenKind}
use Rattle.sieve_tokens.specs.declared.token.TokenKind.TheVariants as kinds
use Rattle.sieve_tokens.proofs.Covers.{have_kinds, spans_rise}
use Rattle.sieve_tokens.proofs.Pieces.{quoted_alone}
use Rattle.sieve_reader.specs.Ahead.{is_right, is_right_of}

-- ---- ASCII

abbrev is_small : ℕ → Bool
is_small b = nat_le b 127

all_small : (passes : ℕ → Bool) → ((b : ℕ) → passes b ≡ true → is_small b ≡ true) → (bs : List ℕ) → list_all passes bs ≡ true → list_all is_small bs ≡ true
all_small passes small [] e = refl
all_small passes small (b ∷ bs) e =
    let parts = and_parts (passes b) (list_all passes bs) e in
    and_from (is_small b) (list_all is_small bs) (small b parts.0) (all_small passes small bs parts.1)

ascii : (bs : List ℕ) → list_all is_small bs ≡ true → IsAscii bs
ascii [] e i = IsAscii-nil i
ascii (b ∷ bs) e zero = let parts = and_parts (is_small b) (list_all is_small bs) e in let le = leb-true b 127 parts.0 in omega arith
ascii (b ∷ bs) e (suc i) = ascii bs (and_parts (is_small b) (list_all is_small bs) e).1 i

utf8 : (bs : List ℕ) → list_all is_small bs ≡ true → is_utf8 bs ≡ true
utf8 bs e = is_utf8-from_IsUtf8 bs (IsUtf8-from_ascii bs (ascii bs e))

both_small : (xs ys : List ℕ) → list_all is_small xs ≡ true → list_all is_small ys ≡ true → list_all is_small (xs ++ ys) ≡ true
both_small xs ys this that = list_all-append is_small xs ys ∙ and_from (list_all is_small xs) (list_all is_small ys) this that

digit_small : (b : ℕ) → is_digit b ≡ true → is_small b ≡ true
digit_small b e = grind (arith, nat_tests)

start_small : (b : ℕ) → is_word_start b ≡ true → is_small b ≡ true
start_small b e = grind (arith, nat_tests)

name_small : (b : ℕ) → is_name_byte b ≡ true → is_small b ≡ true
name_small b e = grind (arith, nat_tests)

-- ---- kinds

sign_utf8 : (s : Sign) → list_all is_small (sign_text s) ≡ true
sign_utf8 signs.OpenBrace = refl
sign_utf8 signs.CloseBrace = refl
sign_utf8 signs.OpenParen = refl
sign_utf8 signs.CloseParen = refl
sign_utf8 signs.OpenBracket = refl
sign_utf8 signs.CloseBracket = refl
sign_utf8 signs.Comma = refl
sign_utf8 signs.And = refl
sign_utf8 signs.Or = refl
sign_utf8 signs.Equal = refl
sign_utf8 signs.Matches = refl
sign_utf8 signs.Assign = refl
sign_utf8 signs.Differs = refl
sign_utf8 signs.NotMatches = refl
sign_utf8 signs.Not = refl
sign_utf8 signs.Within = refl
sign_utf8 signs.LessOrEqual = refl
sign_utf8 signs.Less = refl
sign_utf8 signs.GreaterOrEqual = refl
sign_utf8 signs.Greater = refl
sign_utf8 signs.Exists = refl
sign_utf8 signs.NotExists = refl
sign_utf8 signs.Contains = refl
sign_utf8 signs.In = refl
sign_utf8 signs.Before = refl
sign_utf8 signs.After = refl

minus_small : (minus : List ℕ) → IsMinus minus → list_all is_small minus ≡ true
minus_small minus h = elim h [ inl none ↦ ap (list_all is_small) none | inr one ↦ ap (list_all is_small) one ]

word_small : (bytes : List ℕ) → IsWord bytes → list_all is_small bytes ≡ true
word_small bytes h = elim h [
  | inl plain ↦
      let (b, bs, at, start, names) = plain in
      ap (list_all is_small) at ∙ and_from (is_small b) (list_all is_small bs) (start_small b start) (all_small is_name_byte name_small bs names)
  | inr force ↦ ap (list_all is_small) force
]

right_of : (k : TokenKind) (bytes rest : List ℕ) → IsOf (Some k) bytes rest → is_right_of k bytes ≡ true
right_of kinds.Word bytes rest h = utf8 bytes (word_small bytes h)
right_of kinds.Quoted bytes rest h = quoted_alone bytes h
right_of kinds.Whole bytes rest h =
    let (minus, digits, at, sign, are, few, end) = h in
    utf8 bytes (ap (list_all is_small) at ∙ both_small minus digits (minus_small minus sign) (all_small is_digit digit_small digits are.1))
right_of kinds.Decimal bytes rest h =
    let (minus, digits, fraction, at, sign, are, few, more, end) = h in
    let tail = both_small (codes ".") fraction refl (all_small is_digit digit_small fraction more.1) in
    let number = both_small digits (codes "." ++ fraction) (all_small is_digit digit_small digits are.1) tail in
    utf8 bytes (ap (list_all is_small) at ∙ both_small minus (digits ++ (codes "." ++ fraction)) (minus_small minus sign) number)
right_of kinds.Sign bytes rest h = utf8 bytes (ap (list_all is_small) h.1 ∙ sign_utf8 h.0)

-- ---- tokens

rise_end : (at end : ℕ) (tokens : List Token) → Rise at end tokens → at ≤ end
rise_end at end [] rise = rise
rise_end at end (t ∷ ts) rise = let later = rise_end t.upto end ts rise.2 in omega (arith, rise.0, rise.1)

right_from : (text : List ℕ) (at : ℕ) (tokens : List Token) → Rise at (length text) tokens → All (HasItsKind text) tokens → list_all (is_right text) tokens ≡ true
right_from text at [] rise are = refl
right_from text at (t ∷ ts) rise are =
    let end = rise_end t.upto (length text) ts rise.2 in
    let its : is_right_of t.kind (bytes_of text t) ≡ true = right_of t.kind (bytes_of text t) _ (All-head (HasItsKind text) t ts are) in
    let ends = and_from (nat_le t.from t.upto) (nat_le t.upto (length text)) (le-leb t.from t.upto (omega (arith, rise.1))) (le-leb t.upto (length text) end) in
    let first = and_from (nat_le t.from t.upto && nat_le t.upto (length text)) (is_right_of t.kind (bytes_of text t)) ends its in
    and_from (is_right text t) (list_all (is_right text) ts) first (right_from text t.upto ts rise.2 (All-tail (HasItsKind text) t ts are))

-- the tokens of a text are right
pub all_right : (text : List ℕ) (tokens : List Token) → AreTokens text tokens → list_all (is_right text) tokens ≡ true
all_right text tokens h = right_from text 0 tokens (spans_rise text tokens h) (have_kinds text tokens h)

few_from : (at end : ℕ) (tokens : List Token) → Rise at end tokens → at + length tokens ≤ end
few_from at end [] rise = omega (arith, rise)
few_from at end (t ∷ ts) rise = let more = few_from t.upto end ts rise.2 in omega (arith, rise.0, rise.1)

-- and there are no more of them than bytes
pub few_tokens : (text : List ℕ) (tokens : List Token) → AreTokens text tokens → length tokens ≤ length text
few_tokens text tokens h = let few = few_from 0 (length text) tokens (spans_rise text tokens h) in omega arith
