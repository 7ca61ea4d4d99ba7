-- Tokens as the reader sees them.
use Rattle.std.proofs.Common.{◌≡◌, ℕ, suc, ◌+◌, true, List, [], ◌∷◌, length, refl, ap}
use Rattle.std.specs.Prelude.{if◌then◌else◌, nat_le, ◌&&◌, IsUtf8}
use Rattle.std.proofs.lemmas.Str.{IsUtf8-from_is_utf8}
use Rattle.std.proofs.lemmas.Bool.{and_parts}
use Rattle.sieve_tokens.specs.Quoted.{IsQuoted}
use Rattle.sieve_tokens.specs.Scan.{piece_at}
use Rattle.sieve_tokens.specs.Token.{bytes_of}
use Rattle.sieve_tokens.specs.declared.token.Token.{Token}
use Rattle.sieve_tokens.specs.declared.token.TokenKind.{TokenKind}
use Rattle.sieve_tokens.specs.declared.token.TokenKind.TheVariants as kinds
use Rattle.sieve_tokens.proofs.Pieces.{alone_quoted}
use Rattle.sieve_reader.specs.Ahead.{is_right, is_right_of, IsBefore}
use Rattle.sieve_reader.specs.Lexeme.{is_pattern_sign, lexeme_of, lexemes_from}

pub lexemes_len : (text : List ℕ) (tokens : List Token) (before : ℕ) → length (lexemes_from before text tokens) ≡ length tokens
lexemes_len text [] before = refl
lexemes_len text (t ∷ ts) before = ap (λ n. suc n) (lexemes_len text ts (if is_pattern_sign (lexeme_of before text t).symbol then before + 1 else before))

quoted_of : (k : TokenKind) (bytes : List ℕ) → is_right_of k bytes ≡ true → k ≡ kinds.Quoted → IsQuoted bytes
quoted_of kinds.Quoted bytes is e = alone_quoted bytes (piece_at bytes) refl is
quoted_of kinds.Word bytes is e = absurd (cc)
quoted_of kinds.Whole bytes is e = absurd (cc)
quoted_of kinds.Decimal bytes is e = absurd (cc)
quoted_of kinds.Sign bytes is e = absurd (cc)

text_of : (k : TokenKind) (bytes : List ℕ) → is_right_of k bytes ≡ true → (k ≡ kinds.Quoted → ⊥) → IsUtf8 bytes
text_of kinds.Quoted bytes is e = absurd (e refl)
text_of kinds.Word bytes is e = IsUtf8-from_is_utf8 bytes is
text_of kinds.Whole bytes is e = IsUtf8-from_is_utf8 bytes is
text_of kinds.Decimal bytes is e = IsUtf8-from_is_utf8 bytes is
text_of kinds.Sign bytes is e = IsUtf8-from_is_utf8 bytes is

pub right_text : (text : List ℕ) (token : Token) → is_right text token ≡ true → (token.kind ≡ kinds.Quoted → ⊥) → IsUtf8 (bytes_of text token)
right_text text token is e =
    let parts = and_parts (nat_le token.from token.upto && nat_le token.upto (length text)) (is_right_of token.kind (bytes_of text token)) is in
    text_of token.kind (bytes_of text token) parts.1 e

pub right_quoted : (text : List ℕ) (token : Token) → is_right text token ≡ true → token.kind ≡ kinds.Quoted → IsQuoted (bytes_of text token)
right_quoted text token is e =
    let parts = and_parts (nat_le token.from token.upto && nat_le token.upto (length text)) (is_right_of token.kind (bytes_of text token)) is in
    quoted_of token.kind (bytes_of text token) parts.1 e

pub first_number : (before : ℕ) (text : List ℕ) (tokens : List Token) → IsBefore before (lexemes_from before text tokens)
first_number before text [] = tt
first_number before text (t ∷ ts) = refl
