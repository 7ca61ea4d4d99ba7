-- Pieces of a text: tokens, and blanks between them.
use Rattle.std.specs.Prelude.{◌≡◌, ◌≤◌, ℕ, List, ◌++◌, length, Option, Some, None}
use Rattle.sieve_tokens.specs.Blank.{IsBlank}
use Rattle.sieve_tokens.specs.Number.{IsDecimal, IsWhole}
use Rattle.sieve_tokens.specs.Quoted.{IsQuoted}
use Rattle.sieve_tokens.specs.Sign.{IsSign}
use Rattle.sieve_tokens.specs.Word.{IsWord}
use Rattle.sieve_tokens.specs.declared.piece.Piece.{Piece}
use Rattle.sieve_tokens.specs.declared.token.TokenKind.{TokenKind}
use Rattle.sieve_tokens.specs.declared.token.TokenKind.TheVariants as kind

-- the bytes, with what follows them, are a token of the kind, or a blank where there is none
abbrev pub IsOf : Option TokenKind → List ℕ → List ℕ → Type 0
IsOf None bytes rest = IsBlank bytes rest
IsOf (Some kind.Word) bytes rest = IsWord bytes
IsOf (Some kind.Quoted) bytes rest = IsQuoted bytes
IsOf (Some kind.Whole) bytes rest = IsWhole bytes rest
IsOf (Some kind.Decimal) bytes rest = IsDecimal bytes rest
IsOf (Some kind.Sign) bytes rest = IsSign bytes

-- the piece stands at the front of the text, and these bytes follow it
abbrev pub Leads : Piece → List ℕ → List ℕ → Type 0
Leads piece text rest = (bytes : List ℕ) × (text ≡ bytes ++ rest) × (length bytes ≡ piece.len) × IsOf piece.kind bytes rest

-- and none that stands there is longer
pub record Stands (piece : Piece) (text rest : List ℕ) : Type 0 where
  pub leads : Leads piece text rest
  pub longest : (other : Piece) (behind : List ℕ) → Leads other text behind → other.len ≤ piece.len
