-- The token ahead of the reader.
use Rattle.std.specs.Prelude.{◌≡◌, ℕ, ◌&&◌, nat_le, Bool, List, [], ◌∷◌, length, Option, Some, None, IsUtf8}
use Rattle.std.specs.Str.{is_utf8}
use Rattle.sieve_tokens.specs.Quoted.{content_of, IsQuoted}
use Rattle.sieve_tokens.specs.Scan.{is_quoted_of, piece_at}
use Rattle.sieve_tokens.specs.Token.{bytes_of}
use Rattle.sieve_tokens.specs.declared.token.Token.{Token}
use Rattle.sieve_tokens.specs.declared.token.TokenKind.{TokenKind}
use Rattle.sieve_tokens.specs.declared.token.TokenKind.TheVariants as kinds
use Rattle.sieve_reader.specs.Lexeme as lex
use Rattle.sieve_reader.specs.Lexeme.{Lexeme}
use Rattle.sieve_reader.specs.declared.symbol.Symbol.{Symbol}
use Rattle.sieve_reader.specs.declared.symbol.Symbol.TheVariants as ahead

abbrev pub stands_for : Symbol → lex.Symbol
stands_for (ahead.Key k) = lex.key k
stands_for (ahead.Name bytes) = lex.name bytes.now
stands_for (ahead.Quoted bytes) = lex.quoted (content_of bytes.now)
stands_for (ahead.Whole n) = lex.whole n
stands_for (ahead.Decimal n) = lex.decimal n
stands_for (ahead.Sign s) = lex.sign s

-- a word is text, and a quoted text has its quotes
abbrev pub IsWhole : Symbol → Type 0
IsWhole (ahead.Name bytes) = IsUtf8 bytes.now
IsWhole (ahead.Quoted bytes) = IsQuoted bytes.now
IsWhole _ = Unit {0}

-- the symbol is that of the first token, if there is one
abbrev pub IsAhead : Option Symbol → List Lexeme → Type 0
IsAhead None [] = Unit {0}
IsAhead None (l ∷ ls) = ⊥
IsAhead (Some symbol) [] = ⊥
IsAhead (Some symbol) (l ∷ ls) = (l.symbol ≡ stands_for symbol) × IsWhole symbol

-- so many signs of patterns stand before the first token
abbrev pub IsBefore : ℕ → List Lexeme → Type 0
IsBefore n [] = Unit {0}
IsBefore n (l ∷ ls) = l.patterns ≡ n

-- the first token stands at that offset
abbrev pub StandsAt : ℕ → List Lexeme → Type 0
StandsAt n [] = Unit {0}
StandsAt n (l ∷ ls) = l.at ≡ n

abbrev pub is_right_of : TokenKind → List ℕ → Bool
is_right_of kinds.Quoted bytes = is_quoted_of (length bytes) (piece_at bytes)
is_right_of _ bytes = is_utf8 bytes

-- the token lies in the text, and is quoted or text
abbrev pub is_right : List ℕ → Token → Bool
is_right text token = nat_le token.from token.upto && nat_le token.upto (length text) && is_right_of token.kind (bytes_of text token)
