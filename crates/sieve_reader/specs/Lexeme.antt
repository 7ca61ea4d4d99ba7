-- Tokens as the grammar sees them.
use Rattle.std.specs.Prelude.{ℕ, ◌+◌, ℤ, pos, Bool, true, false, List, [], ◌∷◌, map, Option, Some, None, unwrap_or, if◌then◌else◌}
use Rattle.field_types.specs.declared.value.Value.{Value}
use Rattle.field_types.specs.declared.value.Value.TheVariants as value
use Rattle.scalar_text.specs.Number.{decimal_in, whole_in}
use Rattle.sieve_tokens.specs.Quoted.{content_of}
use Rattle.sieve_tokens.specs.Sign.{sign_of}
use Rattle.sieve_tokens.specs.Token.{bytes_of}
use Rattle.sieve_tokens.specs.Word.{keyword_of}
use Rattle.sieve_tokens.specs.declared.sign.Sign.{Sign}
use Rattle.sieve_tokens.specs.declared.sign.Sign.TheVariants as signs
use Rattle.sieve_tokens.specs.declared.token.Token.{Token}
use Rattle.sieve_tokens.specs.declared.token.TokenKind.{TokenKind}
use Rattle.sieve_tokens.specs.declared.token.TokenKind.TheVariants as kinds
use Rattle.sieve_tokens.specs.declared.word.Keyword.{Keyword}
use Rattle.sieve_tokens.specs.declared.word.Keyword.TheVariants as words
use Rattle.sieve_tree.specs.declared.tree.Amount.{Amount}
use Rattle.sieve_tree.specs.declared.tree.Amount.TheVariants as amount

-- what a token stands for: a keyword, another word, the content of a quoted text, a number, or a sign
pub data Symbol : Type 0 where
  key : Keyword → Symbol
  name : List ℕ → Symbol
  quoted : List ℕ → Symbol
  whole : ℤ → Symbol
  decimal : ℤ → Symbol
  sign : Sign → Symbol

-- a token: its offset, how many signs of patterns stand before it, and what it stands for
pub record Lexeme : Type 0 where
  pub at : ℕ
  pub patterns : ℕ
  pub symbol : Symbol

abbrev pub word_symbol : List ℕ → Option Keyword → Symbol
word_symbol bytes (Some k) = key k
word_symbol bytes None = name bytes

-- a token of the kind Sign is a sign
abbrev pub sign_symbol : List ℕ → Option Sign → Symbol
sign_symbol bytes (Some s) = sign s
sign_symbol bytes None = name bytes

-- what a token of a kind with these bytes stands for; a number of that kind always has a value
abbrev pub symbol_of : TokenKind → List ℕ → Symbol
symbol_of kinds.Word bytes = word_symbol bytes (keyword_of bytes)
symbol_of kinds.Quoted bytes = quoted (content_of bytes)
symbol_of kinds.Whole bytes = whole (unwrap_or (whole_in bytes) (pos 0))
symbol_of kinds.Decimal bytes = decimal (unwrap_or (decimal_in bytes) (pos 0))
symbol_of kinds.Sign bytes = sign_symbol bytes (sign_of bytes)

-- `=~` and `!~`
abbrev pub is_pattern_sign : Symbol → Bool
is_pattern_sign (sign signs.Matches) = true
is_pattern_sign (sign signs.NotMatches) = true
is_pattern_sign _ = false

abbrev pub lexeme_of : ℕ → List ℕ → Token → Lexeme
lexeme_of before text token = record { at = token.from; patterns = before; symbol = symbol_of token.kind (bytes_of text token) }

-- the tokens of a text behind so many signs of patterns
abbrev pub lexemes_from : ℕ → List ℕ → List Token → List Lexeme
lexemes_from before text [] = []
lexemes_from before text (token ∷ tokens) =
    let first = lexeme_of before text token in
    first ∷ lexemes_from (if is_pattern_sign first.symbol then before + 1 else before) text tokens

abbrev pub lexemes : List ℕ → List Token → List Lexeme
lexemes text tokens = lexemes_from 0 text tokens

abbrev pub symbols : List Lexeme → List Symbol
symbols ls = map (λ (l : Lexeme). l.symbol) ls

-- the value that a literal writes
abbrev pub literal_of : Symbol → Option Value
literal_of (quoted text) = Some (value.Text text)
literal_of (whole n) = Some (value.Whole n)
literal_of (decimal n) = Some (value.Decimal n)
literal_of (key words.True) = Some (value.Flag true)
literal_of (key words.False) = Some (value.Flag false)
literal_of _ = None

-- the number that a symbol writes
abbrev pub amount_of : Symbol → Option Amount
amount_of (whole n) = Some (amount.Whole n)
amount_of (decimal n) = Some (amount.Decimal n)
amount_of _ = None
