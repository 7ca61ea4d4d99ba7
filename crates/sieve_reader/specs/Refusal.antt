-- What is wrong at a token, and which of all that is wrong comes first.
use Rattle.std.specs.Prelude.{◌≡◌, ◌⊎◌, ◌<◌, ℕ, Bool, true, false, List, [], ◌∷◌, ◌++◌, length, Option, Some, None, is_some}
use Rattle.std.specs.List.{list_all}
use Rattle.field_types.specs.Field.{type_of}
use Rattle.sieve_tokens.specs.declared.sign.Sign.{Sign}
use Rattle.sieve_tokens.specs.declared.sign.Sign.TheVariants as signs
use Rattle.sieve_tokens.specs.declared.word.Keyword.TheVariants as words
use Rattle.sieve_reader.specs.Grammar.{IsFile}
use Rattle.sieve_reader.specs.Leaf as leaf
use Rattle.sieve_reader.specs.Leaf.{judged, IsAny, Leaf}
use Rattle.sieve_reader.specs.Lexeme as lex
use Rattle.sieve_reader.specs.Lexeme.{amount_of, literal_of, symbols, Lexeme, Symbol}
use Rattle.sieve_tree.specs.Pattern.{pattern_of}
use Rattle.sieve_tree.specs.declared.tree.SieveItem.{SieveItem}

-- in the order in which they are told where two stand at one token
pub data Cause : Type 0 where
  expected : Cause
  field : Cause
  value : Cause
  pattern : Cause
  deep : Cause

-- some text of the grammar, with any words and literals, nested no deeper than that, begins so
abbrev pub Begins : ℕ → List Lexeme → Type 0
Begins d us = (more : List Lexeme) × (items : List SieveItem) × IsFile IsAny d (us ++ more) items

-- ---- literals, by what stands before them

-- the last symbols are these
abbrev pub EndsIn : List Lexeme → List Symbol → Type 0
EndsIn us last = (before : List Symbol) × (symbols us ≡ before ++ last)

-- a literal or a comma; a quoted text or a comma
abbrev pub is_in_row : Symbol → Bool
is_in_row (lex.sign signs.Comma) = true
is_in_row symbol = is_some (literal_of symbol)

abbrev pub is_in_texts : Symbol → Bool
is_in_texts (lex.sign signs.Comma) = true
is_in_texts (lex.quoted text) = true
is_in_texts _ = false

-- what is compared with a literal, or set to one
abbrev pub takes_value : Sign → Bool
takes_value signs.Equal = true
takes_value signs.Differs = true
takes_value signs.Assign = true
takes_value _ = false

abbrev pub is_order : Sign → Bool
is_order signs.Less = true
is_order signs.LessOrEqual = true
is_order signs.Greater = true
is_order signs.GreaterOrEqual = true
is_order _ = false

abbrev pub is_moment : Sign → Bool
is_moment signs.Before = true
is_moment signs.After = true
is_moment _ = false

-- the symbol behind these tokens is the literal of an operator or an action: that leaf
abbrev pub IsLeafAt : List Lexeme → Symbol → Leaf → Type 0
IsLeafAt us symbol (leaf.value key literal) =
    (symbol ≡ literal) × (is_some (literal_of literal) ≡ true)
    × (((op : Sign) × (takes_value op ≡ true) × EndsIn us (lex.name key ∷ lex.sign op ∷ []))
    ⊎ ((row : List Symbol) × (list_all is_in_row row ≡ true) × EndsIn us (lex.name key ∷ lex.sign signs.In ∷ lex.sign signs.OpenBracket ∷ row)))
IsLeafAt us symbol (leaf.order key) =
    (is_some (amount_of symbol) ≡ true) × (op : Sign) × (is_order op ≡ true) × EndsIn us (lex.name key ∷ lex.sign op ∷ [])
IsLeafAt us symbol (leaf.network key text) = (symbol ≡ lex.quoted text) × EndsIn us (lex.name key ∷ lex.sign signs.Within ∷ [])
IsLeafAt us symbol (leaf.span key text) =
    (symbol ≡ lex.quoted text) × (op : Sign) × (is_moment op ≡ true) × EndsIn us (lex.name key ∷ lex.sign op ∷ [])
IsLeafAt us symbol (leaf.path text) =
    (symbol ≡ lex.quoted text)
    × (EndsIn us (lex.key words.Path ∷ [])
    ⊎ ((row : List Symbol) × (list_all is_in_texts row ≡ true) × EndsIn us (lex.key words.Path ∷ lex.sign signs.OpenBracket ∷ row)))
IsLeafAt us symbol (leaf.field key) = ⊥
IsLeafAt us symbol (leaf.pattern text) = ⊥

abbrev pub is_pattern_op : Sign → Bool
is_pattern_op signs.Matches = true
is_pattern_op signs.NotMatches = true
is_pattern_op _ = false

-- `{`, `(` and `!`
abbrev pub nests : Symbol → Bool
nests (lex.sign signs.OpenBrace) = true
nests (lex.sign signs.OpenParen) = true
nests (lex.sign signs.Not) = true
nests _ = false

-- ---- what is wrong

-- The token behind these is wrong in that way; None: the text's end.
abbrev pub IsWrong : Cause → List Lexeme → Option Lexeme → Type 0
IsWrong expected us None = (d : ℕ) (items : List SieveItem) → IsFile IsAny d us items → ⊥
IsWrong expected us (Some l) = (d : ℕ) → Begins d (us ++ l ∷ []) → ⊥
IsWrong field us None = ⊥
IsWrong field us (Some l) = (key : List ℕ) × (l.symbol ≡ lex.name key) × (type_of key ≡ None)
IsWrong value us None = ⊥
IsWrong value us (Some l) = (which : Leaf) × IsLeafAt us l.symbol which × (judged which ≡ None)
IsWrong pattern us None = ⊥
IsWrong pattern us (Some l) =
    (text : List ℕ) × (l.symbol ≡ lex.quoted text) × ((op : Sign) × (is_pattern_op op ≡ true) × EndsIn us (lex.sign op ∷ [])) × (pattern_of text ≡ None)
IsWrong deep us None = ⊥
IsWrong deep us (Some l) = (nests l.symbol ≡ true) × ((d : ℕ) × Begins d (us ++ l ∷ [])) × (Begins 64 (us ++ l ∷ []) → ⊥)

abbrev pub head : List Lexeme → Option Lexeme
head [] = None
head (l ∷ ls) = Some l

-- where the rest begins, in a text of that length
abbrev pub place : ℕ → List Lexeme → ℕ
place end [] = end
place end (l ∷ ls) = l.at

-- the order of the causes
abbrev pub rank : Cause → ℕ
rank expected = 0
rank field = 1
rank value = 2
rank pattern = 3
rank deep = 4

-- the tokens up to the rest, with that cause at the rest, are the first wrong ones
pub record IsFirstWrong (cause : Cause) (ls us rest : List Lexeme) : Type 0 where
  pub split : ls ≡ us ++ rest
  pub wrong : IsWrong cause us (head rest)
  -- nothing is wrong further left
  pub leftmost : (vs : List Lexeme) (behind : List Lexeme) (other : Cause) → ls ≡ vs ++ behind → length vs < length us → IsWrong other vs (head behind) → ⊥
  -- and nothing that is told before it at that token
  pub before : (other : Cause) → rank other < rank cause → IsWrong other us (head rest) → ⊥

-- the tokens of a text of that length are refused with that cause at that offset
abbrev pub IsRefusal : ℕ → List Lexeme → Cause → ℕ → Type 0
IsRefusal end ls cause at = (us : List Lexeme) × (rest : List Lexeme) × IsFirstWrong cause ls us rest × (at ≡ place end rest)
