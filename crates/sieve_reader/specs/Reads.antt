-- The sieve that a text writes, or why it writes none.
use Rattle.std.specs.Prelude.{◌≡◌, ℕ, Bool, true, false, List, [], ◌∷◌, ◌++◌, length, Result, Ok, Err, if◌then◌else◌}
use Rattle.sieve_tokens.specs.Token.{AreTokens, IsBadAt}
use Rattle.sieve_tokens.specs.declared.sign.Sign.TheVariants as signs
use Rattle.sieve_tokens.specs.declared.token.Token.{Token}
use Rattle.sieve_tokens.specs.declared.word.Keyword.TheVariants as words
use Rattle.sieve_reader.specs.Grammar.{IsFile}
use Rattle.sieve_reader.specs.Leaf.{IsRight}
use Rattle.sieve_reader.specs.Lexeme as lex
use Rattle.sieve_reader.specs.Lexeme.{is_pattern_sign, lexemes, Lexeme, Symbol}
use Rattle.sieve_reader.specs.Refusal.{deep, expected, field, pattern, value, Cause, IsRefusal}
use Rattle.sieve_tree.specs.SieveView.{SieveView}
use Rattle.sieve_reader.specs.declared.sieve.SieveFault.{SieveFault}
use Rattle.sieve_reader.specs.declared.sieve.SieveFault.TheVariants as fault

abbrev pub text_at : List Lexeme → List (List ℕ)
text_at [] = []
text_at (l ∷ ls) = text_of l.symbol
  where
    text_of : Symbol → List (List ℕ)
    text_of (lex.quoted text) = text ∷ []
    text_of _ = []

-- the texts behind `=~` and `!~`
abbrev pub patterns_in : List Lexeme → List (List ℕ)
patterns_in [] = []
patterns_in (l ∷ ls) = (if is_pattern_sign l.symbol then text_at ls else []) ++ patterns_in ls

abbrev pub is_path : Symbol → Bool
is_path (lex.key words.Path) = true
is_path _ = false

-- a quoted text with its offset
abbrev pub spot : Lexeme → List (List ℕ × ℕ)
spot l = of l.symbol
  where
    of : Symbol → List (List ℕ × ℕ)
    of (lex.quoted text) = (text, l.at) ∷ []
    of _ = []

abbrev pub goes_on : Symbol → Bool
goes_on (lex.quoted text) = true
goes_on (lex.sign signs.Comma) = true
goes_on _ = false

-- the quoted texts at the front, with commas between
abbrev pub row_spots : List Lexeme → List (List ℕ × ℕ)
row_spots [] = []
row_spots (l ∷ ls) = if goes_on l.symbol then spot l ++ row_spots ls else []

abbrev pub opens_row : Symbol → Bool
opens_row (lex.sign signs.OpenBracket) = true
opens_row _ = false

abbrev pub path_spots : List Lexeme → List (List ℕ × ℕ)
path_spots [] = []
path_spots (l ∷ ls) = if opens_row l.symbol then row_spots ls else spot l

-- the names behind `path`, with their offsets
abbrev pub paths_in : List Lexeme → List (List ℕ × ℕ)
paths_in [] = []
paths_in (l ∷ ls) = (if is_path l.symbol then path_spots ls else []) ++ paths_in ls

-- the text writes the sieve
abbrev pub Reads : List ℕ → SieveView → Type 0
Reads text sieve =
    (tokens : List Token) × AreTokens text tokens × IsFile IsRight 64 (lexemes text tokens) sieve.items
    × (sieve.patterns ≡ patterns_in (lexemes text tokens)) × (sieve.paths ≡ paths_in (lexemes text tokens))

-- that sieve, unless memory ran out
abbrev pub Gives : SieveView → Result SieveView SieveFault → Type 0
Gives sieve (Ok found) = found ≡ sieve
Gives sieve (Err fault.OutOfMemory) = Unit {0}
Gives sieve (Err _) = ⊥

-- the first thing wrong in the tokens of the text
abbrev pub IsRefused : List ℕ → Cause → ℕ → Type 0
IsRefused text cause at = (tokens : List Token) × AreTokens text tokens × IsRefusal (length text) (lexemes text tokens) cause at

-- why the text writes no sieve; want of memory comes at any text
abbrev pub IsFault : List ℕ → SieveFault → Type 0
IsFault text (fault.Token at) = IsBadAt text at
IsFault text (fault.Expected at) = IsRefused text expected at
IsFault text (fault.Field at) = IsRefused text field at
IsFault text (fault.Value at) = IsRefused text value at
IsFault text (fault.Pattern at) = IsRefused text pattern at
IsFault text (fault.Deep at) = IsRefused text deep at
IsFault text fault.OutOfMemory = Unit {0}
