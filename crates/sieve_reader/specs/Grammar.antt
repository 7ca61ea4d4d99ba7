-- The grammar of sieves, rule by rule, over tokens. `Fits` says which words and literals are right.
use Rattle.std.specs.Prelude.{◌≡◌, ◌⊎◌, ℕ, zero, suc, List, [], ◌∷◌, ◌++◌, Some}
use Rattle.field_types.specs.declared.value.Value.{Value}
use Rattle.sieve_tokens.specs.declared.sign.Sign.{Sign}
use Rattle.sieve_tokens.specs.declared.sign.Sign.TheVariants as signs
use Rattle.sieve_tokens.specs.declared.word.Keyword.{Keyword}
use Rattle.sieve_tokens.specs.declared.word.Keyword.TheVariants as words
use Rattle.sieve_reader.specs.Leaf as leaf
use Rattle.sieve_reader.specs.Leaf.{Leaf, Reading}
use Rattle.sieve_reader.specs.Lexeme as lex
use Rattle.sieve_reader.specs.Lexeme.{amount_of, literal_of, symbols, Lexeme, Symbol}
use Rattle.sieve_tree.specs.declared.tree.Amount.{Amount}
use Rattle.sieve_tree.specs.declared.tree.Cond.{Cond}
use Rattle.sieve_tree.specs.declared.tree.Cond.TheVariants as cond
use Rattle.sieve_tree.specs.declared.tree.How.{How}
use Rattle.sieve_tree.specs.declared.tree.How.TheVariants as how
use Rattle.sieve_tree.specs.declared.tree.PutSource.{PutSource}
use Rattle.sieve_tree.specs.declared.tree.PutSource.TheVariants as source
use Rattle.sieve_tree.specs.declared.tree.SieveItem.{SieveItem}
use Rattle.sieve_tree.specs.declared.tree.SieveItem.TheVariants as item
use Rattle.sieve_tree.specs.declared.tree.Test.{Test}
use Rattle.sieve_tree.specs.declared.tree.Test.TheVariants as test

-- a row of one thing or more, with a sign or a word between
abbrev pub AreSeparated : {A : Type 0} → Symbol → (List Lexeme → A → Type 0) → List Lexeme → List A → Type 0
AreSeparated s Is ls [] = ⊥
AreSeparated s Is ls (x ∷ []) = Is ls x
AreSeparated s Is ls (x ∷ y ∷ ys) =
    (us : List Lexeme) × (l : Lexeme) × (vs : List Lexeme) × (ls ≡ us ++ l ∷ vs) × (l.symbol ≡ s) × Is us x × AreSeparated s Is vs (y ∷ ys)

-- things one behind the other, each of one token or more
abbrev pub AreItems : {A : Type 0} → (List Lexeme → A → Type 0) → List Lexeme → List A → Type 0
AreItems Is ls [] = ls ≡ []
AreItems Is ls (x ∷ xs) = (us : List Lexeme) × (vs : List Lexeme) × (ls ≡ us ++ vs) × Is us x × AreItems Is vs xs

-- between these two signs
abbrev pub IsBetween : Sign → Sign → (List Lexeme → Type 0) → List Lexeme → Type 0
IsBetween opens closes Is ls =
    (first : Lexeme) × (us : List Lexeme) × (last : Lexeme) × (ls ≡ first ∷ (us ++ last ∷ [])) × (first.symbol ≡ lex.sign opens) × (last.symbol ≡ lex.sign closes) × Is us

-- "[" x { "," x } "]"
abbrev pub IsRow : {A : Type 0} → (List Lexeme → A → Type 0) → List Lexeme → List A → Type 0
IsRow Is ls xs = IsBetween signs.OpenBracket signs.CloseBracket (λ us. AreSeparated (lex.sign signs.Comma) Is us xs) ls

-- ---- tests

-- a field, an operator and an operand; so many signs of patterns stand before the operator
abbrev pub IsCompared : Sign → List Lexeme → List ℕ → Symbol → ℕ → Type 0
IsCompared op ls key operand before =
    (first : Lexeme) × (second : Lexeme) × (third : Lexeme) × (ls ≡ first ∷ second ∷ third ∷ []) × (first.symbol ≡ lex.name key)
    × (second.symbol ≡ lex.sign op) × (third.symbol ≡ operand) × (second.patterns ≡ before)

module _ (Fits : Leaf → Reading → Type 0) where
  -- literal = quoted | whole | decimal | "true" | "false"
  abbrev pub IsValue : List ℕ → Symbol → Value → Type 0
  IsValue key literal v = (written : Value) × (literal_of literal ≡ Some written) × Fits (leaf.value key literal) (leaf.cleaned v)

  abbrev pub IsValueToken : List ℕ → List Lexeme → Value → Type 0
  IsValueToken key ls v = (l : Lexeme) × (ls ≡ l ∷ []) × IsValue key l.symbol v

  -- field op literal
  abbrev pub IsValueTest : Sign → List Lexeme → List ℕ → Value → Type 0
  IsValueTest op ls key v = (literal : Symbol) × (before : ℕ) × IsCompared op ls key literal before × IsValue key literal v

  -- field op quoted
  abbrev pub IsTextTest : Sign → List Lexeme → List ℕ → List ℕ → ℕ → Type 0
  IsTextTest op ls key text before = IsCompared op ls key (lex.quoted text) before

  -- field op (whole | decimal)
  abbrev pub IsOrderTest : Sign → List Lexeme → List ℕ → Amount → Type 0
  IsOrderTest op ls key amount =
      (number : Symbol) × (before : ℕ) × IsCompared op ls key number before × (amount_of number ≡ Some amount) × Fits (leaf.order key) leaf.plain

  -- field (":before" | ":after") quoted
  abbrev pub IsSpanTest : Sign → List Lexeme → List ℕ → ℕ → Type 0
  IsSpanTest op ls key seconds = (text : List ℕ) × (before : ℕ) × IsTextTest op ls key text before × Fits (leaf.span key text) (leaf.seconds seconds)

  -- field ("=~" | "!~") quoted
  abbrev pub IsPatternTest : Sign → List Lexeme → List ℕ → ℕ → Type 0
  IsPatternTest op ls key before = (text : List ℕ) × IsTextTest op ls key text before × Fits (leaf.pattern text) leaf.plain

  -- field ":in" "[" literal { "," literal } "]"
  abbrev pub IsRowTest : List Lexeme → List ℕ → List Value → Type 0
  IsRowTest ls key values =
      (first : Lexeme) × (second : Lexeme) × (us : List Lexeme) × (ls ≡ first ∷ second ∷ us) × (first.symbol ≡ lex.name key)
      × (second.symbol ≡ lex.sign signs.In) × IsRow (IsValueToken key) us values

  -- test, for this field and with this operator
  abbrev pub IsOperator : List Lexeme → List ℕ → Test → Type 0
  IsOperator ls key test.Exists = symbols ls ≡ lex.sign signs.Exists ∷ lex.name key ∷ []
  IsOperator ls key test.Absent = symbols ls ≡ lex.sign signs.NotExists ∷ lex.name key ∷ []
  IsOperator ls key (test.Equal v) = IsValueTest signs.Equal ls key v
  IsOperator ls key (test.Differs v) = IsValueTest signs.Differs ls key v
  IsOperator ls key (test.Contains text) = (before : ℕ) × IsTextTest signs.Contains ls key text before
  IsOperator ls key (test.Found pattern) = IsPatternTest signs.Matches ls key pattern
  IsOperator ls key (test.NotFound pattern) = IsPatternTest signs.NotMatches ls key pattern
  IsOperator ls key (test.Below amount) = IsOrderTest signs.Less ls key amount
  IsOperator ls key (test.AtMost amount) = IsOrderTest signs.LessOrEqual ls key amount
  IsOperator ls key (test.Above amount) = IsOrderTest signs.Greater ls key amount
  IsOperator ls key (test.AtLeast amount) = IsOrderTest signs.GreaterOrEqual ls key amount
  IsOperator ls key (test.Within net) =
      (text : List ℕ) × (before : ℕ) × IsTextTest signs.Within ls key text before × Fits (leaf.network key text) (leaf.net net)
  IsOperator ls key (test.In values) = IsRowTest ls key values
  IsOperator ls key (test.Before seconds) = IsSpanTest signs.Before ls key seconds
  IsOperator ls key (test.After seconds) = IsSpanTest signs.After ls key seconds

  abbrev pub IsTest : List Lexeme → Cond → Type 0
  IsTest ls c = (key : List ℕ) × (operator : Test) × (c ≡ cond.Test key operator) × IsOperator ls key operator × Fits (leaf.field key) leaf.plain

  -- both = one { "&&" one }
  abbrev pub IsBoth : (List Lexeme → Cond → Type 0) → List Lexeme → Cond → Type 0
  IsBoth Is ls c = (cs : List Cond) × (c ≡ cond.All cs) × AreSeparated (lex.sign signs.And) Is ls cs

  -- cond = both { "||" both }
  abbrev pub IsCondOf : (List Lexeme → Cond → Type 0) → List Lexeme → Cond → Type 0
  IsCondOf Is ls c = (cs : List Cond) × (c ≡ cond.Any cs) × AreSeparated (lex.sign signs.Or) (IsBoth Is) ls cs

  -- one = "!" one | "(" cond ")" | test; the number: how deep `{`, `(` and `!` may stand around one place from here on
  unfoldable pub IsOne : ℕ → List Lexeme → Cond → Type 0
  IsOne zero ls c = IsTest ls c
  IsOne (suc d) ls c =
      IsTest ls c
      ⊎ ((first : Lexeme) × (us : List Lexeme) × (o : Cond) × (ls ≡ first ∷ us) × (first.symbol ≡ lex.sign signs.Not) × (c ≡ cond.Not o) × IsOne d us o)
      ⊎ IsBetween signs.OpenParen signs.CloseParen (λ us. IsCondOf (IsOne d) us c) ls

  abbrev pub IsCond : ℕ → List Lexeme → Cond → Type 0
  IsCond d = IsCondOf (IsOne d)

  -- ---- items

  abbrev pub IsPathName : List Lexeme → List ℕ → Type 0
  IsPathName ls name = (symbols ls ≡ lex.quoted name ∷ []) × Fits (leaf.path name) leaf.plain

  -- texts = quoted | "[" quoted { "," quoted } "]"
  abbrev pub AreTexts : List Lexeme → List (List ℕ) → Type 0
  AreTexts ls names = ((name : List ℕ) × (names ≡ name ∷ []) × IsPathName ls name) ⊎ IsRow IsPathName ls names

  -- the word of an action that sets a field
  abbrev pub how_word : How → Keyword
  how_word how.Add = words.Add
  how_word how.Force = words.Force
  how_word how.Update = words.Update

  -- source = literal | field
  abbrev pub IsSource : List ℕ → Symbol → PutSource → Type 0
  IsSource key symbol (source.Fixed v) = IsValue key symbol v
  IsSource key symbol (source.Copy from) = (symbol ≡ lex.name from) × Fits (leaf.field from) leaf.plain

  -- ("add" | "add!" | "update") field "=" source
  abbrev pub IsPut : List Lexeme → List ℕ → How → PutSource → ℕ → Type 0
  IsPut ls key how from at =
      (first : Lexeme) × (second : Lexeme) × (third : Lexeme) × (fourth : Lexeme) × (ls ≡ first ∷ second ∷ third ∷ fourth ∷ [])
      × (first.symbol ≡ lex.key (how_word how)) × (second.symbol ≡ lex.name key) × (third.symbol ≡ lex.sign signs.Assign)
      × (fourth.at ≡ at) × Fits (leaf.field key) leaf.plain × IsSource key fourth.symbol from

  abbrev pub IsPath : List Lexeme → List (List ℕ) → Type 0
  IsPath ls names = (first : Lexeme) × (us : List Lexeme) × (ls ≡ first ∷ us) × (first.symbol ≡ lex.key words.Path) × AreTexts us names

  abbrev pub IsRemove : List Lexeme → List ℕ → Type 0
  IsRemove ls key = (symbols ls ≡ lex.key words.Remove ∷ lex.name key ∷ []) × Fits (leaf.field key) leaf.plain

  -- action = "keep" | "drop" | "path" texts | ("add" | "add!" | "update") field "=" source | "remove" field
  abbrev pub IsAction : List Lexeme → SieveItem → Type 0
  IsAction ls i =
      ((i ≡ item.Keep) × (symbols ls ≡ lex.key words.Keep ∷ []))
      ⊎ ((i ≡ item.Drop) × (symbols ls ≡ lex.key words.Drop ∷ []))
      ⊎ ((names : List (List ℕ)) × (i ≡ item.Path names) × IsPath ls names)
      ⊎ ((key : List ℕ) × (how : How) × (from : PutSource) × (at : ℕ) × (i ≡ item.Put key how from at) × IsPut ls key how from at)
      ⊎ ((key : List ℕ) × (i ≡ item.Remove key) × IsRemove ls key)

  module _ (IsCondition : List Lexeme → Cond → Type 0) (IsPart : List Lexeme → List SieveItem → Type 0) where
    -- cond block
    abbrev pub IsCase : List Lexeme → Cond × List SieveItem → Type 0
    IsCase ls case = (us : List Lexeme) × (vs : List Lexeme) × (ls ≡ us ++ vs) × IsCondition us case.0 × IsPart vs case.1

    -- [ "else" block ]
    abbrev pub IsElse : List Lexeme → List SieveItem → Type 0
    IsElse ls items =
        ((ls ≡ []) × (items ≡ [])) ⊎ ((first : Lexeme) × (us : List Lexeme) × (ls ≡ first ∷ us) × (first.symbol ≡ lex.key words.Else) × IsPart us items)

    -- "if" cond block { "elif" cond block } [ "else" block ]
    abbrev pub IsChoice : List Lexeme → SieveItem → Type 0
    IsChoice ls i =
        (cases : List (Cond × List SieveItem)) × (otherwise : List SieveItem) × (first : Lexeme) × (us : List Lexeme) × (vs : List Lexeme)
        × (i ≡ item.Choice cases otherwise) × (ls ≡ first ∷ (us ++ vs)) × (first.symbol ≡ lex.key words.If)
        × AreSeparated (lex.key words.Elif) IsCase us cases × IsElse vs otherwise

  -- block = "{" { item } "}"
  abbrev pub IsBlock : (List Lexeme → SieveItem → Type 0) → List Lexeme → List SieveItem → Type 0
  IsBlock Is ls items = IsBetween signs.OpenBrace signs.CloseBrace (λ us. AreItems Is us items) ls

  -- An item. A condition isn't inside the `{` of its block.
  unfoldable pub IsItem : ℕ → List Lexeme → SieveItem → Type 0
  IsItem zero ls i = IsAction ls i
  IsItem (suc d) ls i = IsAction ls i ⊎ IsChoice (IsCond (suc d)) (IsBlock (IsItem d)) ls i

  -- file = { item }
  abbrev pub IsFile : ℕ → List Lexeme → List SieveItem → Type 0
  IsFile d ls items = AreItems (IsItem d) ls items
