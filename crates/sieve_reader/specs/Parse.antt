-- How tokens are read, and the first that is refused. The laws in proofs/ hold this against the grammar.
use Rattle.std.specs.Prelude.{ℕ, zero, suc, Bool, true, false, List, [], ◌∷◌, ◌++◌, length, drop, Option, Some, None, is_some, Result, Ok, Err, if◌then◌else◌}
use Rattle.std.specs.Str.{bytes_eq}
use Rattle.field_types.specs.declared.value.Value.{Value}
use Rattle.scalar_net.specs.declared.network.Network.{Network}
use Rattle.sieve_tokens.specs.Sign.{sign_text}
use Rattle.sieve_tokens.specs.declared.sign.Sign.{Sign}
use Rattle.sieve_tokens.specs.declared.sign.Sign.TheVariants as signs
use Rattle.sieve_tokens.specs.declared.word.Keyword.TheVariants as words
use Rattle.sieve_reader.specs.Leaf as leaf
use Rattle.sieve_reader.specs.Leaf.{Leaf, Reading}
use Rattle.sieve_reader.specs.Lexeme as lex
use Rattle.sieve_reader.specs.Lexeme.{amount_of, literal_of, Lexeme, Symbol}
use Rattle.sieve_reader.specs.Refusal as cause
use Rattle.sieve_reader.specs.Refusal.{Cause}
use Rattle.sieve_tree.specs.declared.tree.Amount.{Amount}
use Rattle.sieve_tree.specs.declared.tree.Cond.{Cond}
use Rattle.sieve_tree.specs.declared.tree.Cond.TheVariants as cond
use Rattle.sieve_tree.specs.declared.tree.How.{How}
use Rattle.sieve_tree.specs.declared.tree.How.TheVariants as how
use Rattle.sieve_tree.specs.declared.tree.PutSource.TheVariants as source
use Rattle.sieve_tree.specs.declared.tree.SieveItem.{SieveItem}
use Rattle.sieve_tree.specs.declared.tree.SieveItem.TheVariants as item
use Rattle.sieve_tree.specs.declared.tree.Test.{Test}
use Rattle.sieve_tree.specs.declared.tree.Test.TheVariants as test

-- the cause, and the tokens from the one on that is refused
pub data Refusal : Type 0 where
  refusal : Cause → List Lexeme → Refusal

abbrev pub Read : Type 0 → Type 0
Read A = Result (A × List Lexeme) Refusal

abbrev pub Parser : Type 0 → Type 0
Parser A = List Lexeme → Read A

infixl 10 ◌>>=◌
abbrev pub ◌>>=◌ : {A B : Type 0} → Read A → (A × List Lexeme → Read B) → Read B
(Ok p) >>= f = f p
(Err e) >>= f = Err e

abbrev pub read_map : {A B : Type 0} → (A → B) → Read A → Read B
read_map f r = r >>= λ p. Ok (f p.0, p.1)

-- ---- one token

abbrev pub fitted : {B : Type 0} → Option B → Cause → Lexeme → Parser B
fitted None why l ls = Err (refusal why (l ∷ ls))
fitted (Some b) why l ls = Ok (b, ls)

abbrev pub picked_at : {A B : Type 0} → Option A → (A → Option B) → Cause → Lexeme → Parser B
picked_at None fit why l ls = Err (refusal cause.expected (l ∷ ls))
picked_at (Some a) fit why l ls = fitted (fit a) why l ls

-- a token of the sort, and what fits of it; what doesn't fit is refused for that cause
abbrev pub picked : {A B : Type 0} → (Symbol → Option A) → (A → Option B) → Cause → Parser B
picked sort fit why [] = Err (refusal cause.expected [])
picked sort fit why (l ∷ ls) = picked_at (sort l.symbol) fit why l ls

abbrev pub is_sign : Sign → Symbol → Bool
is_sign s (lex.sign t) = bytes_eq (sign_text s) (sign_text t)
is_sign s _ = false

abbrev pub the_sign : Sign → Symbol → Option Sign
the_sign s symbol = if is_sign s symbol then Some s else None

-- that sign
unfoldable pub sign : Sign → Parser Sign
sign s = picked (the_sign s) (λ t. Some t) cause.expected

abbrev pub name_of : Symbol → Option (List ℕ)
name_of (lex.name key) = Some key
name_of _ = None

abbrev pub quoted_of : Symbol → Option (List ℕ)
quoted_of (lex.quoted text) = Some text
quoted_of _ = None

abbrev pub a_literal : Symbol → Option Symbol
a_literal symbol = if is_some (literal_of symbol) then Some symbol else None

-- ---- what was read of a leaf

abbrev pub is_plain : Option Reading → Bool
is_plain (Some leaf.plain) = true
is_plain _ = false

abbrev pub if_plain : {A : Type 0} → A → Option Reading → Option A
if_plain x reading = if is_plain reading then Some x else None

abbrev pub value_in : Option Reading → Option Value
value_in (Some (leaf.cleaned v)) = Some v
value_in _ = None

abbrev pub network_in : Option Reading → Option Network
network_in (Some (leaf.net n)) = Some n
network_in _ = None

abbrev pub seconds_in : Option Reading → Option ℕ
seconds_in (Some (leaf.seconds n)) = Some n
seconds_in _ = None

-- ---- rows

abbrev pub sees : (Symbol → Bool) → List Lexeme → Bool
sees is [] = false
sees is (l ∷ ls) = is l.symbol

abbrev pub goes_on : {A : Type 0} → Bool → (List A → Parser (List A)) → List A → Parser (List A)
goes_on false more found ls = Ok (found, ls)
goes_on true more found ls = more found (drop 1 ls)

-- Things with a sign or a word between, after those found. The number bounds the turns; the count of the tokens is always enough.
unfoldable pub separated : {A : Type 0} → (Symbol → Bool) → Parser A → ℕ → List A → Parser (List A)
separated is thing zero found ls = Err (refusal cause.expected ls)
separated is thing (suc n) found ls =
    thing ls >>= λ p. goes_on (sees is p.1) (separated is thing n) (found ++ p.0 ∷ []) p.1

-- what was read, before that sign
abbrev pub closed : {A : Type 0} → Sign → A → Parser A
closed s x ls = read_map (λ _. x) (sign s ls)

-- "[" x { "," x } "]"
unfoldable pub row : {A : Type 0} → Parser A → Parser (List A)
row thing ls = sign signs.OpenBracket ls >>= λ p. separated (is_sign signs.Comma) thing (length p.1) [] p.1 >>= λ q. closed signs.CloseBracket q.0 q.1

-- Things one behind the other, after those found, up to where the test stops. The number bounds the turns; more than the count of
-- the tokens is always enough.
abbrev pub or_more : {A : Type 0} → Bool → Read (List A) → List A → Parser (List A)
or_more true more found ls = Ok (found, ls)
or_more false more found ls = more

unfoldable pub items : {A : Type 0} → (List Lexeme → Bool) → Parser A → ℕ → List A → Parser (List A)
items stops thing zero found ls = Err (refusal cause.expected ls)
items stops thing (suc n) found ls =
    or_more (stops ls) (thing ls >>= λ p. items stops thing n (found ++ p.0 ∷ []) p.1) found ls

-- "{" { x } "}"
unfoldable pub block : {A : Type 0} → Parser A → Parser (List A)
block thing ls =
    sign signs.OpenBrace ls >>= λ p. items (sees (is_sign signs.CloseBrace)) thing (suc (length p.1)) [] p.1 >>= λ q. closed signs.CloseBrace q.0 q.1

-- nothing is left
abbrev pub is_end : List Lexeme → Bool
is_end [] = true
is_end (l ∷ ls) = false

-- ---- choices

abbrev pub is_elif : Symbol → Bool
is_elif (lex.key words.Elif) = true
is_elif _ = false

abbrev pub is_else : Symbol → Bool
is_else (lex.key words.Else) = true
is_else _ = false

-- a condition, and what runs where it holds
unfoldable pub case : Parser Cond → Parser (List SieveItem) → Parser (Cond × List SieveItem)
case condition part ls = condition ls >>= λ p. part p.1 >>= λ q. Ok ((p.0, q.0), q.1)

abbrev pub or_nothing : Bool → Parser (List SieveItem) → Parser (List SieveItem)
or_nothing true part ls = part (drop 1 ls)
or_nothing false part ls = Ok ([], ls)

unfoldable pub otherwise : Parser (List SieveItem) → Parser (List SieveItem)
otherwise part ls = or_nothing (sees is_else ls) part ls

-- behind `if`
unfoldable pub choice : Parser Cond → Parser (List SieveItem) → Parser SieveItem
choice condition part ls =
    separated is_elif (case condition part) (length ls) [] ls >>= λ p. read_map (item.Choice p.0) (otherwise part p.1)

-- a block that would nest too deep
unfoldable pub deep_block : Parser (List SieveItem)
deep_block ls = sign signs.OpenBrace ls >>= λ p. Err (refusal cause.deep ls)

-- ---- conditions

unfoldable pub both : Parser Cond → Parser Cond
both one ls = read_map cond.All (separated (is_sign signs.And) one (length ls) [] ls)

unfoldable pub cond_of : Parser Cond → Parser Cond
cond_of one ls = read_map cond.Any (separated (is_sign signs.Or) (both one) (length ls) [] ls)

abbrev pub too_deep : Parser Cond
too_deep ls = Err (refusal cause.deep ls)

unfoldable pub negated_of : Parser Cond → Parser Cond
negated_of one ls = read_map cond.Not (one (drop 1 ls))

unfoldable pub grouped_of : Parser Cond → Parser Cond
grouped_of one ls = cond_of one (drop 1 ls) >>= λ p. closed signs.CloseParen p.0 p.1

module _ (fits : Leaf → Option Reading) where
  unfoldable pub field : Parser (List ℕ)
  field = picked name_of (λ key. if_plain key (fits (leaf.field key))) cause.field

  unfoldable pub literal : List ℕ → Parser Value
  literal key = picked a_literal (λ symbol. value_in (fits (leaf.value key symbol))) cause.value

  unfoldable pub amount : List ℕ → Parser Amount
  amount key = picked amount_of (λ n. if_plain n (fits (leaf.order key))) cause.value

  unfoldable pub text : Parser (List ℕ)
  text = picked quoted_of (λ content. Some content) cause.expected

  unfoldable pub network : List ℕ → Parser Network
  network key = picked quoted_of (λ content. network_in (fits (leaf.network key content))) cause.value

  unfoldable pub span : List ℕ → Parser ℕ
  span key = picked quoted_of (λ content. seconds_in (fits (leaf.span key content))) cause.value

  unfoldable pub pattern : ℕ → Parser ℕ
  pattern before = picked quoted_of (λ content. if_plain before (fits (leaf.pattern content))) cause.pattern

  -- behind a field and the symbol of an operator; so many signs of patterns stand before it
  abbrev pub operand : List ℕ → ℕ → List Lexeme → Symbol → Parser Test
  operand key before all (lex.sign signs.Equal) ls = read_map test.Equal (literal key ls)
  operand key before all (lex.sign signs.Differs) ls = read_map test.Differs (literal key ls)
  operand key before all (lex.sign signs.Contains) ls = read_map test.Contains (text ls)
  operand key before all (lex.sign signs.Matches) ls = read_map test.Found (pattern before ls)
  operand key before all (lex.sign signs.NotMatches) ls = read_map test.NotFound (pattern before ls)
  operand key before all (lex.sign signs.Less) ls = read_map test.Below (amount key ls)
  operand key before all (lex.sign signs.LessOrEqual) ls = read_map test.AtMost (amount key ls)
  operand key before all (lex.sign signs.Greater) ls = read_map test.Above (amount key ls)
  operand key before all (lex.sign signs.GreaterOrEqual) ls = read_map test.AtLeast (amount key ls)
  operand key before all (lex.sign signs.Within) ls = read_map test.Within (network key ls)
  operand key before all (lex.sign signs.In) ls = read_map test.In (row (literal key) ls)
  operand key before all (lex.sign signs.Before) ls = read_map test.Before (span key ls)
  operand key before all (lex.sign signs.After) ls = read_map test.After (span key ls)
  operand key before all _ ls = Err (refusal cause.expected all)

  -- the operator and its operand, behind a field
  unfoldable pub operator : List ℕ → Parser Test
  operator key [] = Err (refusal cause.expected [])
  operator key (l ∷ ls) = operand key l.patterns (l ∷ ls) l.symbol ls

  -- a field, and then its operator
  abbrev pub named : Parser Cond
  named ls = field ls >>= λ p. read_map (cond.Test p.0) (operator p.0 p.1)

  abbrev pub test_at : List Lexeme → Symbol → Parser Cond
  test_at all (lex.sign signs.Exists) ls = read_map (λ key. cond.Test key test.Exists) (field ls)
  test_at all (lex.sign signs.NotExists) ls = read_map (λ key. cond.Test key test.Absent) (field ls)
  test_at all _ ls = named all

  unfoldable pub tested : Parser Cond
  tested [] = Err (refusal cause.expected [])
  tested (l ∷ ls) = test_at (l ∷ ls) l.symbol ls

  abbrev pub one_at : Parser Cond → Parser Cond → List Lexeme → Symbol → Read Cond
  one_at negated grouped all (lex.sign signs.Not) = negated all
  one_at negated grouped all (lex.sign signs.OpenParen) = grouped all
  one_at negated grouped all _ = tested all

  abbrev pub one_by : Parser Cond → Parser Cond → Parser Cond
  one_by negated grouped [] = Err (refusal cause.expected [])
  one_by negated grouped (l ∷ ls) = one_at negated grouped (l ∷ ls) l.symbol

  -- the number: how many signs may still nest
  unfoldable pub one : ℕ → Parser Cond
  one zero ls = one_by too_deep too_deep ls
  one (suc d) ls = one_by (negated_of (one d)) (grouped_of (one d)) ls

  -- behind a sign, with so many levels left
  abbrev pub negated : ℕ → Parser Cond
  negated zero = too_deep
  negated (suc d) = negated_of (one d)

  abbrev pub grouped : ℕ → Parser Cond
  grouped zero = too_deep
  grouped (suc d) = grouped_of (one d)

  abbrev pub condition : ℕ → Parser Cond
  condition d = cond_of (one d)

  -- ---- items

  unfoldable pub path_name : Parser (List ℕ)
  path_name = picked quoted_of (λ content. if_plain content (fits (leaf.path content))) cause.value

  abbrev pub texts_at : List Lexeme → Symbol → Read (List (List ℕ))
  texts_at all (lex.sign signs.OpenBracket) = row path_name all
  texts_at all _ = read_map (λ name. name ∷ []) (path_name all)

  unfoldable pub texts : Parser (List (List ℕ))
  texts [] = Err (refusal cause.expected [])
  texts (l ∷ ls) = texts_at (l ∷ ls) l.symbol

  abbrev pub source_at : List ℕ → How → ℕ → List Lexeme → Symbol → Read SieveItem
  source_at key way at all (lex.name from) = read_map (λ name. item.Put key way (source.Copy name) at) (field all)
  source_at key way at all _ = read_map (λ v. item.Put key way (source.Fixed v) at) (literal key all)

  -- behind `=`
  unfoldable pub put_source : List ℕ → How → Parser SieveItem
  put_source key way [] = Err (refusal cause.expected [])
  put_source key way (l ∷ ls) = source_at key way l.at (l ∷ ls) l.symbol

  unfoldable pub put : How → Parser SieveItem
  put way ls = field ls >>= λ p. sign signs.Assign p.1 >>= λ q. put_source p.0 way q.1

  abbrev pub item_at : Parser SieveItem → List Lexeme → Symbol → Parser SieveItem
  item_at if_behind all (lex.key words.If) ls = if_behind ls
  item_at if_behind all (lex.key words.Keep) ls = Ok (item.Keep, ls)
  item_at if_behind all (lex.key words.Drop) ls = Ok (item.Drop, ls)
  item_at if_behind all (lex.key words.Path) ls = read_map item.Path (texts ls)
  item_at if_behind all (lex.key words.Add) ls = put how.Add ls
  item_at if_behind all (lex.key words.Force) ls = put how.Force ls
  item_at if_behind all (lex.key words.Update) ls = put how.Update ls
  item_at if_behind all (lex.key words.Remove) ls = read_map item.Remove (field ls)
  item_at if_behind all _ ls = Err (refusal cause.expected all)

  abbrev pub item_by : Parser SieveItem → Parser SieveItem
  item_by if_behind [] = Err (refusal cause.expected [])
  item_by if_behind (l ∷ ls) = item_at if_behind (l ∷ ls) l.symbol ls

  -- the number: how deep blocks and conditions may still nest
  unfoldable pub an_item : ℕ → Parser SieveItem
  an_item zero ls = item_by (choice (condition zero) deep_block) ls
  an_item (suc d) ls = item_by (choice (condition (suc d)) (block (an_item d))) ls

  -- a block, with so many levels left
  abbrev pub part : ℕ → Parser (List SieveItem)
  part zero = deep_block
  part (suc d) = block (an_item d)

  -- the whole text
  -- the whole text
  abbrev pub file : ℕ → List Lexeme → Read (List SieveItem)
  file d ls = items is_end (an_item d) (suc (length ls)) [] ls
