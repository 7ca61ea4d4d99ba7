-- What is read as a test is one, and each test is read.
use Rattle.std.proofs.Common.{◌≡◌, ℕ, List, [], ◌∷◌, ◌++◌, Option, Some, Ok, refl, sym, ap, ◌∙◌, subst}
use Rattle.field_types.specs.declared.value.Value.{Value}
use Rattle.scalar_net.specs.declared.network.Network.{Network}
use Rattle.sieve_tokens.specs.declared.sign.Sign.{Sign}
use Rattle.sieve_tokens.specs.declared.sign.Sign.TheVariants as signs
use Rattle.sieve_reader.specs.Grammar.{IsCompared, IsOperator, IsOrderTest, IsPatternTest, IsSpanTest, IsTest, IsTextTest, IsValue, IsValueTest, IsValueToken}
use Rattle.sieve_reader.specs.Leaf as leaf
use Rattle.sieve_reader.specs.Leaf.{Leaf, Reading}
use Rattle.sieve_reader.specs.Lexeme as lex
use Rattle.sieve_reader.specs.Lexeme.{amount_of, literal_of, symbols, Lexeme, Symbol}
use Rattle.sieve_reader.specs.Parse.{a_literal, amount, field, if_plain, literal, name_of, network, network_in, operand, operator, pattern, quoted_of, read_map, row, seconds_in, span, test_at, tested, text, value_in, Parser, ◌>>=◌}
use Rattle.sieve_reader.specs.Refusal as cause
use Rattle.sieve_tree.specs.declared.tree.Amount.{Amount}
use Rattle.sieve_tree.specs.declared.tree.Cond.{Cond}
use Rattle.sieve_tree.specs.declared.tree.Cond.TheVariants as cond
use Rattle.sieve_tree.specs.declared.tree.Test.{Test}
use Rattle.sieve_tree.specs.declared.tree.Test.TheVariants as test
use Rattle.sieve_reader.proofs.Picks.{bound, literal_is, mapped, name_is, network_is, picked_sound, plain_is, quoted_is, seconds_is, value_is, Sound}
use Rattle.base_types.proofs.Options.{some_value}
use Rattle.sieve_reader.proofs.Rows.{row_sound}

module _ (fits : Leaf → Option Reading) where
  abbrev pub Fits : Leaf → Reading → Type 0
  Fits which reading = fits which ≡ Some reading

  -- ---- what is read is a test

  abbrev Field : List Lexeme → List ℕ → List Lexeme → Type 0
  Field ls key rest = (l : Lexeme) × (ls ≡ l ∷ rest) × (l.symbol ≡ lex.name key) × Fits (leaf.field key) leaf.plain

  pub field_sound : (ls rest : List Lexeme) (key : List ℕ) → field fits ls ≡ Ok (key, rest) → Field ls key rest
  unfolding field
  field_sound ls rest key e =
      let h = picked_sound name_of (λ k. if_plain k (fits (leaf.field k))) cause.field ls rest key e in
      let (right, same) = plain_is h.2.0 key (fits (leaf.field h.2.0)) h.2.2 in
      let named : h.0.symbol ≡ lex.name key = name_is h.0.symbol h.2.0 h.2.1 ∙ ap (λ (k : List ℕ). lex.name k) same in
      (h.0, h.1, named, subst (λ (k : List ℕ). Fits (leaf.field k) leaf.plain) same right)

  -- behind a field
  abbrev Operated : List ℕ → List Lexeme → List Lexeme → Test → Type 0
  Operated key ls rest t = (us : List Lexeme) × (ls ≡ us ++ rest) × ((first : Lexeme) → first.symbol ≡ lex.name key → IsOperator Fits (first ∷ us) key t)

  module _ (key : List ℕ) (l : Lexeme) (ls rest : List Lexeme) (t : Test) where
    -- an operator and one token
    one_operand : {B : Type 0} (op : Sign) (make : B → Test) (thing : Parser B) (operand : B → Symbol → Type 0)
        → ((b : B) (behind : List Lexeme) → thing ls ≡ Ok (b, behind) → (m : Lexeme) × (ls ≡ m ∷ behind) × (symbol : Symbol) × (m.symbol ≡ symbol) × operand b symbol)
        → ((b : B) (symbol : Symbol) (vs : List Lexeme) → operand b symbol → IsCompared op vs key symbol l.patterns → IsOperator Fits vs key (make b))
        → l.symbol ≡ lex.sign op → read_map make (thing ls) ≡ Ok (t, rest) → Operated key (l ∷ ls) rest t
    one_operand op make thing operand reads is_test sign e =
        let (b, read, same) = mapped make (thing ls) t rest e in
        let (m, at, symbol, is, right) = reads b rest read in (
          l ∷ m ∷ [],
          ap (λ (r : List Lexeme). l ∷ r) at,
          λ first named.
              subst (IsOperator Fits (first ∷ l ∷ m ∷ []) key) (sym same) (is_test b symbol (first ∷ l ∷ m ∷ []) right (first, l, m, refl, named, sign, is, refl)),
        )

    read_literal : (v : Value) (behind : List Lexeme) → literal fits key ls ≡ Ok (v, behind) → (m : Lexeme) × (ls ≡ m ∷ behind) × (symbol : Symbol) × (m.symbol ≡ symbol) × IsValue Fits key symbol v
    unfolding literal
    read_literal v behind e =
        let h = picked_sound a_literal (λ symbol. value_in (fits (leaf.value key symbol))) cause.value ls behind v e in
        let (some, same) = literal_is h.0.symbol h.2.0 h.2.1 in
        let (written, is) = some_value (literal_of h.0.symbol) some in
        (h.0, h.1, h.2.0, same, (written, ap literal_of (sym same) ∙ is, value_is (fits (leaf.value key h.2.0)) v h.2.2))

    read_amount : (n : Amount) (behind : List Lexeme) → amount fits key ls ≡ Ok (n, behind)
        → (m : Lexeme) × (ls ≡ m ∷ behind) × (symbol : Symbol) × (m.symbol ≡ symbol) × ((amount_of symbol ≡ Some n) × Fits (leaf.order key) leaf.plain)
    unfolding amount
    read_amount n behind e =
        let h = picked_sound amount_of (λ a. if_plain a (fits (leaf.order key))) cause.value ls behind n e in
        let (right, same) = plain_is h.2.0 n (fits (leaf.order key)) h.2.2 in
        (h.0, h.1, h.0.symbol, refl, (h.2.1 ∙ ap (λ (a : Amount). Some a) same, right))

    read_text : (content : List ℕ) (behind : List Lexeme) → text fits ls ≡ Ok (content, behind) → (m : Lexeme) × (ls ≡ m ∷ behind) × (symbol : Symbol) × (m.symbol ≡ symbol) × (symbol ≡ lex.quoted content)
    unfolding text
    read_text content behind e =
        let h = picked_sound quoted_of (λ c. Some c) cause.expected ls behind content e in
        (h.0, h.1, h.0.symbol, refl, quoted_is h.0.symbol content (h.2.1 ∙ h.2.2))

    read_network : (n : Network) (behind : List Lexeme) → network fits key ls ≡ Ok (n, behind)
        → (m : Lexeme) × (ls ≡ m ∷ behind) × (symbol : Symbol) × (m.symbol ≡ symbol) × ((content : List ℕ) × (symbol ≡ lex.quoted content) × Fits (leaf.network key content) (leaf.net n))
    unfolding network
    read_network n behind e =
        let h = picked_sound quoted_of (λ c. network_in (fits (leaf.network key c))) cause.value ls behind n e in
        (h.0, h.1, h.0.symbol, refl, (h.2.0, quoted_is h.0.symbol h.2.0 h.2.1, network_is (fits (leaf.network key h.2.0)) n h.2.2))

    read_span : (n : ℕ) (behind : List Lexeme) → span fits key ls ≡ Ok (n, behind)
        → (m : Lexeme) × (ls ≡ m ∷ behind) × (symbol : Symbol) × (m.symbol ≡ symbol) × ((content : List ℕ) × (symbol ≡ lex.quoted content) × Fits (leaf.span key content) (leaf.seconds n))
    unfolding span
    read_span n behind e =
        let h = picked_sound quoted_of (λ c. seconds_in (fits (leaf.span key c))) cause.value ls behind n e in
        (h.0, h.1, h.0.symbol, refl, (h.2.0, quoted_is h.0.symbol h.2.0 h.2.1, seconds_is (fits (leaf.span key h.2.0)) n h.2.2))

    read_pattern : (before n : ℕ) (behind : List Lexeme) → pattern fits before ls ≡ Ok (n, behind)
        → (m : Lexeme) × (ls ≡ m ∷ behind) × (symbol : Symbol) × (m.symbol ≡ symbol) × ((content : List ℕ) × (symbol ≡ lex.quoted content) × (before ≡ n) × Fits (leaf.pattern content) leaf.plain)
    unfolding pattern
    read_pattern before n behind e =
        let h = picked_sound quoted_of (λ c. if_plain before (fits (leaf.pattern c))) cause.pattern ls behind n e in
        let (right, same) = plain_is before n (fits (leaf.pattern h.2.0)) h.2.2 in
        (h.0, h.1, h.0.symbol, refl, (h.2.0, quoted_is h.0.symbol h.2.0 h.2.1, same, right))

    value_operand : (op : Sign) (make : Value → Test) → ((v : Value) (vs : List Lexeme) → IsValueTest Fits op vs key v → IsOperator Fits vs key (make v))
        → l.symbol ≡ lex.sign op → read_map make (literal fits key ls) ≡ Ok (t, rest) → Operated key (l ∷ ls) rest t
    value_operand op make is sign e = one_operand op make (literal fits key) (λ v symbol. IsValue Fits key symbol v) read_literal (λ v symbol vs right compared. is v vs (symbol, l.patterns, compared, right)) sign e

    order_operand : (op : Sign) (make : Amount → Test) → ((n : Amount) (vs : List Lexeme) → IsOrderTest Fits op vs key n → IsOperator Fits vs key (make n))
        → l.symbol ≡ lex.sign op → read_map make (amount fits key ls) ≡ Ok (t, rest) → Operated key (l ∷ ls) rest t
    order_operand op make is sign e =
        one_operand op make (amount fits key) (λ n symbol. (amount_of symbol ≡ Some n) × Fits (leaf.order key) leaf.plain) read_amount (λ n symbol vs right compared. is n vs (symbol, l.patterns, compared, right.0, right.1)) sign e

    -- as an operator with that content
    of_content : (op : Sign) (vs : List Lexeme) (symbol : Symbol) (content : List ℕ) → symbol ≡ lex.quoted content → IsCompared op vs key symbol l.patterns → IsTextTest Fits op vs key content l.patterns
    of_content op vs symbol content is compared = subst (λ (s : Symbol). IsCompared op vs key s l.patterns) is compared

    span_operand : (op : Sign) (make : ℕ → Test) → ((n : ℕ) (vs : List Lexeme) → IsSpanTest Fits op vs key n → IsOperator Fits vs key (make n))
        → l.symbol ≡ lex.sign op → read_map make (span fits key ls) ≡ Ok (t, rest) → Operated key (l ∷ ls) rest t
    span_operand op make is sign e =
        one_operand op make (span fits key) (λ n symbol. (content : List ℕ) × (symbol ≡ lex.quoted content) × Fits (leaf.span key content) (leaf.seconds n)) read_span
        (λ n symbol vs right compared. is n vs (right.0, l.patterns, of_content op vs symbol right.0 right.1 compared, right.2)) sign e

    pattern_operand : (op : Sign) (make : ℕ → Test) → ((n : ℕ) (vs : List Lexeme) → IsPatternTest Fits op vs key n → IsOperator Fits vs key (make n))
        → l.symbol ≡ lex.sign op → read_map make (pattern fits l.patterns ls) ≡ Ok (t, rest) → Operated key (l ∷ ls) rest t
    pattern_operand op make is sign e =
        one_operand op make (pattern fits l.patterns) (λ n symbol. (content : List ℕ) × (symbol ≡ lex.quoted content) × (l.patterns ≡ n) × Fits (leaf.pattern content) leaf.plain) (read_pattern l.patterns)
        (λ n symbol vs right compared. is n vs (right.0, subst (λ (k : ℕ). IsTextTest Fits op vs key right.0 k) right.2 (of_content op vs symbol right.0 right.1 compared), right.3)) sign e

    text_operand : l.symbol ≡ lex.sign signs.Contains → read_map test.Contains (text fits ls) ≡ Ok (t, rest) → Operated key (l ∷ ls) rest t
    text_operand sign e =
        one_operand signs.Contains test.Contains (text fits) (λ content symbol. symbol ≡ lex.quoted content) read_text
        (λ content symbol vs right compared. (l.patterns, of_content signs.Contains vs symbol content right compared)) sign e

    network_operand : l.symbol ≡ lex.sign signs.Within → read_map test.Within (network fits key ls) ≡ Ok (t, rest) → Operated key (l ∷ ls) rest t
    network_operand sign e =
        one_operand signs.Within test.Within (network fits key) (λ n symbol. (content : List ℕ) × (symbol ≡ lex.quoted content) × Fits (leaf.network key content) (leaf.net n)) read_network
        (λ n symbol vs right compared. (right.0, l.patterns, of_content signs.Within vs symbol right.0 right.1 compared, right.2)) sign e

    in_operand : Sound (literal fits key) (IsValueToken Fits key) → l.symbol ≡ lex.sign signs.In → read_map test.In (row (literal fits key) ls) ≡ Ok (t, rest) → Operated key (l ∷ ls) rest t
    in_operand sound sign e =
        let (vs, read, same) = mapped test.In (row (literal fits key) ls) t rest e in
        let (us, at, are) = row_sound (literal fits key) (IsValueToken Fits key) sound ls rest vs read in
        (l ∷ us, ap (λ (r : List Lexeme). l ∷ r) at, λ first named. subst (IsOperator Fits (first ∷ l ∷ us) key) (sym same) (first, l, us, refl, named, sign, are))

  pub literal_sound : (key : List ℕ) → Sound (literal fits key) (IsValueToken Fits key)
  literal_sound key ls rest v e =
      let (m, at, symbol, is, right) = read_literal key (record { at = 0; patterns = 0; symbol = lex.name [] }) ls rest test.Exists v rest e in
      (m ∷ [], at, (m, refl, subst (λ (s : Symbol). IsValue Fits key s v) (sym is) right))

  operand_sound : (key : List ℕ) (l : Lexeme) (ls rest : List Lexeme) (t : Test) (symbol : Symbol) → l.symbol ≡ symbol → operand fits key l.patterns (l ∷ ls) symbol ls ≡ Ok (t, rest) → Operated key (l ∷ ls) rest t
  operand_sound key l ls rest t (lex.sign signs.Equal) is e = value_operand key l ls rest t signs.Equal test.Equal (λ v vs h. h) is e
  operand_sound key l ls rest t (lex.sign signs.Differs) is e = value_operand key l ls rest t signs.Differs test.Differs (λ v vs h. h) is e
  operand_sound key l ls rest t (lex.sign signs.Contains) is e = text_operand key l ls rest t is e
  operand_sound key l ls rest t (lex.sign signs.Matches) is e = pattern_operand key l ls rest t signs.Matches test.Found (λ v vs h. h) is e
  operand_sound key l ls rest t (lex.sign signs.NotMatches) is e = pattern_operand key l ls rest t signs.NotMatches test.NotFound (λ v vs h. h) is e
  operand_sound key l ls rest t (lex.sign signs.Less) is e = order_operand key l ls rest t signs.Less test.Below (λ v vs h. h) is e
  operand_sound key l ls rest t (lex.sign signs.LessOrEqual) is e = order_operand key l ls rest t signs.LessOrEqual test.AtMost (λ v vs h. h) is e
  operand_sound key l ls rest t (lex.sign signs.Greater) is e = order_operand key l ls rest t signs.Greater test.Above (λ v vs h. h) is e
  operand_sound key l ls rest t (lex.sign signs.GreaterOrEqual) is e = order_operand key l ls rest t signs.GreaterOrEqual test.AtLeast (λ v vs h. h) is e
  operand_sound key l ls rest t (lex.sign signs.Within) is e = network_operand key l ls rest t is e
  operand_sound key l ls rest t (lex.sign signs.In) is e = in_operand key l ls rest t (literal_sound key) is e
  operand_sound key l ls rest t (lex.sign signs.Before) is e = span_operand key l ls rest t signs.Before test.Before (λ v vs h. h) is e
  operand_sound key l ls rest t (lex.sign signs.After) is e = span_operand key l ls rest t signs.After test.After (λ v vs h. h) is e
  operand_sound key l ls rest t symbol is e = absurd (cc)

  operator_sound : (key : List ℕ) (ls rest : List Lexeme) (t : Test) → operator fits key ls ≡ Ok (t, rest) → Operated key ls rest t
  unfolding operator
  operator_sound key [] rest t e = absurd (cc)
  operator_sound key (l ∷ ls) rest t e = operand_sound key l ls rest t l.symbol refl e

  abbrev Tested : List Lexeme → List Lexeme → Cond → Type 0
  Tested ls rest c = (us : List Lexeme) × (ls ≡ us ++ rest) × IsTest Fits us c

  presence_sound : (s : Sign) (operator : Test) → ((key : List ℕ) (us : List Lexeme) → symbols us ≡ lex.sign s ∷ lex.name key ∷ [] → IsOperator Fits us key operator)
      → (l : Lexeme) (ls rest : List Lexeme) (c : Cond) → l.symbol ≡ lex.sign s → read_map (λ key. cond.Test key operator) (field fits ls) ≡ Ok (c, rest) → Tested (l ∷ ls) rest c
  presence_sound s operator is_test l ls rest c is e =
      let (key, read, same) = mapped (λ key. cond.Test key operator) (field fits ls) c rest e in
      let (m, at, named, right) = field_sound ls rest key read in
      (l ∷ m ∷ [], ap (λ (r : List Lexeme). l ∷ r) at, (key, operator, same, is_test key (l ∷ m ∷ []) (λ i. is i ∷ named i ∷ []), right))

  named_sound : (ls rest : List Lexeme) (c : Cond) → (field fits ls >>= λ p. read_map (cond.Test p.0) (operator fits p.0 p.1)) ≡ Ok (c, rest) → Tested ls rest c
  named_sound ls rest c e =
      let (p, read, later) = bound (field fits ls) _ (c, rest) e in
      let (l, at, named, right) = field_sound ls p.1 p.0 read in
      let (t, operated, same) = mapped (cond.Test p.0) (operator fits p.0 p.1) c rest later in
      let (us, behind, is) = operator_sound p.0 p.1 rest t operated in
      (l ∷ us, at ∙ ap (λ (r : List Lexeme). l ∷ r) behind, (p.0, t, same, is l named, right))

  test_at_sound : (l : Lexeme) (ls rest : List Lexeme) (c : Cond) (symbol : Symbol) → l.symbol ≡ symbol → test_at fits (l ∷ ls) symbol ls ≡ Ok (c, rest) → Tested (l ∷ ls) rest c
  test_at_sound l ls rest c (lex.sign signs.Exists) is e = presence_sound signs.Exists test.Exists (λ key us h. h) l ls rest c is e
  test_at_sound l ls rest c (lex.sign signs.NotExists) is e = presence_sound signs.NotExists test.Absent (λ key us h. h) l ls rest c is e
  test_at_sound l ls rest c symbol is e = named_sound (l ∷ ls) rest c e

  -- what is read as a test is one
  pub tested_sound : Sound (tested fits) (IsTest Fits)
  unfolding tested
  tested_sound [] rest c e = absurd (cc)
  tested_sound (l ∷ ls) rest c e = test_at_sound l ls rest c l.symbol refl e
