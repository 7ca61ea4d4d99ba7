-- Each test of the grammar is read.
use Rattle.std.proofs.Common.{◌≡◌, ℕ, ◌<◌, true, List, [], ◌∷◌, ◌++◌, length, Option, Some, Ok, refl, sym, ap, ◌∙◌, arith}
use Rattle.std.specs.Prelude.{is_some}
use Rattle.field_types.specs.declared.value.Value.{Value}
use Rattle.scalar_net.specs.declared.network.Network.{Network}
use Rattle.sieve_tokens.specs.declared.sign.Sign.{Sign}
use Rattle.sieve_tokens.specs.declared.sign.Sign.TheVariants as signs
use Rattle.sieve_reader.specs.Grammar.{IsCompared, IsOperator, IsOrderTest, IsPatternTest, IsRow, IsSpanTest, IsTest, IsValue, IsValueTest, IsValueToken}
use Rattle.sieve_reader.specs.Leaf as leaf
use Rattle.sieve_reader.specs.Leaf.{Leaf, Reading}
use Rattle.sieve_reader.specs.Lexeme as lex
use Rattle.sieve_reader.specs.Lexeme.{amount_of, literal_of, symbols, Lexeme, Symbol}
use Rattle.sieve_reader.specs.Parse.{amount, field, literal, network, operand, operator, pattern, read_map, row, span, test_at, tested, text, Parser, Read, ◌>>=◌}
use Rattle.sieve_tree.specs.declared.tree.Amount.{Amount}
use Rattle.sieve_tree.specs.declared.tree.Cond.{Cond}
use Rattle.sieve_tree.specs.declared.tree.Cond.TheVariants as cond
use Rattle.sieve_tree.specs.declared.tree.Test.{Test}
use Rattle.sieve_tree.specs.declared.tree.Test.TheVariants as test
use Rattle.sieve_reader.proofs.Picks.{Complete, Nonempty}
use Rattle.sieve_reader.proofs.Rows.{row_complete, Anything}
use Rattle.sieve_reader.proofs.Tests.{Fits}

module _ (fits : Leaf → Option Reading) where
  pub field_is : (l : Lexeme) (rest : List Lexeme) (key : List ℕ) → l.symbol ≡ lex.name key → Fits fits (leaf.field key) leaf.plain → field fits (l ∷ rest) ≡ Ok (key, rest)
  unfolding field
  field_is l rest key named right = rw (named, right) refl

  literal_reads : (key : List ℕ) (l : Lexeme) (rest : List Lexeme) (symbol : Symbol) (v : Value) → l.symbol ≡ symbol → IsValue (Fits fits) key symbol v → literal fits key (l ∷ rest) ≡ Ok (v, rest)
  unfolding literal
  literal_reads key l rest symbol v is right =
      let some : is_some (literal_of symbol) ≡ true = ap is_some right.1 in
      rw (is, some, right.2) refl

  amount_reads : (key : List ℕ) (l : Lexeme) (rest : List Lexeme) (symbol : Symbol) (n : Amount) → l.symbol ≡ symbol → amount_of symbol ≡ Some n → Fits fits (leaf.order key) leaf.plain → amount fits key (l ∷ rest) ≡ Ok (n, rest)
  unfolding amount
  amount_reads key l rest symbol n is number right = rw (is, number, right) refl

  text_reads : (l : Lexeme) (rest : List Lexeme) (content : List ℕ) → l.symbol ≡ lex.quoted content → text fits (l ∷ rest) ≡ Ok (content, rest)
  unfolding text
  text_reads l rest content is = rw is refl

  network_reads : (key : List ℕ) (l : Lexeme) (rest : List Lexeme) (content : List ℕ) (n : Network) → l.symbol ≡ lex.quoted content → Fits fits (leaf.network key content) (leaf.net n) → network fits key (l ∷ rest) ≡ Ok (n, rest)
  unfolding network
  network_reads key l rest content n is right = rw (is, right) refl

  span_reads : (key : List ℕ) (l : Lexeme) (rest : List Lexeme) (content : List ℕ) (n : ℕ) → l.symbol ≡ lex.quoted content → Fits fits (leaf.span key content) (leaf.seconds n) → span fits key (l ∷ rest) ≡ Ok (n, rest)
  unfolding span
  span_reads key l rest content n is right = rw (is, right) refl

  pattern_reads : (before : ℕ) (l : Lexeme) (rest : List Lexeme) (content : List ℕ) → l.symbol ≡ lex.quoted content → Fits fits (leaf.pattern content) leaf.plain → pattern fits before (l ∷ rest) ≡ Ok (before, rest)
  unfolding pattern
  pattern_reads before l rest content is right = rw (is, right) refl

  -- a field, and then its operator
  named_reads : (first : Lexeme) (ls : List Lexeme) (key : List ℕ) → first.symbol ≡ lex.name key → Fits fits (leaf.field key) leaf.plain → tested fits (first ∷ ls) ≡ read_map (cond.Test key) (operator fits key ls)
  unfolding tested
  named_reads first ls key named right =
      ap (λ (s : Symbol). test_at fits (first ∷ ls) s ls) named ∙ ap (λ (r : Read (List ℕ)). r >>= λ p. read_map (cond.Test p.0) (operator fits p.0 p.1)) (field_is first ls key named right)

  -- a field, an operator and one token
  compared_reads : {B : Type 0} (op : Sign) (make : B → Test) (thing : List ℕ → ℕ → Parser B)
      → ((key : List ℕ) (before : ℕ) (all ls : List Lexeme) → operand fits key before all (lex.sign op) ls ≡ read_map make (thing key before ls))
      → (us rest : List Lexeme) (key : List ℕ) (symbol : Symbol) (before : ℕ) (b : B) → IsCompared op us key symbol before
      → ((l : Lexeme) → l.symbol ≡ symbol → thing key before (l ∷ rest) ≡ Ok (b, rest))
      → Fits fits (leaf.field key) leaf.plain → tested fits (us ++ rest) ≡ Ok (cond.Test key (make b), rest)
  unfolding operator
  compared_reads op make thing equation us rest key symbol before b compared reads right =
      let (first, second, third, at, named, sign, is, number) = compared in
      let ls = third ∷ rest in
      let operated : operator fits key (second ∷ ls) ≡ Ok (make b, rest) =
      ap (λ (s : Symbol). operand fits key second.patterns (second ∷ ls) s ls) sign
      ∙ (equation key second.patterns (second ∷ ls) ls ∙ (ap (λ (n : ℕ). read_map make (thing key n ls)) number ∙ ap (read_map make) (reads third is))) in
      ap (λ (m : List Lexeme). tested fits (m ++ rest)) at ∙ (named_reads first (second ∷ ls) key named right ∙ ap (read_map (cond.Test key)) operated)

  abbrev Reads : List Lexeme → List Lexeme → List ℕ → Test → Type 0
  Reads us rest key t = tested fits (us ++ rest) ≡ Ok (cond.Test key t, rest)

  module _ (us rest : List Lexeme) (key : List ℕ) (right : Fits fits (leaf.field key) leaf.plain) where
    value_reads : (op : Sign) (make : Value → Test) (v : Value) → ((key : List ℕ) (before : ℕ) (all ls : List Lexeme) → operand fits key before all (lex.sign op) ls ≡ read_map make (literal fits key ls))
        → IsValueTest (Fits fits) op us key v → Reads us rest key (make v)
    value_reads op make v equation h =
        compared_reads op make (λ k before. literal fits k) equation us rest key h.0 h.1 v h.2 (λ l is. literal_reads key l rest h.0 v is h.3) right

    order_reads : (op : Sign) (make : Amount → Test) (n : Amount) → ((key : List ℕ) (before : ℕ) (all ls : List Lexeme) → operand fits key before all (lex.sign op) ls ≡ read_map make (amount fits key ls))
        → IsOrderTest (Fits fits) op us key n → Reads us rest key (make n)
    order_reads op make n equation h =
        compared_reads op make (λ k before. amount fits k) equation us rest key h.0 h.1 n h.2 (λ l is. amount_reads key l rest h.0 n is h.3 h.4) right

    moment_reads : (op : Sign) (make : ℕ → Test) (n : ℕ) → ((key : List ℕ) (before : ℕ) (all ls : List Lexeme) → operand fits key before all (lex.sign op) ls ≡ read_map make (span fits key ls))
        → IsSpanTest (Fits fits) op us key n → Reads us rest key (make n)
    moment_reads op make n equation h =
        compared_reads op make (λ k before. span fits k) equation us rest key (lex.quoted h.0) h.1 n h.2 (λ l is. span_reads key l rest h.0 n is h.3) right

    match_reads : (op : Sign) (make : ℕ → Test) (n : ℕ) → ((key : List ℕ) (before : ℕ) (all ls : List Lexeme) → operand fits key before all (lex.sign op) ls ≡ read_map make (pattern fits before ls))
        → IsPatternTest (Fits fits) op us key n → Reads us rest key (make n)
    match_reads op make n equation h =
        compared_reads op make (λ k before. pattern fits before) equation us rest key (lex.quoted h.0) n n h.1 (λ l is. pattern_reads n l rest h.0 is h.2) right

    presence_reads : (s : Sign) (t : Test) → ((all ls : List Lexeme) → test_at fits all (lex.sign s) ls ≡ read_map (λ k. cond.Test k t) (field fits ls)) → symbols us ≡ lex.sign s ∷ lex.name key ∷ [] → Reads us rest key t
    unfolding tested
    presence_reads s t equation is = two us is
      where
        at_two : (l m : Lexeme) → l.symbol ≡ lex.sign s → m.symbol ≡ lex.name key → tested fits (l ∷ m ∷ rest) ≡ Ok (cond.Test key t, rest)
        at_two l m sign named =
            ap (λ (x : Symbol). test_at fits (l ∷ m ∷ rest) x (m ∷ rest)) sign ∙ (equation (l ∷ m ∷ rest) (m ∷ rest) ∙ ap (read_map (λ k. cond.Test k t)) (field_is m rest key named right))

        two : (us : List Lexeme) → symbols us ≡ lex.sign s ∷ lex.name key ∷ [] → tested fits (us ++ rest) ≡ Ok (cond.Test key t, rest)
        two [] e = absurd (cc)
        two (l ∷ []) e = absurd (cc)
        two (l ∷ m ∷ []) e = at_two l m (cc) (cc)
        two (l ∷ m ∷ o ∷ os) e = absurd (cc)

    in_reads : (vs : List Value) → IsOperator (Fits fits) us key (test.In vs) → Complete Anything (row (literal fits key)) (IsRow (IsValueToken (Fits fits) key)) → Reads us rest key (test.In vs)
    unfolding operator
    in_reads vs h complete =
        let (first, second, row_of, at, named, sign, are) = h in
        let ls = row_of ++ rest in
        let operated : operator fits key (second ∷ ls) ≡ Ok (test.In vs, rest) =
        ap (λ (s : Symbol). operand fits key second.patterns (second ∷ ls) s ls) sign ∙ ap (read_map test.In) (complete row_of rest vs are tt) in
        ap (λ (m : List Lexeme). tested fits (m ++ rest)) at ∙ (named_reads first (second ∷ ls) key named right ∙ ap (read_map (cond.Test key)) operated)

  pub literal_complete : (key : List ℕ) → Complete Anything (literal fits key) (IsValueToken (Fits fits) key)
  literal_complete key us rest v h _ = ap (λ (m : List Lexeme). literal fits key (m ++ rest)) h.1 ∙ literal_reads key h.0 rest h.0.symbol v refl h.2

  pub literal_some : (key : List ℕ) → Nonempty (IsValueToken (Fits fits) key)
  literal_some key us v h = let e = ap length h.1 in omega arith

  operator_reads : (us rest : List Lexeme) (key : List ℕ) (t : Test) → Fits fits (leaf.field key) leaf.plain → IsOperator (Fits fits) us key t → Reads us rest key t
  operator_reads us rest key test.Exists right h = presence_reads us rest key right signs.Exists test.Exists (λ all ls. refl) h
  operator_reads us rest key test.Absent right h = presence_reads us rest key right signs.NotExists test.Absent (λ all ls. refl) h
  operator_reads us rest key (test.Equal v) right h = value_reads us rest key right signs.Equal test.Equal v (λ k b all ls. refl) h
  operator_reads us rest key (test.Differs v) right h = value_reads us rest key right signs.Differs test.Differs v (λ k b all ls. refl) h
  operator_reads us rest key (test.Contains content) right h =
      compared_reads signs.Contains test.Contains (λ k before. text fits) (λ k b all ls. refl) us rest key (lex.quoted content) h.0 content h.1 (λ l is. text_reads l rest content is) right
  operator_reads us rest key (test.Found n) right h = match_reads us rest key right signs.Matches test.Found n (λ k b all ls. refl) h
  operator_reads us rest key (test.NotFound n) right h = match_reads us rest key right signs.NotMatches test.NotFound n (λ k b all ls. refl) h
  operator_reads us rest key (test.Below n) right h = order_reads us rest key right signs.Less test.Below n (λ k b all ls. refl) h
  operator_reads us rest key (test.AtMost n) right h = order_reads us rest key right signs.LessOrEqual test.AtMost n (λ k b all ls. refl) h
  operator_reads us rest key (test.Above n) right h = order_reads us rest key right signs.Greater test.Above n (λ k b all ls. refl) h
  operator_reads us rest key (test.AtLeast n) right h = order_reads us rest key right signs.GreaterOrEqual test.AtLeast n (λ k b all ls. refl) h
  operator_reads us rest key (test.Within n) right h =
      compared_reads signs.Within test.Within (λ k before. network fits k) (λ k b all ls. refl) us rest key (lex.quoted h.0) h.1 n h.2 (λ l is. network_reads key l rest h.0 n is h.3) right
  operator_reads us rest key (test.In vs) right h = in_reads us rest key right vs h (row_complete (literal fits key) (IsValueToken (Fits fits) key) (literal_complete key) (literal_some key))
  operator_reads us rest key (test.Before n) right h = moment_reads us rest key right signs.Before test.Before n (λ k b all ls. refl) h
  operator_reads us rest key (test.After n) right h = moment_reads us rest key right signs.After test.After n (λ k b all ls. refl) h

  -- each test is read
  pub tested_complete : Complete Anything (tested fits) (IsTest (Fits fits))
  tested_complete us rest c h _ =
      let (key, t, is, operated, right) = h in
      operator_reads us rest key t right operated ∙ ap (λ (x : Cond). Ok (x, rest)) (sym is)

  compared_some : (op : Sign) (us : List Lexeme) (key : List ℕ) (symbol : Symbol) (before : ℕ) → IsCompared op us key symbol before → 0 < length us
  compared_some op us key symbol before h = let e = ap length h.3 in omega arith

  symbols_some : (us : List Lexeme) (s t : Symbol) → symbols us ≡ s ∷ t ∷ [] → 0 < length us
  symbols_some [] s t e = absurd (cc)
  symbols_some (l ∷ ls) s t e = omega arith

  operator_some : (us : List Lexeme) (key : List ℕ) (t : Test) → IsOperator (Fits fits) us key t → 0 < length us
  operator_some us key test.Exists h = symbols_some us _ _ h
  operator_some us key test.Absent h = symbols_some us _ _ h
  operator_some us key (test.Equal v) h = compared_some _ us key _ _ h.2
  operator_some us key (test.Differs v) h = compared_some _ us key _ _ h.2
  operator_some us key (test.Contains v) h = compared_some _ us key _ _ h.1
  operator_some us key (test.Found v) h = compared_some _ us key _ _ h.1
  operator_some us key (test.NotFound v) h = compared_some _ us key _ _ h.1
  operator_some us key (test.Below v) h = compared_some _ us key _ _ h.2
  operator_some us key (test.AtMost v) h = compared_some _ us key _ _ h.2
  operator_some us key (test.Above v) h = compared_some _ us key _ _ h.2
  operator_some us key (test.AtLeast v) h = compared_some _ us key _ _ h.2
  operator_some us key (test.Within v) h = compared_some _ us key _ _ h.2
  operator_some us key (test.In v) h = let e = ap length h.3 in omega arith
  operator_some us key (test.Before v) h = compared_some _ us key _ _ h.2
  operator_some us key (test.After v) h = compared_some _ us key _ _ h.2

  pub test_some : Nonempty (IsTest (Fits fits))
  test_some us c h = operator_some us h.0 h.1 h.3
