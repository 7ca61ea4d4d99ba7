-- Tests, read with the words and literals that are right and with any.
use Rattle.std.proofs.Common.{◌≡◌, ℕ, ◌<◌, ◌≤◌, Bool, true, false, List, [], ◌∷◌, Option, Some, None, Err, refl, sym, ap, ◌∙◌, subst}
use Rattle.field_types.specs.declared.value.Value.TheVariants as value
use Rattle.sieve_tokens.specs.declared.sign.Sign.{Sign}
use Rattle.sieve_tokens.specs.declared.sign.Sign.TheVariants as signs
use Rattle.sieve_reader.specs.Grammar.{IsValueToken}
use Rattle.sieve_reader.specs.Leaf.{judged, Leaf, Reading}
use Rattle.sieve_reader.specs.Lexeme as lex
use Rattle.sieve_reader.specs.Lexeme.{amount_of, literal_of, Lexeme, Symbol}
use Rattle.sieve_reader.specs.Parse.{amount, field, literal, named, network, operand, operator, pattern, read_map, refusal, row, span, test_at, tested, text, Parser, Read}
use Rattle.sieve_reader.specs.Refusal as cause
use Rattle.sieve_reader.specs.Refusal.{head, is_pattern_op, nests, takes_value}
use Rattle.sieve_tree.specs.declared.tree.Cond.{Cond}
use Rattle.sieve_tree.specs.declared.tree.Cond.TheVariants as cond
use Rattle.sieve_tree.specs.declared.tree.Test.{Test}
use Rattle.sieve_tree.specs.declared.tree.Test.TheVariants as test
use Rattle.sieve_reader.proofs.Going.{alike, always, bind_runs, front, map_runs, unexpected_here, Any, Calm, Completes, Is, Ran, Runs}
use Rattle.sieve_reader.proofs.GoingRows.{row_runs, shrinks_of, Expects, Shrinks}
use Rattle.sieve_reader.proofs.GoingTokens.{amount_runs, every, field_runs, headed, lexeme, literal_ends, literal_runs, literal_starts, network_runs, no_head, pattern_runs, row_literal, span_runs, text_runs, Named, Same, Whatever}
use Rattle.sieve_reader.proofs.Tests.{literal_sound, Fits}
use Rattle.sieve_reader.proofs.TestsRead.{literal_some}
use Rattle.sieve_reader.proofs.Windows as window
use Rattle.sieve_reader.proofs.Windows.{leaf_at, order_told, right_leaf, step, value_told, State}

pub clash : false ≡ true → ⊥
clash e = absurd (cc)

-- a sign of no operator keeps the calm
pub calm_sign : (op : Sign) → window.operates op ≡ false → is_pattern_op op ≡ false → (s : State) → Calm s → Calm (step s (lex.sign op))
calm_sign op none plain window.other h = rw plain tt
calm_sign op none plain (window.named key) h = rw none tt
calm_sign op none plain (window.operated key o) h = absurd h
calm_sign op none plain (window.in_row key) h = absurd h
calm_sign op none plain window.pathed h = absurd h
calm_sign op none plain window.in_paths h = absurd h
calm_sign op none plain window.matched h = absurd h

-- and is no word and no literal
pub calm_right : (op : Sign) (s : State) → Calm s → right_leaf (leaf_at s (lex.sign op)) ≡ true
calm_right op window.other h = refl
calm_right op (window.named key) h = refl
calm_right op (window.operated key o) h = absurd h
calm_right op (window.in_row key) h = absurd h
calm_right op window.pathed h = absurd h
calm_right op window.in_paths h = absurd h
calm_right op window.matched h = absurd h

-- nothing is left
pub at_end : {B : Type 0} (q : Parser B) → Expects q → (r : List Lexeme) → head r ≡ None → q r ≡ Err (refusal cause.expected r)
at_end q expects r h = let is = no_head r h in subst (λ (m : List Lexeme). q m ≡ Err (refusal cause.expected m)) (sym is) expects

-- at the same token the reader refuses too
pub at_head : {B : Type 0} (q : Parser B) (l : Lexeme) → ((ls : List Lexeme) → q (l ∷ ls) ≡ Err (refusal cause.expected (l ∷ ls))) → (r : List Lexeme) → head r ≡ Some l → q r ≡ Err (refusal cause.expected r)
at_head q l refuses r h = let (behind, is) = headed r l h in subst (λ (m : List Lexeme). q m ≡ Err (refusal cause.expected m)) (sym is) (refuses behind)

-- and does the same
pub at_same : {B : Type 0} (q inner : Parser B) (l : Lexeme) → ((ls : List Lexeme) → q (l ∷ ls) ≡ inner (l ∷ ls)) → (r : List Lexeme) → head r ≡ Some l → q r ≡ inner r
at_same q inner l same r h = let (behind, is) = headed r l h in subst (λ (m : List Lexeme). q m ≡ inner m) (sym is) (same behind)

pub literal_expects : (fits : Leaf → Option Reading) (key : List ℕ) → Expects (literal fits key)
unfolding literal
literal_expects fits key = refl

pub literal_shrinks : (fits : Leaf → Option Reading) (key : List ℕ) → Shrinks (literal fits key)
literal_shrinks fits key = shrinks_of (literal fits key) (IsValueToken (Fits fits) key) (literal_sound fits key) (literal_some fits key)

module _ (d e : ℕ) (le : d ≤ e) where
  -- ---- behind a field

  module _ (key : List ℕ) (l : Lexeme) (ls : List Lexeme) where
    Operated : Read Test → Type 0
    Operated r = Ran false d e Any true (window.named key) (always Calm) (operator every key) (l ∷ ls) r

    of_other : (t : Test) (s : State) → Is window.other s → Calm s
    of_other t s is = subst Calm (sym is) tt

    case : {B : Type 0} (op : Sign) (make : B → Test) (p q : Parser B) → Runs false d e Any true (Is (window.operated key op)) (always (Is window.other)) p q → l.symbol ≡ lex.sign op
        → window.operates op ≡ true → nests (lex.sign op) ≡ false → ((all r : List Lexeme) → operand every key l.patterns all (lex.sign op) r ≡ read_map make (q r)) → Operated (read_map make (p ls))
    unfolding operator Operated
    case op make p q runs is operates plain same =
        let inner = map_runs d e le Any true (Is (window.operated key op)) (always (Is window.other)) Any (always Calm) p q make make runs (λ x y r. tt) (λ x s h. of_other (make x) s h) in
        let state : step (window.named key) l.symbol ≡ window.operated key op = ap (step (window.named key)) is ∙ rw operates refl in
        front false d e Any (window.named key) (always Calm) (operator every key) (λ r. read_map make (q r)) l ls
        (λ r. ap (λ s. operand every key l.patterns (l ∷ r) s r) is ∙ same (l ∷ r) r) (ap (λ s. right_leaf (leaf_at (window.named key) s)) is)
        (λ n. absurd (clash (sym plain ∙ (ap nests (sym is) ∙ n)))) true (read_map make (p ls)) (inner (step (window.named key) l.symbol) state ls)

    value_case : (op : Sign) → takes_value op ≡ true → Runs false d e Any true (Is (window.operated key op)) (always (Is window.other)) (literal judged key) (literal every key)
    value_case op takes =
        literal_runs d e key (window.operated key op) window.other (λ x some. value_told (window.operated key op) key x some (window.value_op key op x takes)) (λ x some. literal_ends key op x some)

    order_case : (op : Sign) → ((x : Symbol) → window.operand_leaf key op x ≡ window.order_leaf key x) → Runs false d e Any true (Is (window.operated key op)) (always (Is window.other)) (amount judged key) (amount every key)
    order_case op same = amount_runs d e key op (λ x some. order_told (window.operated key op) key x some (same x))

    row_case : Runs false d e Any true (Is (window.operated key signs.In)) (always (Is window.other)) (row (literal judged key)) (row (literal every key))
    row_case =
        row_runs d e le (window.operated key signs.In) (window.in_row key) window.other refl refl refl refl refl refl (literal judged key) (literal every key) (literal_shrinks judged key) (literal_expects judged key)
        (literal_shrinks every key) (literal_expects every key) (λ b. literal_starts b key)
        (literal_runs d e key (window.in_row key) (window.in_row key) (λ x some. value_told (window.in_row key) key x some refl) (λ x some. row_literal key x some))

    refused : (x : Symbol) → l.symbol ≡ x → ((all r : List Lexeme) → operand every key l.patterns all x r ≡ Err (refusal cause.expected all)) → (0 < e → Completes false (operator every key) [])
        → Operated (Err (refusal cause.expected (l ∷ ls)))
    unfolding operator Operated
    refused x is refuses starts =
        unexpected_here false d e (window.named key) (operator every key) (l ∷ ls)
        (at_head (operator every key) l (λ r. ap (λ s. operand every key l.patterns (l ∷ r) s r) is ∙ refuses (l ∷ r) r)) starts

    at : (x : Symbol) → l.symbol ≡ x → (0 < e → Completes false (operator every key) []) → Operated (operand judged key l.patterns (l ∷ ls) x ls)
    at (lex.sign signs.Equal) is starts = case signs.Equal test.Equal (literal judged key) (literal every key) (value_case signs.Equal refl) is refl refl (λ all r. refl)
    at (lex.sign signs.Differs) is starts = case signs.Differs test.Differs (literal judged key) (literal every key) (value_case signs.Differs refl) is refl refl (λ all r. refl)
    at (lex.sign signs.Contains) is starts = case signs.Contains test.Contains (text judged) (text every) (text_runs d e key) is refl refl (λ all r. refl)
    at (lex.sign signs.Matches) is starts = case signs.Matches test.Found (pattern judged l.patterns) (pattern every l.patterns) (pattern_runs d e key signs.Matches l.patterns (λ t. refl)) is refl refl (λ all r. refl)
    at (lex.sign signs.NotMatches) is starts = case signs.NotMatches test.NotFound (pattern judged l.patterns) (pattern every l.patterns) (pattern_runs d e key signs.NotMatches l.patterns (λ t. refl)) is refl refl (λ all r. refl)
    at (lex.sign signs.Less) is starts = case signs.Less test.Below (amount judged key) (amount every key) (order_case signs.Less (λ x. refl)) is refl refl (λ all r. refl)
    at (lex.sign signs.LessOrEqual) is starts = case signs.LessOrEqual test.AtMost (amount judged key) (amount every key) (order_case signs.LessOrEqual (λ x. refl)) is refl refl (λ all r. refl)
    at (lex.sign signs.Greater) is starts = case signs.Greater test.Above (amount judged key) (amount every key) (order_case signs.Greater (λ x. refl)) is refl refl (λ all r. refl)
    at (lex.sign signs.GreaterOrEqual) is starts = case signs.GreaterOrEqual test.AtLeast (amount judged key) (amount every key) (order_case signs.GreaterOrEqual (λ x. refl)) is refl refl (λ all r. refl)
    at (lex.sign signs.Within) is starts = case signs.Within test.Within (network judged key) (network every key) (network_runs d e key) is refl refl (λ all r. refl)
    at (lex.sign signs.In) is starts = case signs.In test.In (row (literal judged key)) (row (literal every key)) row_case is refl refl (λ all r. refl)
    at (lex.sign signs.Before) is starts = case signs.Before test.Before (span judged key) (span every key) (span_runs d e key signs.Before (λ t. refl)) is refl refl (λ all r. refl)
    at (lex.sign signs.After) is starts = case signs.After test.After (span judged key) (span every key) (span_runs d e key signs.After (λ t. refl)) is refl refl (λ all r. refl)
    at x is starts = refused x is (λ all r. refl) starts

  pub operator_starts : (b : Bool) (key : List ℕ) → Completes b (operator every key) []
  unfolding operator literal
  operator_starts b key = (lexeme (lex.sign signs.Equal) ∷ lexeme (lex.quoted []) ∷ [], test.Equal (value.Flag true), λ r tail. (refl, refl))

  operator_runs : (key : List ℕ) → Runs false d e Any true (Named key) (always Calm) (operator judged key) (operator every key)
  unfolding operator Operated
  operator_runs key s is [] = unexpected_here false d e s (operator every key) [] (at_end (operator every key) refl) (λ some. operator_starts false key)
  operator_runs key s is (l ∷ ls) =
      subst (λ t. Ran false d e Any true t (always Calm) (operator every key) (l ∷ ls) (operator judged key (l ∷ ls))) (sym is) (at key l ls l.symbol refl (λ some. operator_starts false key))

  -- ---- tests

  named_runs : Runs false d e Any true Calm (always Calm) (named judged) (named every)
  named_runs s calm =
      bind_runs false d e le Same true Whatever Named Any true (always Calm) (field judged) (field every) (λ p. read_map (cond.Test p.0) (operator judged p.0 p.1)) (λ p. read_map (cond.Test p.0) (operator every p.0 p.1))
      (field_runs d e)
      (λ x y same.
      subst (λ k. Runs false d e Any true (Named x) (always Calm) (λ r. read_map (cond.Test x) (operator judged x r)) (λ r. read_map (cond.Test k) (operator every k r))) same
      (map_runs d e le Any true (Named x) (always Calm) Any (always Calm) (operator judged x) (operator every x) (cond.Test x) (cond.Test x) (operator_runs x) (λ a b r. tt) (λ a t h. h)))
      (λ y some. let h = operator_starts false y in (h.0, cond.Test y h.1, λ r tail. let c = h.2 r tail in (c.0, ap (read_map (cond.Test y)) c.1))) s tt

  presence_runs : (t : Test) → Runs false d e Any true Calm (always Calm) (λ r. read_map (λ key. cond.Test key t) (field judged r)) (λ r. read_map (λ key. cond.Test key t) (field every r))
  presence_runs t s calm =
      map_runs d e le Same true Whatever Named Any (always Calm) (field judged) (field every) (λ key. cond.Test key t) (λ key. cond.Test key t) (field_runs d e) (λ x y r. tt) (λ x u is. subst Calm (sym is) tt) s tt

  pub tested_starts : (b : Bool) → Completes b (tested every) []
  unfolding tested field
  tested_starts b = (lexeme (lex.sign signs.Exists) ∷ lexeme (lex.name []) ∷ [], cond.Test [] test.Exists, λ r tail. (refl, refl))

  module _ (s : State) (calm : Calm s) (l : Lexeme) (ls : List Lexeme) where
    Asked : Read Cond → Type 0
    Asked r = Ran false d e Any true s (always Calm) (tested every) (l ∷ ls) r

    presence : (op : Sign) (t : Test) → window.operates op ≡ false → is_pattern_op op ≡ false → nests (lex.sign op) ≡ false → l.symbol ≡ lex.sign op
        → ((all r : List Lexeme) → test_at every all (lex.sign op) r ≡ read_map (λ key. cond.Test key t) (field every r)) → Asked (read_map (λ key. cond.Test key t) (field judged ls))
    unfolding tested Asked
    presence op t none no_pattern plain is same =
        front false d e Any s (always Calm) (tested every) (λ r. read_map (λ key. cond.Test key t) (field every r)) l ls
        (λ r. ap (λ x. test_at every (l ∷ r) x r) is ∙ same (l ∷ r) r) (ap (λ x. right_leaf (leaf_at s x)) is ∙ calm_right op s calm)
        (λ n. absurd (clash (sym plain ∙ (ap nests (sym is) ∙ n)))) true (read_map (λ key. cond.Test key t) (field judged ls))
        (presence_runs t (step s l.symbol) (subst (λ x. Calm (step s x)) (sym is) (calm_sign op none no_pattern s calm)) ls)

    plainly : (x : Symbol) → l.symbol ≡ x → ((all r : List Lexeme) → test_at every all x r ≡ named every all) → Asked (named judged (l ∷ ls))
    unfolding tested Asked
    plainly x is same =
        alike false d e Any s (always Calm) (tested every) (named every) (l ∷ ls) (at_same (tested every) (named every) l (λ r. ap (λ y. test_at every (l ∷ r) y r) is ∙ same (l ∷ r) r))
        (λ some. tested_starts false) (named judged (l ∷ ls)) (named_runs s calm (l ∷ ls))

    asked : (x : Symbol) → l.symbol ≡ x → Asked (test_at judged (l ∷ ls) x ls)
    asked (lex.sign signs.Exists) is = presence signs.Exists test.Exists refl refl refl is (λ all r. refl)
    asked (lex.sign signs.NotExists) is = presence signs.NotExists test.Absent refl refl refl is (λ all r. refl)
    asked x is = plainly x is (λ all r. refl)

  pub tested_runs : Runs false d e Any true Calm (always Calm) (tested judged) (tested every)
  unfolding tested Asked
  tested_runs s calm [] = unexpected_here false d e s (tested every) [] (at_end (tested every) refl) (λ some. tested_starts false)
  tested_runs s calm (l ∷ ls) = asked s calm l ls l.symbol refl
