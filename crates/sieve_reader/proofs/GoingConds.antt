-- Conditions, read with the words and literals that are right and with any.
use Rattle.std.proofs.Common.{◌≡◌, ℕ, zero, suc, ◌<◌, ◌≤◌, Bool, true, false, List, [], ◌∷◌, ◌++◌, Option, Some, Err, refl, sym, ap, ◌∙◌, subst, arith}
use Rattle.sieve_tokens.specs.declared.sign.Sign.TheVariants as signs
use Rattle.sieve_reader.specs.Grammar.{IsBoth, IsCondOf, IsOne}
use Rattle.sieve_reader.specs.Leaf.{judged, Leaf, Reading}
use Rattle.sieve_reader.specs.Lexeme as lex
use Rattle.sieve_reader.specs.Lexeme.{Lexeme, Symbol}
use Rattle.sieve_reader.specs.Parse.{both, closed, cond_of, condition, field, grouped_of, is_sign, negated_of, one, one_at, read_map, refusal, separated, tested, too_deep, Parser, ◌>>=◌}
use Rattle.sieve_reader.specs.Refusal as cause
use Rattle.sieve_reader.specs.Refusal.{head, nests}
use Rattle.sieve_tree.specs.declared.tree.Cond.{Cond}
use Rattle.sieve_tree.specs.declared.tree.Cond.TheVariants as cond
use Rattle.sieve_tree.specs.declared.tree.Test.TheVariants as test
use Rattle.sieve_reader.proofs.Conditions.{both_some, both_sound, cond_of_some, cond_of_sound, one_complete, one_some, one_sound}
use Rattle.sieve_reader.proofs.Going.{alike, always, bind_runs, bound_completes, deep_here, front, lifted, map_runs, tail_still, unexpected_here, Any, Calm, Completes, Ran, Runs}
use Rattle.sieve_reader.proofs.GoingRows.{sees_none, sep, sep_runs, shrinks_of, Expects, Shrinks}
use Rattle.sieve_reader.proofs.GoingTests.{at_end, at_same, calm_right, calm_sign, tested_runs}
use Rattle.sieve_reader.proofs.GoingTokens.{closed_runs, closed_starts, every, headed, lexeme}
use Rattle.sieve_reader.proofs.Picks.{tells_sign}
use Rattle.sieve_reader.proofs.Tests.{Fits}
use Rattle.sieve_reader.proofs.Windows.{leaf_at, right_leaf, step, State}

-- ---- that they are made of tokens

module _ (fits : Leaf → Option Reading) where
  pub one_expects : (d : ℕ) → Expects (one fits d)
  unfolding one
  one_expects zero = refl
  one_expects (suc d) = refl

  one_shrinks : (d : ℕ) → Shrinks (one fits d)
  one_shrinks d = shrinks_of (one fits d) (IsOne (Fits fits) d) (one_sound fits d) (one_some fits d)

  both_expects : (thing : Parser Cond) → Expects (both thing)
  unfolding both separated
  both_expects thing = refl

  both_shrinks : (d : ℕ) → Shrinks (both (one fits d))
  both_shrinks d =
      shrinks_of (both (one fits d)) (IsBoth (Fits fits) (IsOne (Fits fits) d)) (both_sound fits (one fits d) (IsOne (Fits fits) d) (one_sound fits d))
      (both_some fits (one fits d) (IsOne (Fits fits) d) (one_complete fits d) (one_some fits d))

  pub cond_expects : (thing : Parser Cond) → Expects (cond_of thing)
  unfolding cond_of separated
  cond_expects thing = refl

  pub cond_shrinks : (d : ℕ) → Shrinks (condition fits d)
  cond_shrinks d =
      shrinks_of (cond_of (one fits d)) (IsCondOf (Fits fits) (IsOne (Fits fits) d)) (cond_of_sound fits (one fits d) (IsOne (Fits fits) d) (one_sound fits d))
      (cond_of_some fits (one fits d) (IsOne (Fits fits) d) (one_complete fits d) (one_some fits d))

-- ---- how they begin

-- a test that a field is there
abbrev presence : List Lexeme
presence = lexeme (lex.sign signs.Exists) ∷ lexeme (lex.name []) ∷ []

one_starts : (b : Bool) (e : ℕ) → Completes b (one every e) []
unfolding one tested field
one_starts b zero = (presence, cond.Test [] test.Exists, λ r tail. (refl, refl))
one_starts b (suc e) = (presence, cond.Test [] test.Exists, λ r tail. (refl, refl))

both_starts : (e : ℕ) → Completes false (both (one every e)) []
unfolding both separated one tested field
both_starts zero =
    (presence, cond.All (cond.Test [] test.Exists ∷ []), λ r still. (refl, rw (sees_none (is_sign signs.And) (lex.sign signs.And) (tells_sign signs.And) refl r still) refl))
both_starts (suc e) =
    (presence, cond.All (cond.Test [] test.Exists ∷ []), λ r still. (refl, rw (sees_none (is_sign signs.And) (lex.sign signs.And) (tells_sign signs.And) refl r still) refl))

pub cond_starts : (b : Bool) (e : ℕ) → Completes b (condition every e) []
unfolding cond_of both separated one tested field
cond_starts b zero = (
  presence,
  cond.Any (cond.All (cond.Test [] test.Exists ∷ []) ∷ []),
  λ r tail.
      (refl, rw (sees_none (is_sign signs.And) (lex.sign signs.And) (tells_sign signs.And) refl r (tail_still b r tail), sees_none (is_sign signs.Or) (lex.sign signs.Or) (tells_sign signs.Or) refl r (tail_still b r tail)) refl),
)
cond_starts b (suc e) = (
  presence,
  cond.Any (cond.All (cond.Test [] test.Exists ∷ []) ∷ []),
  λ r tail.
      (refl, rw (sees_none (is_sign signs.And) (lex.sign signs.And) (tells_sign signs.And) refl r (tail_still b r tail), sees_none (is_sign signs.Or) (lex.sign signs.Or) (tells_sign signs.Or) refl r (tail_still b r tail)) refl),
)

-- ---- rows of them

module _ (d e : ℕ) (le : d ≤ e) (levels : ℕ) (more : ℕ) (runs : Runs false d e Any true Calm (always Calm) (one judged levels) (one every more)) where
  both_runs : Runs false d e Any true Calm (always Calm) (both (one judged levels)) (both (one every more))
  unfolding both
  both_runs =
      map_runs d e le Any true Calm (always Calm) Any (always Calm) (sep (is_sign signs.And) (one judged levels) []) (sep (is_sign signs.And) (one every more) []) cond.All cond.All
      (sep_runs d e le (is_sign signs.And) (lex.sign signs.And) (tells_sign signs.And) refl refl Calm (calm_right signs.And) (calm_sign signs.And refl refl) (one judged levels) (one every more) (one_shrinks judged levels)
      (one_expects judged levels) (one_shrinks every more) (one_expects every more) (λ some. one_starts false more) runs)
      (λ x y r. tt) (λ x s h. h)

  pub cond_of_runs : Runs false d e Any true Calm (always Calm) (condition judged levels) (condition every more)
  unfolding cond_of
  cond_of_runs =
      map_runs d e le Any true Calm (always Calm) Any (always Calm) (sep (is_sign signs.Or) (both (one judged levels)) []) (sep (is_sign signs.Or) (both (one every more)) []) cond.Any cond.Any
      (sep_runs d e le (is_sign signs.Or) (lex.sign signs.Or) (tells_sign signs.Or) refl refl Calm (calm_right signs.Or) (calm_sign signs.Or refl refl) (both (one judged levels)) (both (one every more))
      (both_shrinks judged levels) (both_expects judged (one judged levels)) (both_shrinks every more) (both_expects every (one every more)) (λ some. both_starts more) both_runs)
      (λ x y r. tt) (λ x s h. h)

-- ---- signs that nest

-- the parentheses and what is in them, behind the first
abbrev inside : (Leaf → Option Reading) → ℕ → Parser Cond
inside fits d r = condition fits d r >>= λ p. closed signs.CloseParen p.0 p.1

inside_starts : (e : ℕ) → Completes false (inside every e) []
inside_starts e =
    bound_completes false 0 1 (omega arith) (condition every e) (λ p. closed signs.CloseParen p.0 p.1) (λ y some. closed_starts false signs.CloseParen y refl) [] (omega arith) (cond_starts false e)

module _ (e : ℕ) (l : Lexeme) where
  is_negated : l.symbol ≡ lex.sign signs.Not → (r : List Lexeme) → one every (suc e) (l ∷ r) ≡ read_map cond.Not (one every e r)
  unfolding one negated_of
  is_negated is r = ap (one_at every (negated_of (one every e)) (grouped_of (one every e)) (l ∷ r)) is

  is_grouped : l.symbol ≡ lex.sign signs.OpenParen → (r : List Lexeme) → one every (suc e) (l ∷ r) ≡ inside every e r
  unfolding one grouped_of
  is_grouped is r = ap (one_at every (negated_of (one every e)) (grouped_of (one every e)) (l ∷ r)) is

  negated_completes : l.symbol ≡ lex.sign signs.Not → Completes false (one every (suc e)) (l ∷ [])
  negated_completes is =
      let (more, y, reads) = one_starts false e in
      (more, cond.Not y, λ r tail. (tt, is_negated is (more ++ r) ∙ ap (read_map cond.Not) (reads r tail).1))

  grouped_completes : l.symbol ≡ lex.sign signs.OpenParen → Completes false (one every (suc e)) (l ∷ [])
  grouped_completes is =
      let (more, y, reads) = inside_starts e in
      (more, y, λ r tail. (tt, is_grouped is (more ++ r) ∙ (reads r tail).1))

-- with no level left
too_deep_stays : (e : ℕ) (l : Lexeme) → ((r : List Lexeme) → one every 0 (l ∷ r) ≡ Err (refusal cause.deep (l ∷ r))) → e ≡ 0 → (r : List Lexeme) → head r ≡ Some l → one every e r ≡ Err (refusal cause.deep r)
too_deep_stays zero l refuses none r h = let (behind, is) = headed r l h in subst (λ (m : List Lexeme). one every 0 m ≡ Err (refusal cause.deep m)) (sym is) (refuses behind)
too_deep_stays (suc e) l refuses none r h = absurd (omega (arith, none))

not_refused : (l : Lexeme) → l.symbol ≡ lex.sign signs.Not → (r : List Lexeme) → one every 0 (l ∷ r) ≡ Err (refusal cause.deep (l ∷ r))
unfolding one
not_refused l is r = ap (one_at every too_deep too_deep (l ∷ r)) is

group_refused : (l : Lexeme) → l.symbol ≡ lex.sign signs.OpenParen → (r : List Lexeme) → one every 0 (l ∷ r) ≡ Err (refusal cause.deep (l ∷ r))
unfolding one
group_refused l is r = ap (one_at every too_deep too_deep (l ∷ r)) is

not_completed : (e : ℕ) (l : Lexeme) → l.symbol ≡ lex.sign signs.Not → 0 < e → Completes false (one every e) (l ∷ [])
not_completed zero l is some = absurd (omega arith)
not_completed (suc e) l is some = negated_completes e l is

group_completed : (e : ℕ) (l : Lexeme) → l.symbol ≡ lex.sign signs.OpenParen → 0 < e → Completes false (one every e) (l ∷ [])
group_completed zero l is some = absurd (omega arith)
group_completed (suc e) l is some = grouped_completes e l is

-- a test, at any number of levels
one_tested : (d e : ℕ) (le : d ≤ e) (s : State) → Calm s → (l : Lexeme) (ls : List Lexeme) → ((r : List Lexeme) → one every e (l ∷ r) ≡ tested every (l ∷ r)) → Ran false d e Any true s (always Calm) (one every e) (l ∷ ls) (tested judged (l ∷ ls))
one_tested d e le s calm l ls same =
    alike false d e Any s (always Calm) (one every e) (tested every) (l ∷ ls) (at_same (one every e) (tested every) l same) (λ some. one_starts false e) (tested judged (l ∷ ls))
    (tested_runs d e le s calm (l ∷ ls))

-- the symbol is neither sign
is_tested : (e : ℕ) (l : Lexeme) (x : Symbol) → l.symbol ≡ x → ((negated grouped : Parser Cond) (all : List Lexeme) → one_at every negated grouped all x ≡ tested every all) → (r : List Lexeme) → one every e (l ∷ r) ≡ tested every (l ∷ r)
unfolding one
is_tested zero l x is same r = ap (one_at every too_deep too_deep (l ∷ r)) is ∙ same too_deep too_deep (l ∷ r)
is_tested (suc e) l x is same r = ap (one_at every (negated_of (one every e)) (grouped_of (one every e)) (l ∷ r)) is ∙ same (negated_of (one every e)) (grouped_of (one every e)) (l ∷ r)

at_zero : (e : ℕ) (s : State) → Calm s → (l : Lexeme) (ls : List Lexeme) (x : Symbol) → l.symbol ≡ x → Ran false 0 e Any true s (always Calm) (one every e) (l ∷ ls) (one_at judged too_deep too_deep (l ∷ ls) x)
at_zero e s calm l ls (lex.sign signs.Not) is =
    deep_here false 0 e s (one every e) l ls (ap nests is) (too_deep_stays e l (not_refused l is)) (not_completed e l is)
at_zero e s calm l ls (lex.sign signs.OpenParen) is =
    deep_here false 0 e s (one every e) l ls (ap nests is) (too_deep_stays e l (group_refused l is)) (group_completed e l is)
at_zero e s calm l ls x is = one_tested 0 e (omega arith) s calm l ls (is_tested e l x is (λ negated grouped all. refl))

module _ (d e : ℕ) (le : d ≤ e) (runs : Runs false d e Any true Calm (always Calm) (one judged d) (one every e)) where
  inside_runs : Runs false d e Any true Calm (always Calm) (inside judged d) (inside every e)
  inside_runs =
      bind_runs false d e le Any true Calm (always Calm) Any true (always Calm) (condition judged d) (condition every e) (λ p. closed signs.CloseParen p.0 p.1) (λ p. closed signs.CloseParen p.0 p.1)
      (cond_of_runs d e le d e runs) (λ x y rel. closed_runs d e signs.CloseParen Calm Calm refl refl (calm_right signs.CloseParen) (calm_sign signs.CloseParen refl refl) le x y) (λ y some. closed_starts false signs.CloseParen y refl)

  negated_runs : Runs false d e Any true Calm (always Calm) (λ r. read_map cond.Not (one judged d r)) (λ r. read_map cond.Not (one every e r))
  negated_runs = map_runs d e le Any true Calm (always Calm) Any (always Calm) (one judged d) (one every e) cond.Not cond.Not runs (λ x y r. tt) (λ x s h. h)

  at_suc : (s : State) → Calm s → (l : Lexeme) (ls : List Lexeme) (x : Symbol) → l.symbol ≡ x
      → Ran false (suc d) (suc e) Any true s (always Calm) (one every (suc e)) (l ∷ ls) (one_at judged (negated_of (one judged d)) (grouped_of (one judged d)) (l ∷ ls) x)
  unfolding negated_of grouped_of
  at_suc s calm l ls (lex.sign signs.Not) is =
      front false (suc d) (suc e) Any s (always Calm) (one every (suc e)) (λ r. read_map cond.Not (one every e r)) l ls (is_negated e l is) (ap (λ x. right_leaf (leaf_at s x)) is ∙ calm_right signs.Not s calm)
      (λ n. (omega arith, negated_completes e l is)) true (read_map cond.Not (one judged d ls))
      (lifted false d e Any true (step s l.symbol) (always Calm) (λ r. read_map cond.Not (one every e r)) ls (read_map cond.Not (one judged d ls))
      (negated_runs (step s l.symbol) (subst (λ x. Calm (step s x)) (sym is) (calm_sign signs.Not refl refl s calm)) ls))
  at_suc s calm l ls (lex.sign signs.OpenParen) is =
      front false (suc d) (suc e) Any s (always Calm) (one every (suc e)) (inside every e) l ls (is_grouped e l is) (ap (λ x. right_leaf (leaf_at s x)) is ∙ calm_right signs.OpenParen s calm)
      (λ n. (omega arith, grouped_completes e l is)) true (inside judged d ls)
      (lifted false d e Any true (step s l.symbol) (always Calm) (inside every e) ls (inside judged d ls)
      (inside_runs (step s l.symbol) (subst (λ x. Calm (step s x)) (sym is) (calm_sign signs.OpenParen refl refl s calm)) ls))
  at_suc s calm l ls x is = one_tested (suc d) (suc e) (omega (arith, le)) s calm l ls (is_tested (suc e) l x is (λ negated grouped all. refl))

one_runs : (d e : ℕ) → d ≤ e → Runs false d e Any true Calm (always Calm) (one judged d) (one every e)
unfolding one
one_runs zero e le s calm [] = unexpected_here false 0 e s (one every e) [] (at_end (one every e) (one_expects every e)) (λ some. one_starts false e)
one_runs zero e le s calm (l ∷ ls) = at_zero e s calm l ls l.symbol refl
one_runs (suc d) zero le s calm ts = absurd (omega (arith, le))
one_runs (suc d) (suc e) le s calm [] = unexpected_here false (suc d) (suc e) s (one every (suc e)) [] (at_end (one every (suc e)) (one_expects every (suc e))) (λ some. one_starts false (suc e))
one_runs (suc d) (suc e) le s calm (l ∷ ls) = at_suc d e (omega (arith, le)) (one_runs d e (omega (arith, le))) s calm l ls l.symbol refl

-- conditions
pub cond_runs : (d e : ℕ) → d ≤ e → Runs false d e Any true Calm (always Calm) (condition judged d) (condition every e)
cond_runs d e le = cond_of_runs d e le d e (one_runs d e le)
