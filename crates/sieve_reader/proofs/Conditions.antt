-- What is read as a condition is one, and each condition is read.
use Rattle.std.proofs.Common.{◌≡◌, ℕ, zero, suc, ◌≤◌, false, List, [], ◌∷◌, ◌++◌, length, Option, Ok, Err, refl, sym, ap, ◌∙◌, subst, inl, inr, arith, append_assoc, length-append}
use Rattle.sieve_tokens.specs.declared.sign.Sign.{Sign}
use Rattle.sieve_tokens.specs.declared.sign.Sign.TheVariants as signs
use Rattle.sieve_reader.specs.Grammar.{AreSeparated, IsBoth, IsCondOf, IsOne, IsTest}
use Rattle.sieve_reader.specs.Leaf.{Leaf, Reading}
use Rattle.sieve_reader.specs.Lexeme as lex
use Rattle.sieve_reader.specs.Lexeme.{symbols, Lexeme, Symbol}
use Rattle.sieve_reader.specs.Parse.{both, cond_of, field, grouped_of, is_sign, negated_of, one, one_at, one_by, sees, test_at, tested, too_deep, Parser, Read, Refusal, ◌>>=◌}
use Rattle.sieve_tree.specs.declared.tree.Cond.{Cond}
use Rattle.sieve_tree.specs.declared.tree.Cond.TheVariants as cond
use Rattle.sieve_reader.proofs.Picks.{bound, closed_is, closed_sound, mapped, tells_sign, Complete, Nonempty, Sound}
use Rattle.sieve_reader.proofs.Rows.{enough, separated_complete, separated_sound, Anything}
use Rattle.sieve_reader.proofs.Tests.{tested_sound, Fits}
use Rattle.sieve_reader.proofs.TestsRead.{test_some, tested_complete}

-- ---- what is read is a condition

module _ (fits : Leaf → Option Reading) (thing : Parser Cond) (Is : List Lexeme → Cond → Type 0) (sound : Sound thing Is) where
  pub both_sound : Sound (both thing) (IsBoth (Fits fits) Is)
  unfolding both
  both_sound ls rest c e =
      let (cs, row, is) = mapped cond.All _ c rest e in
      let (us, more, all, at, are) = separated_sound (is_sign signs.And) (lex.sign signs.And) (tells_sign signs.And) thing Is sound (length ls) [] ls cs rest row in
      (us, at, (cs, is, subst (AreSeparated (lex.sign signs.And) Is us) (sym all) are))

pub cond_of_sound : (fits : Leaf → Option Reading) (thing : Parser Cond) (Is : List Lexeme → Cond → Type 0) → Sound thing Is → Sound (cond_of thing) (IsCondOf (Fits fits) Is)
unfolding cond_of
cond_of_sound fits thing Is sound ls rest c e =
    let (cs, row, is) = mapped cond.Any _ c rest e in
    let (us, more, all, at, are) = separated_sound (is_sign signs.Or) (lex.sign signs.Or) (tells_sign signs.Or) (both thing) (IsBoth (Fits fits) Is) (both_sound fits thing Is sound) (length ls) [] ls cs rest row in
    (us, at, (cs, is, subst (AreSeparated (lex.sign signs.Or) (IsBoth (Fits fits) Is) us) (sym all) are))

module _ (fits : Leaf → Option Reading) where
  abbrev One : ℕ → List Lexeme → List Lexeme → Cond → Type 0
  One d ls rest c = (us : List Lexeme) × (ls ≡ us ++ rest) × IsOne (Fits fits) d us c

  tested_one : (d : ℕ) (ls rest : List Lexeme) (c : Cond) → tested fits ls ≡ Ok (c, rest) → One d ls rest c
  unfolding IsOne
  tested_one zero ls rest c e = tested_sound fits ls rest c e
  tested_one (suc d) ls rest c e = let (us, at, is) = tested_sound fits ls rest c e in (us, at, inl is)

  at_zero : (l : Lexeme) (ls rest : List Lexeme) (c : Cond) (symbol : Symbol) → one_at fits too_deep too_deep (l ∷ ls) symbol ≡ Ok (c, rest) → One zero (l ∷ ls) rest c
  at_zero l ls rest c (lex.sign signs.Not) e = absurd (cc)
  at_zero l ls rest c (lex.sign signs.OpenParen) e = absurd (cc)
  at_zero l ls rest c symbol e = tested_one zero (l ∷ ls) rest c e

  module _ (d : ℕ) (sound : Sound (one fits d) (IsOne (Fits fits) d)) where
    negated_one : (l : Lexeme) (ls rest : List Lexeme) (c : Cond) → l.symbol ≡ lex.sign signs.Not → negated_of (one fits d) (l ∷ ls) ≡ Ok (c, rest) → One (suc d) (l ∷ ls) rest c
    unfolding negated_of IsOne
    negated_one l ls rest c is e =
        let (o, read, same) = mapped cond.Not (one fits d ls) c rest e in
        let (us, at, inner) = sound ls rest o read in
        (l ∷ us, ap (λ (m : List Lexeme). l ∷ m) at, inr (inl (l, us, o, refl, is, same, inner)))

    grouped_one : (l : Lexeme) (ls rest : List Lexeme) (c : Cond) → l.symbol ≡ lex.sign signs.OpenParen → grouped_of (one fits d) (l ∷ ls) ≡ Ok (c, rest) → One (suc d) (l ∷ ls) rest c
    unfolding grouped_of IsOne
    grouped_one l ls rest c is e =
        let (p, read, closes) = bound (cond_of (one fits d) ls) _ (c, rest) e in
        let (us, at, inner) = cond_of_sound fits (one fits d) (IsOne (Fits fits) d) sound ls p.1 p.0 read in
        let (last, end, ends, same) = closed_sound signs.CloseParen p.0 c p.1 rest closes in
        let all : l ∷ ls ≡ (l ∷ (us ++ last ∷ [])) ++ rest =
        ap (λ (m : List Lexeme). l ∷ m) (at ∙ (ap (λ (m : List Lexeme). us ++ m) end ∙ sym (append_assoc us (last ∷ []) rest))) in
        (l ∷ (us ++ last ∷ []), all, inr (inr (l, us, last, refl, is, ends, subst (IsCondOf (Fits fits) (IsOne (Fits fits) d) us) (sym same) inner)))

    at_suc : (l : Lexeme) (ls rest : List Lexeme) (c : Cond) (symbol : Symbol) → l.symbol ≡ symbol
        → one_at fits (negated_of (one fits d)) (grouped_of (one fits d)) (l ∷ ls) symbol ≡ Ok (c, rest) → One (suc d) (l ∷ ls) rest c
    at_suc l ls rest c (lex.sign signs.Not) is e = negated_one l ls rest c is e
    at_suc l ls rest c (lex.sign signs.OpenParen) is e = grouped_one l ls rest c is e
    at_suc l ls rest c symbol is e = tested_one (suc d) (l ∷ ls) rest c e

  pub one_sound : (d : ℕ) → Sound (one fits d) (IsOne (Fits fits) d)
  unfolding one
  one_sound zero [] rest c e = absurd (cc)
  one_sound zero (l ∷ ls) rest c e = at_zero l ls rest c l.symbol e
  one_sound (suc d) [] rest c e = absurd (cc)
  one_sound (suc d) (l ∷ ls) rest c e = at_suc d (one_sound d) l ls rest c l.symbol refl e

  -- what is read as a condition is one
  pub cond_sound : (d : ℕ) → Sound (cond_of (one fits d)) (IsCondOf (Fits fits) (IsOne (Fits fits) d))
  cond_sound d = cond_of_sound fits (one fits d) (IsOne (Fits fits) d) (one_sound d)

-- ---- each condition is read

-- no `&&` follows; nor `||`
abbrev pub NoAnd : List Lexeme → Type 0
NoAnd ls = sees (is_sign signs.And) ls ≡ false

abbrev pub NeitherSign : List Lexeme → Type 0
NeitherSign ls = (sees (is_sign signs.And) ls ≡ false) × (sees (is_sign signs.Or) ls ≡ false)

or_is_no_and : (l : Lexeme) (ls : List Lexeme) → l.symbol ≡ lex.sign signs.Or → NoAnd (l ∷ ls)
or_is_no_and l ls is = rw is refl

module _ (fits : Leaf → Option Reading) (thing : Parser Cond) (Is : List Lexeme → Cond → Type 0) (complete : Complete Anything thing Is) (some : Nonempty Is) where
  pub both_complete : Complete NoAnd (both thing) (IsBoth (Fits fits) Is)
  unfolding both
  both_complete us rest c h follows =
      let (cs, same, row) = h in
      let long = enough (is_sign signs.And) (lex.sign signs.And) (tells_sign signs.And) Anything (λ l ls is. tt) thing Is complete some us cs row in
      let room : length cs ≤ length (us ++ rest) = omega (arith, long.1, length-append us rest) in
      rw (separated_complete (is_sign signs.And) (lex.sign signs.And) (tells_sign signs.And) Anything (λ l ls is. tt) thing Is complete some (length (us ++ rest)) [] us rest cs row room tt follows) (ap (λ (x : Cond). Ok (x, rest)) (sym same))

  pub both_some : Nonempty (IsBoth (Fits fits) Is)
  both_some us c h = (enough (is_sign signs.And) (lex.sign signs.And) (tells_sign signs.And) Anything (λ l ls is. tt) thing Is complete some us h.0 h.2).0

  cond_of_complete : Complete NeitherSign (cond_of thing) (IsCondOf (Fits fits) Is)
  unfolding cond_of
  cond_of_complete us rest c h follows =
      let (cs, same, row) = h in
      let long = enough (is_sign signs.Or) (lex.sign signs.Or) (tells_sign signs.Or) NoAnd or_is_no_and (both thing) (IsBoth (Fits fits) Is) both_complete both_some us cs row in
      let room : length cs ≤ length (us ++ rest) = omega (arith, long.1, length-append us rest) in
      rw (separated_complete (is_sign signs.Or) (lex.sign signs.Or) (tells_sign signs.Or) NoAnd or_is_no_and (both thing) (IsBoth (Fits fits) Is) both_complete both_some (length (us ++ rest)) [] us rest cs row room follows.0 follows.1)
      (ap (λ (x : Cond). Ok (x, rest)) (sym same))

  pub cond_of_some : Nonempty (IsCondOf (Fits fits) Is)
  cond_of_some us c h = (enough (is_sign signs.Or) (lex.sign signs.Or) (tells_sign signs.Or) NoAnd or_is_no_and (both thing) (IsBoth (Fits fits) Is) both_complete both_some us h.0 h.2).0

module _ (fits : Leaf → Option Reading) where
  pub one_some : (d : ℕ) → Nonempty (IsOne (Fits fits) d)
  unfolding IsOne
  one_some zero us c h = test_some fits us c h
  one_some (suc d) us c h = elim h [
    | inl t ↦ test_some fits us c t
    | inr m ↦ elim m [ inl n ↦ let e = ap length n.3 in omega arith | inr g ↦ let e = ap length g.3 in omega arith ]
  ]

  -- a field doesn't begin with a sign
  no_field : (l : Lexeme) (ls : List Lexeme) (s : Sign) (f : List ℕ × List Lexeme → Read Cond) (y : Cond × List Lexeme) → l.symbol ≡ lex.sign s → (field fits (l ∷ ls) >>= f) ≡ Ok y → ⊥
  unfolding field
  no_field l ls s f y is e = refused (rw is at e)
    where
      refused : {r : Refusal} → ◌≡◌ {A = Read Cond} (Err r) (Ok y) → ⊥
      refused e = absurd (cc)

  -- a test doesn't begin with a sign that nests
  no_test : (negated grouped : Parser Cond) (us rest : List Lexeme) (c : Cond) → IsTest (Fits fits) us c → one_by fits negated grouped (us ++ rest) ≡ Ok (c, rest)
  unfolding tested
  no_test negated grouped us rest c h = by (us ++ rest) (tested_complete fits us rest c h tt)
    where
      at : (l : Lexeme) (ls : List Lexeme) (symbol : Symbol) → l.symbol ≡ symbol → test_at fits (l ∷ ls) symbol ls ≡ Ok (c, rest) → tested fits (l ∷ ls) ≡ Ok (c, rest) → one_at fits negated grouped (l ∷ ls) symbol ≡ Ok (c, rest)
      at l ls (lex.sign signs.Not) is first e = absurd (no_field l ls signs.Not _ (c, rest) is first)
      at l ls (lex.sign signs.OpenParen) is first e = absurd (no_field l ls signs.OpenParen _ (c, rest) is first)
      at l ls symbol is first e = e

      by : (ls : List Lexeme) → tested fits ls ≡ Ok (c, rest) → one_by fits negated grouped ls ≡ Ok (c, rest)
      by [] e = absurd (cc)
      by (l ∷ ls) e = at l ls l.symbol refl e e

  pub one_complete : (d : ℕ) → Complete Anything (one fits d) (IsOne (Fits fits) d)
  unfolding one IsOne negated_of grouped_of
  one_complete zero us rest c h _ = no_test too_deep too_deep us rest c h
  one_complete (suc d) us rest c h _ = elim h [
    | inl t ↦ no_test (negated_of (one fits d)) (grouped_of (one fits d)) us rest c t
    | inr m ↦ elim m [
      | inl n ↦
          let (first, vs, o, at, sign, same, inner) = n in
          rw (at, sign, one_complete d vs rest o inner tt) (ap (λ (x : Cond). Ok (x, rest)) (sym same))
      | inr g ↦
          let (first, vs, last, at, opens, closes, inner) = g in
          let all : us ++ rest ≡ first ∷ (vs ++ (last ∷ rest)) = ap (λ (m : List Lexeme). m ++ rest) at ∙ ap (λ (m : List Lexeme). first ∷ m) (append_assoc vs (last ∷ []) rest) in
          let follows : NeitherSign (last ∷ rest) = (rw closes refl, rw closes refl) in
          rw (all, opens, cond_of_complete fits (one fits d) (IsOne (Fits fits) d) (one_complete d) (one_some d) vs (last ∷ rest) c inner follows) (closed_is signs.CloseParen c last rest closes)
    ]
  ]

  -- each condition is read
  pub cond_complete : (d : ℕ) → Complete NeitherSign (cond_of (one fits d)) (IsCondOf (Fits fits) (IsOne (Fits fits) d))
  cond_complete d = cond_of_complete fits (one fits d) (IsOne (Fits fits) d) (one_complete d) (one_some d)

  pub cond_some : (d : ℕ) → Nonempty (IsCondOf (Fits fits) (IsOne (Fits fits) d))
  cond_some d = cond_of_some fits (one fits d) (IsOne (Fits fits) d) (one_complete d) (one_some d)
