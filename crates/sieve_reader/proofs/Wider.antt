-- A text of the grammar is one with any words and literals, and with more levels.
use Rattle.std.proofs.Common.{◌≡◌, ℕ, zero, suc, ◌≤◌, List, [], ◌∷◌, ◌++◌, refl, inl, inr, arith}
use Rattle.field_types.specs.declared.value.Value.{Value}
use Rattle.scalar_net.specs.declared.network.Network.{Network}
use Rattle.sieve_tokens.specs.declared.sign.Sign.TheVariants as signs
use Rattle.sieve_tokens.specs.declared.word.Keyword.TheVariants as words
use Rattle.sieve_reader.specs.Grammar.{AreItems, AreSeparated, AreTexts, IsAction, IsBlock, IsBoth, IsCase, IsChoice, IsCond, IsCondOf, IsElse, IsFile, IsItem, IsOne, IsOperator, IsPathName, IsSource, IsTest, IsValue, IsValueToken}
use Rattle.sieve_reader.specs.Leaf as leaf
use Rattle.sieve_reader.specs.Leaf.{Leaf, Reading}
use Rattle.sieve_reader.specs.Lexeme as lex
use Rattle.sieve_reader.specs.Lexeme.{Lexeme, Symbol}
use Rattle.sieve_tree.specs.declared.tree.Cond.{Cond}
use Rattle.sieve_tree.specs.declared.tree.Cond.TheVariants as cond
use Rattle.sieve_tree.specs.declared.tree.PutSource.{PutSource}
use Rattle.sieve_tree.specs.declared.tree.PutSource.TheVariants as source
use Rattle.sieve_tree.specs.declared.tree.SieveItem.{SieveItem}
use Rattle.sieve_tree.specs.declared.tree.SieveItem.TheVariants as item
use Rattle.sieve_tree.specs.declared.tree.Test.{Test}
use Rattle.sieve_tree.specs.declared.tree.Test.TheVariants as test

-- every word and literal fits, with some reading of its sort
pub record TakesAll (G : Leaf → Reading → Type 0) : Type 0 where
  pub field : (key : List ℕ) → G (leaf.field key) leaf.plain
  pub value : (key : List ℕ) (literal : Symbol) → (v : Value) × G (leaf.value key literal) (leaf.cleaned v)
  pub order : (key : List ℕ) → G (leaf.order key) leaf.plain
  pub network : (key text : List ℕ) → (n : Network) × G (leaf.network key text) (leaf.net n)
  pub span : (key text : List ℕ) → (n : ℕ) × G (leaf.span key text) (leaf.seconds n)
  pub pattern : (text : List ℕ) → G (leaf.pattern text) leaf.plain
  pub path : (text : List ℕ) → G (leaf.path text) leaf.plain

-- each such thing is also one of the others
abbrev pub Also : {A B : Type 0} → (List Lexeme → A → Type 0) → (List Lexeme → B → Type 0) → Type 0
Also {A} {B} I J = (us : List Lexeme) (x : A) → I us x → (y : B) × J us y

put_first : {B : Type 0} (s : Symbol) (J : List Lexeme → B → Type 0) (us vs ws : List Lexeme) (l : Lexeme) (y : B) (ys : List B) → us ≡ vs ++ l ∷ ws → l.symbol ≡ s → J vs y → AreSeparated s J ws ys
    → (all : List B) × AreSeparated s J us all
put_first s J us vs ws l y [] at symbol j others = absurd others
put_first s J us vs ws l y (o ∷ os) at symbol j others = (y ∷ o ∷ os, (vs, l, ws, at, symbol, j, others))

rows : {A B : Type 0} (s : Symbol) (I : List Lexeme → A → Type 0) (J : List Lexeme → B → Type 0) → Also I J → Also (AreSeparated s I) (AreSeparated s J)
rows s I J also us [] row = absurd row
rows s I J also us (x ∷ []) row = let (y, j) = also us x row in (y ∷ [], j)
rows s I J also us (x ∷ z ∷ zs) row =
    let (vs, l, ws, at, symbol, i, more) = row in
    let (y, j) = also vs x i in
    let (ys, others) = rows s I J also ws (z ∷ zs) more in
    put_first s J us vs ws l y ys at symbol j others

behind : {A B : Type 0} (I : List Lexeme → A → Type 0) (J : List Lexeme → B → Type 0) → Also I J → Also (AreItems I) (AreItems J)
behind I J also us [] are = ([], are)
behind I J also us (x ∷ xs) are =
    let (vs, ws, at, i, more) = are in
    let (y, j) = also vs x i in
    let (ys, others) = behind I J also ws xs more in
    (y ∷ ys, (vs, ws, at, j, others))

module _ (F G : Leaf → Reading → Type 0) (all : TakesAll G) where
  value_too : (key : List ℕ) (literal : Symbol) (v : Value) → IsValue F key literal v → (w : Value) × IsValue G key literal w
  value_too key literal v h = let (w, fits) = all.value key literal in (w, (h.0, h.1, fits))

  value_token : (key : List ℕ) → Also (IsValueToken F key) (IsValueToken G key)
  value_token key us v h = let (w, is) = value_too key h.0.symbol v h.2 in (w, (h.0, h.1, is))

  operator_too : (us : List Lexeme) (key : List ℕ) (t : Test) → IsOperator F us key t → (u : Test) × IsOperator G us key u
  operator_too us key test.Exists h = (test.Exists, h)
  operator_too us key test.Absent h = (test.Absent, h)
  operator_too us key (test.Equal v) h = let (w, is) = value_too key h.0 v h.3 in (test.Equal w, (h.0, h.1, h.2, is))
  operator_too us key (test.Differs v) h = let (w, is) = value_too key h.0 v h.3 in (test.Differs w, (h.0, h.1, h.2, is))
  operator_too us key (test.Contains text) h = (test.Contains text, h)
  operator_too us key (test.Found n) h = (test.Found n, (h.0, h.1, all.pattern h.0))
  operator_too us key (test.NotFound n) h = (test.NotFound n, (h.0, h.1, all.pattern h.0))
  operator_too us key (test.Below n) h = (test.Below n, (h.0, h.1, h.2, h.3, all.order key))
  operator_too us key (test.AtMost n) h = (test.AtMost n, (h.0, h.1, h.2, h.3, all.order key))
  operator_too us key (test.Above n) h = (test.Above n, (h.0, h.1, h.2, h.3, all.order key))
  operator_too us key (test.AtLeast n) h = (test.AtLeast n, (h.0, h.1, h.2, h.3, all.order key))
  operator_too us key (test.Within n) h = let (m, fits) = all.network key h.0 in (test.Within m, (h.0, h.1, h.2, fits))
  operator_too us key (test.In vs) h =
      let (first, second, ws, at, named, sign, (opens, row, closes, whole, begins, ends, are)) = h in
      let (xs, others) = rows (lex.sign signs.Comma) (IsValueToken F key) (IsValueToken G key) (value_token key) row vs are in
      (test.In xs, (first, second, ws, at, named, sign, (opens, row, closes, whole, begins, ends, others)))
  operator_too us key (test.Before n) h = let (m, fits) = all.span key h.0 in (test.Before m, (h.0, h.1, h.2, fits))
  operator_too us key (test.After n) h = let (m, fits) = all.span key h.0 in (test.After m, (h.0, h.1, h.2, fits))

  test_too : Also (IsTest F) (IsTest G)
  test_too us c h = let (key, t, is, operated, right) = h in let (u, other) = operator_too us key t operated in (cond.Test key u, (key, u, refl, other, all.field key))

  both_too : (I J : List Lexeme → Cond → Type 0) → Also I J → Also (IsBoth F I) (IsBoth G J)
  both_too I J also us c h = let (cs, others) = rows (lex.sign signs.And) I J also us h.0 h.2 in (cond.All cs, (cs, refl, others))

  cond_too : (I J : List Lexeme → Cond → Type 0) → Also I J → Also (IsCondOf F I) (IsCondOf G J)
  cond_too I J also us c h = let (cs, others) = rows (lex.sign signs.Or) (IsBoth F I) (IsBoth G J) (both_too I J also) us h.0 h.2 in (cond.Any cs, (cs, refl, others))

  one_too : (d e : ℕ) → d ≤ e → Also (IsOne F d) (IsOne G e)
  unfolding IsOne
  one_too zero zero le us c h = test_too us c h
  one_too zero (suc e) le us c h = let (o, is) = test_too us c h in (o, inl is)
  one_too (suc d) zero le us c h = absurd (omega (arith, le))
  one_too (suc d) (suc e) le us c h = elim h [
    | inl t ↦ let (o, is) = test_too us c t in (o, inl is)
    | inr m ↦ elim m [
      | inl n ↦
          let (first, vs, o, at, sign, same, inner) = n in
          let (p, is) = one_too d e (omega (arith, le)) vs o inner in
          (cond.Not p, inr (inl (first, vs, p, at, sign, refl, is)))
      | inr g ↦
          let (first, vs, last, at, opens, closes, inner) = g in
          let (p, is) = cond_too (IsOne F d) (IsOne G e) (one_too d e (omega (arith, le))) vs c inner in
          (p, inr (inr (first, vs, last, at, opens, closes, is)))
    ]
  ]

  condition_too : (d e : ℕ) → d ≤ e → Also (IsCond F d) (IsCond G e)
  condition_too d e le us c h = cond_too (IsOne F d) (IsOne G e) (one_too d e le) us c h

  -- ---- items

  path_too : Also (IsPathName F) (IsPathName G)
  path_too us name h = (name, (h.0, all.path name))

  texts_too : Also (AreTexts F) (AreTexts G)
  texts_too us names h = elim h [
    | inl one ↦ (one.0 ∷ [], inl (one.0, refl, (one.2.0, all.path one.0)))
    | inr many ↦
        let (opens, row, closes, whole, begins, ends, are) = many in
        let (xs, others) = rows (lex.sign signs.Comma) (IsPathName F) (IsPathName G) path_too row names are in
        (xs, inr (opens, row, closes, whole, begins, ends, others))
  ]

  source_too : (key : List ℕ) (x : Symbol) (from : PutSource) → IsSource F key x from → (other : PutSource) × IsSource G key x other
  source_too key x (source.Fixed v) h = let (w, is) = value_too key x v h in (source.Fixed w, is)
  source_too key x (source.Copy from) h = (source.Copy from, (h.0, all.field from))

  action_too : Also (IsAction F) (IsAction G)
  action_too us i h = elim h [
    | inl keep ↦ (item.Keep, inl (refl, keep.1))
    | inr more ↦ elim more [
      | inl out ↦ (item.Drop, inr (inl (refl, out.1)))
      | inr others ↦ elim others [
        | inl path ↦
            let (names, same, (first, vs, at, is, are)) = path in
            let (xs, texts) = texts_too vs names are in
            (item.Path xs, inr (inr (inl (xs, refl, (first, vs, at, is, texts)))))
        | inr last ↦ elim last [
          | inl set ↦
              let (key, way, from, place, same, (a, b, c, d, at, word, named, assign, stands, right, sourced)) = set in
              let (other, is) = source_too key d.symbol from sourced in
              (item.Put key way other place, inr (inr (inr (inl (key, way, other, place, refl, (a, b, c, d, at, word, named, assign, stands, all.field key, is))))))
          | inr remove ↦ let (key, same, is) = remove in (item.Remove key, inr (inr (inr (inr (key, refl, (is.0, all.field key))))))
        ]
      ]
    ]
  ]

  module _ (C D : List Lexeme → Cond → Type 0) (P Q : List Lexeme → List SieveItem → Type 0) (conds : Also C D) (parts : Also P Q) where
    case_too : Also (IsCase F C P) (IsCase G D Q)
    case_too us x h =
        let (vs, ws, at, is, are) = h in
        let (c, condition) = conds vs x.0 is in
        let (items, part) = parts ws x.1 are in
        ((c, items), (vs, ws, at, condition, part))

    else_too : Also (IsElse F C P) (IsElse G D Q)
    else_too us xs h = elim h [
      | inl none ↦ ([], inl (none.0, refl))
      | inr some ↦ let (first, vs, at, begins, are) = some in let (items, part) = parts vs xs are in (items, inr (first, vs, at, begins, part))
    ]

    choice_too : Also (IsChoice F C P) (IsChoice G D Q)
    choice_too us i h =
        let (cases, otherwise, first, vs, ws, same, at, is, are, elses) = h in
        let (others, rest) = rows (lex.key words.Elif) (IsCase F C P) (IsCase G D Q) case_too vs cases are in
        let (items, part) = else_too ws otherwise elses in
        (item.Choice others items, (others, items, first, vs, ws, refl, at, is, rest, part))

  block_too : (I J : List Lexeme → SieveItem → Type 0) → Also I J → Also (IsBlock F I) (IsBlock G J)
  block_too I J also us xs h =
      let (first, vs, last, at, opens, closes, are) = h in
      let (ys, others) = behind I J also vs xs are in
      (ys, (first, vs, last, at, opens, closes, others))

  item_too : (d e : ℕ) → d ≤ e → Also (IsItem F d) (IsItem G e)
  unfolding IsItem
  item_too zero zero le us i h = action_too us i h
  item_too zero (suc e) le us i h = let (j, is) = action_too us i h in (j, inl is)
  item_too (suc d) zero le us i h = absurd (omega (arith, le))
  item_too (suc d) (suc e) le us i h = elim h [
    | inl action ↦ let (j, is) = action_too us i action in (j, inl is)
    | inr chosen ↦
        let (j, is) = choice_too (IsCond F (suc d)) (IsCond G (suc e)) (IsBlock F (IsItem F d)) (IsBlock G (IsItem G e)) (condition_too (suc d) (suc e) le)
        (block_too (IsItem F d) (IsItem G e) (item_too d e (omega (arith, le)))) us i chosen in
        (j, inr is)
  ]

  pub file_too : (d e : ℕ) → d ≤ e → Also (IsFile F d) (IsFile G e)
  file_too d e le us xs h = behind (IsItem F d) (IsItem G e) (item_too d e le) us xs h
