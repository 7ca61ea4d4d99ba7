-- Rows, read with the words and literals that are right and with any.
use Rattle.std.proofs.Common.{◌≡◌, ℕ, zero, suc, ◌<◌, ◌≤◌, Bool, true, false, List, [], ◌∷◌, ◌++◌, length, drop, Ok, Err, refl, sym, ap, ◌∙◌, subst, inl, inr, arith, length-append}
use Rattle.sieve_tokens.specs.declared.sign.Sign.TheVariants as signs
use Rattle.sieve_reader.specs.Lexeme as lex
use Rattle.sieve_reader.specs.Lexeme.{Lexeme, Symbol}
use Rattle.sieve_reader.specs.Parse.{closed, goes_on, is_sign, refusal, row, sees, separated, sign, Parser, Read, ◌>>=◌}
use Rattle.sieve_reader.specs.Refusal as cause
use Rattle.sieve_reader.specs.Refusal.{head, nests}
use Rattle.sieve_reader.proofs.Going.{always, Is, bind_at, bind_runs, bound_completes, front, lengthens, long_any, no_opens, tail_still, Any, Completes, Like, Ran, Runs, Still}
use Rattle.sieve_reader.proofs.GoingTokens.{closed_runs, closed_starts, sign_runs}
use Rattle.sieve_reader.proofs.Picks.{tells_sign, Nonempty, Sound, Tells}
use Rattle.sieve_reader.proofs.Windows.{leaf_at, right_leaf, step, State}

-- what is taken is at least a token
abbrev pub Shrinks : {A : Type 0} → Parser A → Type 0
Shrinks {A} thing = (ts rest : List Lexeme) (x : A) → thing ts ≡ Ok (x, rest) → length rest < length ts

-- at the end of the text one is expected
abbrev pub Expects : {A : Type 0} → Parser A → Type 0
Expects thing = thing [] ≡ Err (refusal cause.expected [])

pub shrinks_of : {A : Type 0} (thing : Parser A) (Is : List Lexeme → A → Type 0) → Sound thing Is → Nonempty Is → Shrinks thing
shrinks_of thing Is sound some ts rest x e =
    let (us, at, is) = sound ts rest x e in
    let long = some us x is in
    omega (arith, ap length at ∙ length-append us rest, long)

-- ---- with enough turns

-- the turns are as many as tokens
abbrev pub sep : {A : Type 0} → (Symbol → Bool) → Parser A → List A → Parser (List A)
sep is thing found ts = separated is thing (length ts) found ts

module _ {A : Type 0} (is : Symbol → Bool) (thing : Parser A) (shrinks : Shrinks thing) (expects : Expects thing) where
  enough : (n m : ℕ) (found : List A) (ts : List Lexeme) → length ts ≤ n → length ts ≤ m → separated is thing n found ts ≡ separated is thing m found ts
  unfolding separated
  enough zero zero found ts le at_most = refl
  enough zero (suc m) found [] le at_most = rw expects refl
  enough zero (suc m) found (t ∷ ts) le at_most = absurd (omega (arith, le))
  enough (suc n) zero found [] le at_most = rw expects refl
  enough (suc n) zero found (t ∷ ts) le at_most = absurd (omega (arith, at_most))
  enough (suc n) (suc m) found ts le at_most = by (thing ts) refl (λ f r few. enough n m f r few)
    where
      turn : (b : Bool) (p : A × List Lexeme) → length p.1 < length ts → ((f : List A) (r : List Lexeme) → length r ≤ n → length r ≤ m → separated is thing n f r ≡ separated is thing m f r)
          → goes_on b (separated is thing n) (found ++ p.0 ∷ []) p.1 ≡ goes_on b (separated is thing m) (found ++ p.0 ∷ []) p.1
      turn false p lt more = refl
      turn true p lt more = more (found ++ p.0 ∷ []) (drop 1 p.1) (fewer p.1 lt le) (fewer p.1 lt at_most)
        where
          fewer : {k : ℕ} (r : List Lexeme) → length r < length ts → length ts ≤ suc k → length (drop 1 r) ≤ k
          fewer [] lt le = omega arith
          fewer (l ∷ ls) lt le = omega (arith, lt, le)

      by : (r : Read A) → thing ts ≡ r → ((f : List A) (r : List Lexeme) → length r ≤ n → length r ≤ m → separated is thing n f r ≡ separated is thing m f r)
          → (thing ts >>= λ p. goes_on (sees is p.1) (separated is thing n) (found ++ p.0 ∷ []) p.1) ≡ (thing ts >>= λ p. goes_on (sees is p.1) (separated is thing m) (found ++ p.0 ∷ []) p.1)
      by (Err x) e more = rw e refl
      by (Ok p) e more = rw e (turn (sees is p.1) p (shrinks ts p.1 p.0 e) more)

  abbrev next : List A → A × List Lexeme → Read (List A)
  next found p = goes_on (sees is p.1) (sep is thing) (found ++ p.0 ∷ []) p.1

  pub sep_is : (found : List A) (ts : List Lexeme) → sep is thing found ts ≡ (thing ts >>= next found)
  unfolding separated
  sep_is found [] = rw expects refl
  sep_is found (t ∷ ts) = by (thing (t ∷ ts)) refl
    where
      turn : (b : Bool) (p : A × List Lexeme) → length p.1 < suc (length ts) → goes_on b (separated is thing (length ts)) (found ++ p.0 ∷ []) p.1 ≡ goes_on b (sep is thing) (found ++ p.0 ∷ []) p.1
      turn false p lt = refl
      turn true p lt = enough (length ts) (length (drop 1 p.1)) (found ++ p.0 ∷ []) (drop 1 p.1) (fewer p.1 lt) (omega arith)
        where
          fewer : (r : List Lexeme) → length r < suc (length ts) → length (drop 1 r) ≤ length ts
          fewer [] lt = omega arith
          fewer (l ∷ ls) lt = omega (arith, lt)

      by : (r : Read A) → thing (t ∷ ts) ≡ r → (thing (t ∷ ts) >>= λ p. goes_on (sees is p.1) (separated is thing (length ts)) (found ++ p.0 ∷ []) p.1) ≡ (thing (t ∷ ts) >>= next found)
      by (Err x) e = rw e refl
      by (Ok p) e = rw e (turn (sees is p.1) p (shrinks (t ∷ ts) p.1 p.0 e))

-- ---- what is next

pub sees_head : (is : Symbol → Bool) (r rest : List Lexeme) → head r ≡ head rest → sees is r ≡ sees is rest
sees_head is [] [] h = refl
sees_head is [] (l ∷ ls) h = absurd (cc)
sees_head is (l ∷ ls) [] h = absurd (cc)
sees_head is (l ∷ ls) (m ∷ ms) h = let same : l ≡ m = cc in ap (λ (x : Lexeme). is x.symbol) same

-- what may follow isn't what makes a row longer
pub sees_none : (is : Symbol → Bool) (s : Symbol) → Tells is s → lengthens s ≡ true → (r : List Lexeme) → Still r → sees is r ≡ false
sees_none is s tells long [] still = refl
sees_none is s tells long (l ∷ ls) still = by (is l.symbol) refl
  where
    by : (b : Bool) → is l.symbol ≡ b → is l.symbol ≡ false
    by false e = e
    by true e = absurd (clash (sym still ∙ (ap lengthens (tells.only l.symbol e) ∙ long)))
      where
        clash : false ≡ true → ⊥
        clash e = absurd (cc)

pub still_over : (is : Symbol → Bool) (s : Symbol) → Tells is s → lengthens s ≡ true → (b : Bool) (rest r : List Lexeme) → Like b rest r → sees is rest ≡ false → sees is r ≡ false
still_over is s tells long b rest r (inl h) over = sees_head is r rest h ∙ over
still_over is s tells long b rest r (inr h) over = sees_none is s tells long r (tail_still b r h)

-- nothing is asked of the length
pub loosen : {A B : Type 0} (b : Bool) (d e : ℕ) (Rel : A → B → Type 0) (w : Bool) (pre : State) (Post : A → State → Type 0) (q : Parser B) (ts : List Lexeme) (r : Read A) → Ran b d e Rel w pre Post q ts r → Ran b d e Rel false pre Post q ts r
loosen b d e Rel w pre Post q ts (Ok p) s = record { us = s.us; split = s.split; some = tt; cleaned = s.cleaned; state = s.state; opens = s.opens; y = s.y; rel = s.rel; passes = s.passes }
loosen b d e Rel w pre Post q ts (Err (refusal why rest)) s = s

-- ---- rows

module _ {A B : Type 0} (d e : ℕ) (le : d ≤ e) (is : Symbol → Bool) (s : Symbol) (tells : Tells is s) (longer : lengthens s ≡ true) (plain : nests s ≡ false) (In : State → Type 0)
    (right : (t : State) → In t → right_leaf (leaf_at t s) ≡ true) (stays : (t : State) → In t → In (step t s)) (p : Parser A) (q : Parser B)
    (p_shrinks : Shrinks p) (p_expects : Expects p) (q_shrinks : Shrinks q) (q_expects : Expects q)
    (starts : 0 < e → Completes false q []) (runs : Runs false d e Any true In (always In) p q) where
  abbrev Row : Bool → State → Parser (List B) → List Lexeme → Read (List A) → Type 0
  Row w t = Ran false d e Any w t (always In)

  -- when no sign follows, the row is over
  ended : (gone : List B) (y : B) (r : List Lexeme) → sees is r ≡ false → next is q q_shrinks q_expects gone (y, r) ≡ Ok (gone ++ y ∷ [], r)
  ended gone y r e = rw e refl

  next_starts : (gone : List B) (y : B) → Completes false (λ r. next is q q_shrinks q_expects gone (y, r)) []
  next_starts gone y = ([], gone ++ y ∷ [], λ r tail. (tail, ended gone y r (sees_none is s tells longer r tail)))

  goes : (n : ℕ) → ((t : State) → In t → (ts : List Lexeme) (found : List A) (gone : List B) → length ts ≤ n → Row true t (sep is q gone) ts (sep is p found ts))
      → (t : State) → In t → (found : List A) (gone : List B) (x : A) (y : B) (rest : List Lexeme) → length rest ≤ suc n → (b : Bool) → sees is rest ≡ b
      → Row false t (λ r. next is q q_shrinks q_expects gone (y, r)) rest (goes_on b (sep is p) (found ++ x ∷ []) rest)
  goes n more t inside found gone x y rest few false saw = record {
    us = [];
    split = refl;
    some = tt;
    cleaned = refl;
    state = inside;
    opens = no_opens false e (λ r. next is q q_shrinks q_expects gone (y, r));
    y = gone ++ y ∷ [];
    rel = tt;
    passes = λ r like. ended gone y r (still_over is s tells longer false rest r like saw);
  }
  goes n more t inside found gone x y [] few true saw = absurd (cc)
  goes n more t inside found gone x y (l ∷ ls) few true saw =
      let symbol : l.symbol ≡ s = tells.only l.symbol saw in
      let inner = more (step t l.symbol) (subst (λ z. In (step t z)) (sym symbol) (stays t inside)) ls (found ++ x ∷ []) (gone ++ y ∷ []) (omega (arith, few)) in
      loosen false d e Any true t (always In) (λ r. next is q q_shrinks q_expects gone (y, r)) (l ∷ ls) (sep is p (found ++ x ∷ []) ls)
      (front false d e Any t (always In) (λ r. next is q q_shrinks q_expects gone (y, r)) (sep is q (gone ++ y ∷ [])) l ls (λ r. rw saw refl)
      (ap (λ z. right_leaf (leaf_at t z)) symbol ∙ right t inside) (λ n. absurd (clash (sym plain ∙ (ap nests (sym symbol) ∙ n)))) true (sep is p (found ++ x ∷ []) ls) inner)
    where
      clash : false ≡ true → ⊥
      clash e = absurd (cc)

  one_row : (t : State) → In t → (ts : List Lexeme) (found : List A) (gone : List B)
      → ((x : A) (y : B) (rest : List Lexeme) (u : State) → In u → length rest < length ts → Row false u (λ r. next is q q_shrinks q_expects gone (y, r)) rest (next is p p_shrinks p_expects found (x, rest)))
      → Row true t (sep is q gone) ts (sep is p found ts)
  one_row t inside ts found gone second =
      let bound = bind_at false d e le q (next is q q_shrinks q_expects gone) (λ y some. next_starts gone y) Any true t (always In) Any false (always In) (long_any true false) ts (p ts)
      (next is p p_shrinks p_expects found) (runs t inside ts) (λ x y rest same rel u within us at long. second x y rest u within (omega (arith, ap length at ∙ length-append us rest, long))) in
      subst (λ (z : Parser (List B)). Row true t z ts (sep is p found ts)) (λ i r. sym (sep_is is q q_shrinks q_expects gone r) i)
      (subst (λ (z : Read (List A)). Row true t (λ r. q r >>= next is q q_shrinks q_expects gone) ts z) (sym (sep_is is p p_shrinks p_expects found ts)) bound)

  rows : (n : ℕ) (t : State) → In t → (ts : List Lexeme) (found : List A) (gone : List B) → length ts ≤ n → Row true t (sep is q gone) ts (sep is p found ts)
  rows zero t inside ts found gone few = one_row t inside ts found gone (λ x y rest u within lt. absurd (omega (arith, lt, few)))
  rows (suc n) t inside ts found gone few = one_row t inside ts found gone (λ x y rest u within lt. goes n (rows n) u within found gone x y rest (omega (arith, lt, few)) (sees is rest) refl)

  pub sep_runs : Runs false d e Any true In (always In) (sep is p []) (sep is q [])
  sep_runs t inside ts = rows (length ts) t inside ts [] [] (omega arith)

  pub sep_completes : (us : List Lexeme) → 0 < e → Completes false q us → Completes false (sep is q []) us
  sep_completes us some h =
      subst (λ (z : Parser (List B)). Completes false z us) (λ i r. sym (sep_is is q q_shrinks q_expects [] r) i)
      (bound_completes false d e le q (next is q q_shrinks q_expects []) (λ y some. next_starts [] y) us some h)

-- "[" x { "," x } "]"
module _ {A B : Type 0} (d e : ℕ) (le : d ≤ e) (pre state post : State) (opens_right : right_leaf (leaf_at pre (lex.sign signs.OpenBracket)) ≡ true) (opens : step pre (lex.sign signs.OpenBracket) ≡ state)
    (right : right_leaf (leaf_at state (lex.sign signs.Comma)) ≡ true) (stays : step state (lex.sign signs.Comma) ≡ state)
    (closes_right : right_leaf (leaf_at state (lex.sign signs.CloseBracket)) ≡ true) (closes : step state (lex.sign signs.CloseBracket) ≡ post) (p : Parser A) (q : Parser B)
    (p_shrinks : Shrinks p) (p_expects : Expects p) (q_shrinks : Shrinks q) (q_expects : Expects q)
    (starts : (b : Bool) → Completes b q []) (runs : Runs false d e Any true (Is state) (always (Is state)) p q) where
  -- what holds at a state holds where that state is
  there : (x : Symbol) (s : State) → right_leaf (leaf_at s x) ≡ true → (t : State) → Is s t → right_leaf (leaf_at t x) ≡ true
  there x s right t is = ap (λ u. right_leaf (leaf_at u x)) is ∙ right

  steps : (x : Symbol) (s u : State) → step s x ≡ u → (t : State) → Is s t → Is u (step t x)
  steps x s u next t is = ap (λ v. step v x) is ∙ next

  inner_runs : Runs false d e Any true (Is state) (always (Is post)) (λ r. sep (is_sign signs.Comma) p [] r >>= λ x. closed signs.CloseBracket x.0 x.1) (λ r. sep (is_sign signs.Comma) q [] r >>= λ y. closed signs.CloseBracket y.0 y.1)
  inner_runs =
      bind_runs false d e le Any true (Is state) (always (Is state)) Any true (always (Is post)) (sep (is_sign signs.Comma) p []) (sep (is_sign signs.Comma) q []) (λ x. closed signs.CloseBracket x.0 x.1) (λ y. closed signs.CloseBracket y.0 y.1)
      (sep_runs d e le (is_sign signs.Comma) (lex.sign signs.Comma) (tells_sign signs.Comma) refl refl (Is state) (there (lex.sign signs.Comma) state right) (steps (lex.sign signs.Comma) state state stays) p q p_shrinks p_expects q_shrinks q_expects (λ some. starts false) runs)
      (λ x y rel. closed_runs d e signs.CloseBracket (Is state) (Is post) refl refl (there (lex.sign signs.CloseBracket) state closes_right) (steps (lex.sign signs.CloseBracket) state post closes) le x y) (λ y some. closed_starts false signs.CloseBracket y refl)

  inner_starts : 0 < e → Completes false (λ r. sep (is_sign signs.Comma) q [] r >>= λ y. closed signs.CloseBracket y.0 y.1) []
  inner_starts some =
      bound_completes false d e le (sep (is_sign signs.Comma) q []) (λ y. closed signs.CloseBracket y.0 y.1) (λ y some. closed_starts false signs.CloseBracket y refl) [] some
      (sep_completes d e le (is_sign signs.Comma) (lex.sign signs.Comma) (tells_sign signs.Comma) refl refl (Is state) (there (lex.sign signs.Comma) state right) (steps (lex.sign signs.Comma) state state stays) p q p_shrinks p_expects q_shrinks q_expects (λ some. starts false) runs [] some (starts false))

  pub row_runs : Runs false d e Any true (Is pre) (always (Is post)) (row p) (row q)
  unfolding row
  row_runs =
      bind_runs false d e le Any true (Is pre) (always (Is state)) Any true (always (Is post)) (sign signs.OpenBracket) (sign signs.OpenBracket) (λ x. sep (is_sign signs.Comma) p [] x.1 >>= λ y. closed signs.CloseBracket y.0 y.1)
      (λ x. sep (is_sign signs.Comma) q [] x.1 >>= λ y. closed signs.CloseBracket y.0 y.1)
      (sign_runs d e signs.OpenBracket (Is pre) (Is state) refl refl (there (lex.sign signs.OpenBracket) pre opens_right) (steps (lex.sign signs.OpenBracket) pre state opens)) (λ x y rel. inner_runs) (λ y some. inner_starts some)
