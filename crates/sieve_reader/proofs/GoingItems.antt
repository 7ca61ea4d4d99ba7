-- Items, read with the words and literals that are right and with any.
use Rattle.std.proofs.Common.{◌≡◌, ℕ, zero, suc, ◌<◌, ◌≤◌, Bool, true, false, List, [], ◌∷◌, ◌++◌, length, Option, Some, Ok, Err, refl, sym, ap, ◌∙◌, subst, inl, inr, arith, length-append}
use Rattle.sieve_tokens.specs.declared.sign.Sign.TheVariants as signs
use Rattle.sieve_tokens.specs.declared.word.Keyword.TheVariants as words
use Rattle.sieve_reader.specs.Grammar.{IsBlock, IsItem}
use Rattle.sieve_reader.specs.Leaf.{judged, Leaf, Reading}
use Rattle.sieve_reader.specs.Lexeme as lex
use Rattle.sieve_reader.specs.Lexeme.{Lexeme, Symbol}
use Rattle.sieve_reader.specs.Parse.{an_item, block, case, choice, closed, condition, deep_block, file, is_elif, is_else, is_end, is_sign, item_by, items, one, or_more, or_nothing, otherwise, part, read_map, refusal, sees, sign, Parser, Read, ◌>>=◌}
use Rattle.sieve_reader.specs.Refusal as cause
use Rattle.sieve_reader.specs.Refusal.{head, nests}
use Rattle.sieve_tree.specs.declared.tree.Cond.{Cond}
use Rattle.sieve_tree.specs.declared.tree.SieveItem.{SieveItem}
use Rattle.sieve_tree.specs.declared.tree.SieveItem.TheVariants as item
use Rattle.sieve_reader.proofs.Blocks.{block_too_deep, no_block, opened}
use Rattle.sieve_reader.proofs.Files.{item_some, item_sound}
use Rattle.sieve_reader.proofs.Going.{alike, always, bind_at, bind_runs, bound_completes, deep_here, front, lifted, long_any, map_runs, no_opens, pure_runs, pure_starts, tail_still, unexpected_here, Any, Calm, Completes, Like, Ran, Runs}
use Rattle.sieve_reader.proofs.GoingActions.{calm_word, item_by_runs, word_right}
use Rattle.sieve_reader.proofs.GoingConds.{cond_expects, cond_runs, cond_shrinks, cond_starts}
use Rattle.sieve_reader.proofs.GoingRows.{loosen, sees_head, sees_none, sep, sep_runs, shrinks_of, still_over, Expects, Shrinks}
use Rattle.sieve_reader.proofs.GoingTests.{at_end, at_head, calm_right, calm_sign, clash}
use Rattle.sieve_reader.proofs.GoingTokens.{every, headed, lexeme, no_head}
use Rattle.sieve_reader.proofs.Items.{block_some, block_sound, tells_elif, tells_else}
use Rattle.sieve_reader.proofs.Picks.{bound, closed_is, held, sees_first, tells_sign}
use Rattle.sieve_reader.proofs.Tests.{Fits}
use Rattle.sieve_reader.proofs.Turns.{item_is}
use Rattle.sieve_reader.proofs.Windows as window
use Rattle.sieve_reader.proofs.Windows.{leaf_at, right_leaf, step, State}

-- ---- things one behind the other, with enough turns

-- more turns than tokens
abbrev its : {A : Type 0} → (List Lexeme → Bool) → Parser A → List A → Parser (List A)
its stops thing found ts = items stops thing (suc (length ts)) found ts

module _ {A : Type 0} (stops : List Lexeme → Bool) (thing : Parser A) (shrinks : Shrinks thing) where
  enough : (n m : ℕ) (found : List A) (ts : List Lexeme) → length ts < n → length ts < m → items stops thing n found ts ≡ items stops thing m found ts
  unfolding items
  enough zero m found ts lt at_most = absurd (omega arith)
  enough (suc n) zero found ts lt at_most = absurd (omega arith)
  enough (suc n) (suc m) found ts lt at_most = by (thing ts) refl (λ f r few least. enough n m f r few least)
    where
      by : (r : Read A) → thing ts ≡ r → ((f : List A) (r : List Lexeme) → length r < n → length r < m → items stops thing n f r ≡ items stops thing m f r)
          → or_more (stops ts) (thing ts >>= λ p. items stops thing n (found ++ p.0 ∷ []) p.1) found ts ≡ or_more (stops ts) (thing ts >>= λ p. items stops thing m (found ++ p.0 ∷ []) p.1) found ts
      by (Err x) e more = rw e refl
      by (Ok p) e more =
          let fewer = shrinks ts p.1 p.0 e in
          rw e (ap (λ z. or_more (stops ts) z found ts) (more (found ++ p.0 ∷ []) p.1 (omega (arith, fewer, lt)) (omega (arith, fewer, at_most))))

  goes_its : (found : List A) (ts : List Lexeme) → stops ts ≡ false → its stops thing found ts ≡ (thing ts >>= λ p. its stops thing (found ++ p.0 ∷ []) p.1)
  unfolding items
  goes_its found ts on = rw on (by (thing ts) refl)
    where
      by : (r : Read A) → thing ts ≡ r → (thing ts >>= λ p. items stops thing (length ts) (found ++ p.0 ∷ []) p.1) ≡ (thing ts >>= λ p. its stops thing (found ++ p.0 ∷ []) p.1)
      by (Err x) e = rw e refl
      by (Ok p) e = rw e (enough (length ts) (suc (length p.1)) (found ++ p.0 ∷ []) p.1 (shrinks ts p.1 p.0 e) (omega arith))

  stops_its : (found : List A) (ts : List Lexeme) → stops ts ≡ true → its stops thing found ts ≡ Ok (found, ts)
  unfolding items
  stops_its found ts over = rw over refl

  module _ (close : List A → Parser (List A)) where
    -- and what is read behind them
    abbrev body : List A → Parser (List A)
    body found r = its stops thing found r >>= λ q. close q.0 q.1

    abbrev next : List A → A × List Lexeme → Read (List A)
    next found p = body (found ++ p.0 ∷ []) p.1

    body_goes : (found : List A) (ts : List Lexeme) → stops ts ≡ false → body found ts ≡ (thing ts >>= next found)
    body_goes found ts on = ap (λ z. z >>= λ q. close q.0 q.1) (goes_its found ts on) ∙ by (thing ts)
      where
        by : (r : Read A) → ((r >>= λ p. its stops thing (found ++ p.0 ∷ []) p.1) >>= λ q. close q.0 q.1) ≡ (r >>= next found)
        by (Err x) = refl
        by (Ok p) = refl

    body_stops : (found : List A) (ts : List Lexeme) → stops ts ≡ true → body found ts ≡ close found ts
    body_stops found ts over = ap (λ z. z >>= λ q. close q.0 q.1) (stops_its found ts over)

-- ---- read with any words too

module _ (b : Bool) (d e : ℕ) (le : d ≤ e) (stops : List Lexeme → Bool) (p q : Parser SieveItem) (p_shrinks : Shrinks p) (q_shrinks : Shrinks q) (close : List SieveItem → Parser (List SieveItem))
    (by_head : (r ts : List Lexeme) → head r ≡ head ts → stops r ≡ stops ts)
    (ending : (s : State) → Calm s → (ts : List Lexeme) (found gone : List SieveItem) → stops ts ≡ true → Ran b d e Any false s (always Calm) (body stops q q_shrinks close gone) ts (close found ts))
    (starts : (gone : List SieveItem) → Completes b (body stops q q_shrinks close gone) []) (runs : Runs false d e Any true Calm (always Calm) p q) where
  abbrev Ending : State → List SieveItem → List Lexeme → Read (List SieveItem) → Type 0
  Ending s gone ts r = Ran b d e Any false s (always Calm) (body stops q q_shrinks close gone) ts r

  one_more : (s : State) → Calm s → (ts : List Lexeme) (found gone : List SieveItem)
      → ((x y : SieveItem) (rest : List Lexeme) (t : State) → Calm t → length rest < length ts → Ending t (gone ++ y ∷ []) rest (next stops p p_shrinks close found (x, rest)))
      → (over : Bool) → stops ts ≡ over → Ending s gone ts (body stops p p_shrinks close found ts)
  one_more s calm ts found gone more true over = subst (Ending s gone ts) (sym (body_stops stops p p_shrinks close found ts over)) (ending s calm ts found gone over)
  one_more s calm ts found gone more false on =
      let bound = bind_at b d e le q (next stops q q_shrinks close gone) (λ y some. starts (gone ++ y ∷ [])) Any true s (always Calm) Any false (always Calm) (long_any true false) ts (p ts) (next stops p p_shrinks close found) (runs s calm ts)
      (λ x y rest same rel t still us at long. more x y rest t still (omega (arith, ap length at ∙ length-append us rest, long))) in
      let same : (r : List Lexeme) → head r ≡ head ts → body stops q q_shrinks close gone r ≡ (q r >>= next stops q q_shrinks close gone) =
      λ r h. body_goes stops q q_shrinks close gone r (by_head r ts h ∙ on) in
      let all = alike b d e Any s (always Calm) (body stops q q_shrinks close gone) (λ r. q r >>= next stops q q_shrinks close gone) ts same (λ some. starts gone) (p ts >>= next stops p p_shrinks close found) bound in
      subst (Ending s gone ts) (sym (body_goes stops p p_shrinks close found ts on))
      (loosen b d e Any true s (always Calm) (body stops q q_shrinks close gone) ts (p ts >>= next stops p p_shrinks close found) all)

  all_more : (n : ℕ) (s : State) → Calm s → (ts : List Lexeme) (found gone : List SieveItem) → length ts ≤ n → Ending s gone ts (body stops p p_shrinks close found ts)
  all_more zero s calm ts found gone few = one_more s calm ts found gone (λ x y rest t still lt. absurd (omega (arith, lt, few))) (stops ts) refl
  all_more (suc n) s calm ts found gone few = one_more s calm ts found gone (λ x y rest t still lt. all_more n t still rest (found ++ x ∷ []) (gone ++ y ∷ []) (omega (arith, lt, few))) (stops ts) refl

  pub body_runs : Runs b d e Any false Calm (always Calm) (body stops p p_shrinks close []) (body stops q q_shrinks close [])
  body_runs s calm ts = all_more (length ts) s calm ts [] [] (omega arith)

-- ---- blocks

abbrev closes : List Lexeme → Bool
closes = sees (is_sign signs.CloseBrace)

module _ (fits : Leaf → Option Reading) where
  item_shrinks : (d : ℕ) → Shrinks (an_item fits d)
  item_shrinks d = shrinks_of (an_item fits d) (IsItem (Fits fits) d) (item_sound fits d) (item_some fits d)

  -- what stands behind the brace
  abbrev within : ℕ → Parser (List SieveItem)
  within d = body closes (an_item fits d) (item_shrinks d) (closed signs.CloseBrace) []

  is_opened : (d : ℕ) (l : Lexeme) → l.symbol ≡ lex.sign signs.OpenBrace → (r : List Lexeme) → part fits (suc d) (l ∷ r) ≡ within d r
  is_opened d l is r = opened fits d (l ∷ r) (rw is refl)

  part_expects : (d : ℕ) → Expects (part fits d)
  part_expects d = no_block fits d [] refl

  -- a block takes tokens
  part_shrinks : (d : ℕ) → Shrinks (part fits d)
  unfolding deep_block
  part_shrinks zero ts rest x e = let (p, opens, later) = bound (sign signs.OpenBrace ts) _ (x, rest) e in absurd (cc)
  part_shrinks (suc d) ts rest x e =
      shrinks_of (block (an_item fits d)) (IsBlock (Fits fits) (IsItem (Fits fits) d)) (block_sound fits (an_item fits d) (IsItem (Fits fits) d) (item_sound fits d)) (block_some fits (an_item fits d) (IsItem (Fits fits) d)) ts rest x e

close_brace : Lexeme
close_brace = record { at = 0; patterns = 0; symbol = lex.sign signs.CloseBrace }

within_ends : (e : ℕ) (gone : List SieveItem) (l : Lexeme) → l.symbol ≡ lex.sign signs.CloseBrace → (r : List Lexeme) → body closes (an_item every e) (item_shrinks every e) (closed signs.CloseBrace) gone (l ∷ r) ≡ Ok (gone, r)
within_ends e gone l is r = body_stops closes (an_item every e) (item_shrinks every e) (closed signs.CloseBrace) gone (l ∷ r) (rw is refl) ∙ closed_is signs.CloseBrace gone l r is

within_starts : (e : ℕ) (gone : List SieveItem) → Completes false (body closes (an_item every e) (item_shrinks every e) (closed signs.CloseBrace) gone) []
unfolding close_brace
within_starts e gone = (close_brace ∷ [], gone, λ r still. (refl, within_ends e gone close_brace refl r))

within_ending : (d e k : ℕ) (s : State) → Calm s → (ts : List Lexeme) (found gone : List SieveItem) → closes ts ≡ true
    → Ran false d e Any false s (always Calm) (body closes (an_item every k) (item_shrinks every k) (closed signs.CloseBrace) gone) ts (closed signs.CloseBrace found ts)
within_ending d e k s calm [] found gone over = absurd (cc)
within_ending d e k s calm (l ∷ ls) found gone over =
    let (m, at, symbol) = sees_first (is_sign signs.CloseBrace) (lex.sign signs.CloseBrace) (tells_sign signs.CloseBrace) (l ∷ ls) over in
    let first : l ≡ m = cc in
    let is : l.symbol ≡ lex.sign signs.CloseBrace = ap (λ (x : Lexeme). x.symbol) first ∙ symbol in
    let q = body closes (an_item every k) (item_shrinks every k) (closed signs.CloseBrace) gone in
    let ran = front false d e Any s (always Calm) q (λ r. Ok (gone, r)) l ls (within_ends k gone l is) (ap (λ x. right_leaf (leaf_at s x)) is ∙ calm_right signs.CloseBrace s calm)
    (λ n. absurd (clash (ap nests (sym is) ∙ n))) false (Ok (found, ls))
    (pure_runs false d e Any Calm (always Calm) found gone tt (λ t h. h) (step s l.symbol) (subst (λ x. Calm (step s x)) (sym is) (calm_sign signs.CloseBrace refl refl s calm)) ls) in
    subst (Ran false d e Any false s (always Calm) q (l ∷ ls)) (sym (closed_is signs.CloseBrace found l ls is)) (loosen false d e Any true s (always Calm) q (l ∷ ls) (Ok (found, ls)) ran)

within_runs : (d e : ℕ) → d ≤ e → Runs false d e Any true Calm (always Calm) (an_item judged d) (an_item every e) → Runs false d e Any false Calm (always Calm) (within judged d) (within every e)
within_runs d e le runs =
    body_runs false d e le closes (an_item judged d) (an_item every e) (item_shrinks judged d) (item_shrinks every e) (closed signs.CloseBrace) (λ r ts h. sees_head (is_sign signs.CloseBrace) r ts h)
    (within_ending d e e) (within_starts e) runs

part_completes : (e : ℕ) (l : Lexeme) → l.symbol ≡ lex.sign signs.OpenBrace → 0 < e → Completes false (part every e) (l ∷ [])
part_completes zero l is some = absurd (omega arith)
part_completes (suc e) l is some = let (more, y, reads) = within_starts e [] in (more, y, λ r tail. (tt, is_opened every e l is (more ++ r) ∙ (reads r tail).1))

part_starts : (e : ℕ) → 0 < e → Completes false (part every e) []
part_starts e some =
    let (more, y, reads) = part_completes e (lexeme (lex.sign signs.OpenBrace)) refl some in
    (lexeme (lex.sign signs.OpenBrace) ∷ more, y, λ r tail. (refl, (reads r tail).1))

-- no brace stands there
unopened : (d e : ℕ) (s : State) (l : Lexeme) (ls : List Lexeme) → is_sign signs.OpenBrace l.symbol ≡ false → Ran false d e Any true s (always Calm) (part every e) (l ∷ ls) (part judged d (l ∷ ls))
unopened d e s l ls none =
    subst (Ran false d e Any true s (always Calm) (part every e) (l ∷ ls)) (sym (no_block judged d (l ∷ ls) none))
    (unexpected_here false d e s (part every e) (l ∷ ls) (at_head (part every e) l (λ r. no_block every e (l ∷ r) none)) (part_starts e))

part_stays : (e : ℕ) (l : Lexeme) → is_sign signs.OpenBrace l.symbol ≡ true → e ≡ 0 → (r : List Lexeme) → head r ≡ Some l → part every e r ≡ Err (refusal cause.deep r)
part_stays e l is none r h = let (behind, at) = headed r l h in subst (λ (m : List Lexeme). part every e m ≡ Err (refusal cause.deep m)) (sym at) (block_too_deep every e (l ∷ behind) none is)

only_brace : (l : Lexeme) → is_sign signs.OpenBrace l.symbol ≡ true → l.symbol ≡ lex.sign signs.OpenBrace
only_brace l is = (tells_sign signs.OpenBrace).only l.symbol is

part_at_end : (d e : ℕ) (s : State) → Ran false d e Any true s (always Calm) (part every e) [] (part judged d [])
part_at_end d e s =
    subst (Ran false d e Any true s (always Calm) (part every e) []) (sym (part_expects judged d)) (unexpected_here false d e s (part every e) [] (at_end (part every e) (part_expects every e)) (part_starts e))

no_part : (e : ℕ) → Runs false 0 e Any true Calm (always Calm) (part judged 0) (part every e)
no_part e s calm [] = part_at_end 0 e s
no_part e s calm (l ∷ ls) = by (is_sign signs.OpenBrace l.symbol) refl
  where
    by : (b : Bool) → is_sign signs.OpenBrace l.symbol ≡ b → Ran false 0 e Any true s (always Calm) (part every e) (l ∷ ls) (part judged 0 (l ∷ ls))
    by false none = unopened 0 e s l ls none
    by true is =
        subst (Ran false 0 e Any true s (always Calm) (part every e) (l ∷ ls)) (sym (block_too_deep judged 0 (l ∷ ls) refl is))
        (deep_here false 0 e s (part every e) l ls (ap nests (only_brace l is)) (part_stays e l is) (part_completes e l (only_brace l is)))

a_part : (d e : ℕ) → d ≤ e → Runs false d e Any true Calm (always Calm) (an_item judged d) (an_item every e) → Runs false (suc d) (suc e) Any true Calm (always Calm) (part judged (suc d)) (part every (suc e))
a_part d e le runs s calm [] = part_at_end (suc d) (suc e) s
a_part d e le runs s calm (l ∷ ls) = by (is_sign signs.OpenBrace l.symbol) refl
  where
    by : (b : Bool) → is_sign signs.OpenBrace l.symbol ≡ b → Ran false (suc d) (suc e) Any true s (always Calm) (part every (suc e)) (l ∷ ls) (part judged (suc d) (l ∷ ls))
    by false none = unopened (suc d) (suc e) s l ls none
    by true brace =
        let is = only_brace l brace in
        let inner = within_runs d e le runs (step s l.symbol) (subst (λ x. Calm (step s x)) (sym is) (calm_sign signs.OpenBrace refl refl s calm)) ls in
        subst (Ran false (suc d) (suc e) Any true s (always Calm) (part every (suc e)) (l ∷ ls)) (sym (is_opened judged d l is ls))
        (front false (suc d) (suc e) Any s (always Calm) (part every (suc e)) (within every e) l ls (is_opened every e l is) (ap (λ x. right_leaf (leaf_at s x)) is ∙ calm_right signs.OpenBrace s calm)
        (λ n. (omega arith, part_completes (suc e) l is (omega arith))) false (within judged d ls) (lifted false d e Any false (step s l.symbol) (always Calm) (within every e) ls (within judged d ls) inner))

-- ---- choices

module _ (fits : Leaf → Option Reading) (d : ℕ) where
  abbrev a_case : Parser (Cond × List SieveItem)
  a_case = case (condition fits d) (part fits d)

  case_expects : Expects a_case
  unfolding case
  case_expects = rw (cond_expects fits (one fits d)) refl

  case_shrinks : Shrinks a_case
  unfolding case
  case_shrinks ts rest x e =
      let (p, read, later) = bound (condition fits d ts) _ (x, rest) e in
      let (q, ran, end) = bound (part fits d p.1) _ (x, rest) later in
      let same = held ((p.0, q.0), q.1) (x, rest) end in
      let over : q.1 ≡ rest = λ j. (same j).1 in
      omega (arith, cond_shrinks fits d ts p.1 p.0 read, part_shrinks fits d p.1 q.1 q.0 ran, ap length over)

-- what runs where a condition holds
abbrev paired : Cond → List SieveItem × List Lexeme → Read (Cond × List SieveItem)
paired x q = Ok ((x, q.0), q.1)

abbrev ran_block : (Leaf → Option Reading) → ℕ → Cond → Parser (Cond × List SieveItem)
ran_block fits k x r = part fits k r >>= paired x

module _ (d e : ℕ) (le : d ≤ e) (parts : Runs false d e Any true Calm (always Calm) (part judged d) (part every e)) where
  ran_case : (x y : Cond) → Runs false d e Any true Calm (always Calm) (ran_block judged d x) (ran_block every e y)
  ran_case x y =
      bind_runs false d e le Any true Calm (always Calm) Any false (always Calm) (part judged d) (part every e) (paired x) (paired y) parts
      (λ u v rel. pure_runs {A = Cond × List SieveItem} {B = Cond × List SieveItem} false d e Any Calm (always Calm) (x, u) (y, v) tt (λ t h. h)) (λ v some. pure_starts {B = Cond × List SieveItem} false (y, v))

  ran_starts : (y : Cond) → 0 < e → Completes false (ran_block every e y) []
  ran_starts y some = bound_completes false d e le (part every e) (paired y) (λ v some. pure_starts {B = Cond × List SieveItem} false (y, v)) [] some (part_starts e some)

  case_runs : Runs false d e Any true Calm (always Calm) (a_case judged d) (a_case every e)
  unfolding case
  case_runs =
      bind_runs false d e le Any true Calm (always Calm) Any true (always Calm) (condition judged d) (condition every e) (λ p. ran_block judged d p.0 p.1) (λ p. ran_block every e p.0 p.1)
      (cond_runs d e le) (λ x y rel. ran_case x y) ran_starts

  case_starts : 0 < e → Completes false (a_case every e) []
  unfolding case
  case_starts some = bound_completes false d e le (condition every e) (λ p. ran_block every e p.0 p.1) ran_starts [] some (cond_starts false e)

  cases_runs : Runs false d e Any true Calm (always Calm) (sep is_elif (a_case judged d) []) (sep is_elif (a_case every e) [])
  cases_runs =
      sep_runs d e le is_elif (lex.key words.Elif) tells_elif refl refl Calm (word_right words.Elif) (calm_word words.Elif (λ t. refl)) (a_case judged d) (a_case every e) (case_shrinks judged d) (case_expects judged d)
      (case_shrinks every e) (case_expects every e) case_starts case_runs

  -- no `else` stands there
  no_else : (r : List Lexeme) → sees is_else r ≡ false → otherwise (part every e) r ≡ Ok ([], r)
  unfolding otherwise
  no_else r none = rw none refl

  else_starts : Completes false (otherwise (part every e)) []
  else_starts = ([], [], λ r still. (still, no_else r (sees_none is_else (lex.key words.Else) tells_else refl r still)))

  else_runs : Runs false d e Any false Calm (always Calm) (otherwise (part judged d)) (otherwise (part every e))
  unfolding otherwise
  else_runs s calm ts = by ts (sees is_else ts) refl
    where
      by : (ts : List Lexeme) (b : Bool) → sees is_else ts ≡ b → Ran false d e Any false s (always Calm) (otherwise (part every e)) ts (or_nothing b (part judged d) ts)
      by ts false none = record {
        us = [];
        split = refl;
        some = tt;
        cleaned = refl;
        state = calm;
        opens = no_opens false e (otherwise (part every e));
        y = [];
        rel = tt;
        passes = λ r like. no_else r (still_over is_else (lex.key words.Else) tells_else refl false ts r like none);
      }
      by [] true saw = absurd (cc)
      by (l ∷ ls) true saw =
          let is : l.symbol ≡ lex.key words.Else = tells_else.only l.symbol saw in
          loosen false d e Any true s (always Calm) (otherwise (part every e)) (l ∷ ls) (part judged d ls)
          (front false d e Any s (always Calm) (otherwise (part every e)) (part every e) l ls (λ r. rw saw refl) (ap (λ x. right_leaf (leaf_at s x)) is ∙ word_right words.Else s calm)
          (λ n. absurd (clash (ap nests (sym is) ∙ n))) true (part judged d ls) (parts (step s l.symbol) (subst (λ x. Calm (step s x)) (sym is) (calm_word words.Else (λ t. refl) s calm)) ls))

  abbrev chosen : (Leaf → Option Reading) → ℕ → Parser SieveItem
  chosen fits k = choice (condition fits k) (part fits k)

  choice_runs : Runs false d e Any true Calm (always Calm) (chosen judged d) (chosen every e)
  unfolding choice
  choice_runs =
      bind_runs false d e le Any true Calm (always Calm) Any false (always Calm) (sep is_elif (a_case judged d) []) (sep is_elif (a_case every e) []) (λ p. read_map (item.Choice p.0) (otherwise (part judged d) p.1))
      (λ p. read_map (item.Choice p.0) (otherwise (part every e) p.1)) cases_runs
      (λ x y rel. map_loose x y) (λ y some. (else_starts.0, item.Choice y else_starts.1, λ r tail. let c = else_starts.2 r tail in (c.0, ap (read_map (item.Choice y)) c.1)))
    where
      map_loose : (x y : List (Cond × List SieveItem)) → Runs false d e Any false Calm (always Calm) (λ r. read_map (item.Choice x) (otherwise (part judged d) r)) (λ r. read_map (item.Choice y) (otherwise (part every e) r))
      map_loose x y = map_runs d e le Any false Calm (always Calm) Any (always Calm) (otherwise (part judged d)) (otherwise (part every e)) (item.Choice x) (item.Choice y) else_runs (λ u v r. tt) (λ u t h. h)

-- ---- items

item_from : (d e : ℕ) → d ≤ e → Runs false d e Any true Calm (always Calm) (part judged d) (part every e) → Runs false d e Any true Calm (always Calm) (an_item judged d) (an_item every e)
item_from d e le parts s calm ts =
    let ran = item_by_runs d e le (choice (condition judged d) (part judged d)) (choice (condition every e) (part every e)) (choice_runs d e le parts) s calm ts in
    subst (λ (z : Parser SieveItem). Ran false d e Any true s (always Calm) z ts (an_item judged d ts)) (λ i r. sym (item_is every e r) i)
    (subst (λ (z : Read SieveItem). Ran false d e Any true s (always Calm) (item_by every (choice (condition every e) (part every e))) ts z) (sym (item_is judged d ts)) ran)

pub item_runs : (d e : ℕ) → d ≤ e → Runs false d e Any true Calm (always Calm) (an_item judged d) (an_item every e)
item_runs zero e le = item_from 0 e le (no_part e)
item_runs (suc d) zero le = absurd (omega (arith, le))
item_runs (suc d) (suc e) le = item_from (suc d) (suc e) le (a_part d e (omega (arith, le)) (item_runs d e (omega (arith, le))))

-- ---- the whole text

abbrev finish : List SieveItem → Parser (List SieveItem)
finish found r = Ok (found, r)

end_by_head : (r ts : List Lexeme) → head r ≡ head ts → is_end r ≡ is_end ts
end_by_head [] [] h = refl
end_by_head [] (l ∷ ls) h = absurd (cc)
end_by_head (l ∷ ls) [] h = absurd (cc)
end_by_head (l ∷ ls) (m ∷ ms) h = refl

module _ (fits : Leaf → Option Reading) (d : ℕ) where
  abbrev whole : List SieveItem → Parser (List SieveItem)
  whole = body is_end (an_item fits d) (item_shrinks fits d) finish

  whole_is : (ts : List Lexeme) → whole [] ts ≡ file fits d ts
  whole_is ts = by (file fits d ts)
    where
      by : (r : Read (List SieveItem)) → (r >>= λ q. Ok (q.0, q.1)) ≡ r
      by (Ok p) = refl
      by (Err x) = refl

whole_starts : (e : ℕ) (gone : List SieveItem) → Completes true (whole every e gone) []
whole_starts e gone =
    ([], gone, λ r none. (tail_still true r none, subst (λ (m : List Lexeme). whole every e gone m ≡ Ok (gone, m)) (sym none) (body_stops is_end (an_item every e) (item_shrinks every e) finish gone [] refl)))

whole_ending : (d e : ℕ) (s : State) → Calm s → (ts : List Lexeme) (found gone : List SieveItem) → is_end ts ≡ true → Ran true d e Any false s (always Calm) (whole every e gone) ts (Ok (found, ts))
whole_ending d e s calm (l ∷ ls) found gone over = absurd (cc)
whole_ending d e s calm [] found gone over = record {
  us = [];
  split = refl;
  some = tt;
  cleaned = refl;
  state = calm;
  opens = no_opens true e (whole every e gone);
  y = gone;
  rel = tt;
  passes = λ r like. let none = nothing r like in subst (λ (m : List Lexeme). whole every e gone m ≡ Ok (gone, m)) (sym none) (body_stops is_end (an_item every e) (item_shrinks every e) finish gone [] refl);
}
  where
    nothing : (r : List Lexeme) → Like true [] r → r ≡ []
    nothing r (inl h) = no_head r h
    nothing r (inr h) = h

-- the file
pub file_runs : (d e : ℕ) → d ≤ e → (ts : List Lexeme) → Ran true d e Any false window.other (always Calm) (file every e) ts (file judged d ts)
file_runs d e le ts =
    let ran = body_runs true d e le is_end (an_item judged d) (an_item every e) (item_shrinks judged d) (item_shrinks every e) finish end_by_head (whole_ending d e) (whole_starts e) (item_runs d e le) window.other tt ts in
    subst (λ (z : Parser (List SieveItem)). Ran true d e Any false window.other (always Calm) z ts (file judged d ts)) (λ i r. whole_is every e r i)
    (subst (λ (z : Read (List SieveItem)). Ran true d e Any false window.other (always Calm) (whole every e []) ts z) (whole_is judged d ts) ran)
