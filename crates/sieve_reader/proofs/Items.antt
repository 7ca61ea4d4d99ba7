-- Things one behind the other, blocks and choices.
use Rattle.std.proofs.Common.{◌≡◌, ℕ, zero, suc, ◌+◌, ◌<◌, ◌≤◌, Bool, true, false, List, [], ◌∷◌, ◌++◌, length, drop, Option, Ok, Err, refl, sym, ap, ◌∙◌, subst, inl, inr, arith, append_assoc, length-append}
use Rattle.std.proofs.lemmas.List.{append-nil}
use Rattle.sieve_tokens.specs.declared.sign.Sign.TheVariants as signs
use Rattle.sieve_tokens.specs.declared.word.Keyword.TheVariants as words
use Rattle.sieve_reader.specs.Grammar.{AreItems, AreSeparated, IsBlock, IsCase, IsChoice, IsElse}
use Rattle.sieve_reader.specs.Leaf.{Leaf, Reading}
use Rattle.sieve_reader.specs.Lexeme as lex
use Rattle.sieve_reader.specs.Lexeme.{Lexeme, Symbol}
use Rattle.sieve_reader.specs.Parse.{block, case, choice, is_elif, is_else, is_sign, items, or_more, or_nothing, otherwise, read_map, sees, separated, sign, Parser, Read, ◌>>=◌}
use Rattle.sieve_tree.specs.declared.tree.Cond.{Cond}
use Rattle.sieve_tree.specs.declared.tree.SieveItem.{SieveItem}
use Rattle.sieve_tree.specs.declared.tree.SieveItem.TheVariants as item
use Rattle.sieve_reader.proofs.Conditions.{NeitherSign}
use Rattle.sieve_reader.proofs.Picks.{bound, closed_is, closed_sound, held, mapped, sees_first, sign_is, sign_sound, Complete, Nonempty, Sound, Tells}
use Rattle.sieve_reader.proofs.Rows.{enough, separated_complete, separated_sound, Anything}
use Rattle.sieve_reader.proofs.Tests.{Fits}

-- ---- one behind the other

module _ {A : Type 0} (stops : List Lexeme → Bool) (thing : Parser A) (Is : List Lexeme → A → Type 0) (sound : Sound thing Is) where
  abbrev All : List A → List Lexeme → List A → List Lexeme → Type 0
  All found ls xs rest = (us : List Lexeme) × (more : List A) × (xs ≡ found ++ more) × (ls ≡ us ++ rest) × AreItems Is us more

  pub items_sound : (n : ℕ) (found : List A) (ls : List Lexeme) (xs : List A) (rest : List Lexeme) → items stops thing n found ls ≡ Ok (xs, rest) → All found ls xs rest
  unfolding items
  items_sound zero found ls xs rest e = absurd (cc)
  items_sound (suc n) found ls xs rest e = turn (stops ls) e (λ p. items_sound n (found ++ p.0 ∷ []) p.1 xs rest)
    where
      step : (r : Read A) → thing ls ≡ r → (r >>= λ p. items stops thing n (found ++ p.0 ∷ []) p.1) ≡ Ok (xs, rest)
          → ((p : A × List Lexeme) → items stops thing n (found ++ p.0 ∷ []) p.1 ≡ Ok (xs, rest) → All (found ++ p.0 ∷ []) p.1 xs rest) → All found ls xs rest
      step (Err x) read e more = absurd (cc)
      step (Ok p) read e more =
          let (us, at, i) = sound ls p.1 p.0 read in
          let (vs, others, all, behind, are) = more p e in
          let joined : ls ≡ (us ++ vs) ++ rest = at ∙ (ap (λ (m : List Lexeme). us ++ m) behind ∙ sym (append_assoc us vs rest)) in
          (us ++ vs, p.0 ∷ others, all ∙ append_assoc found (p.0 ∷ []) others, joined, (us, vs, refl, i, are))

      turn : (b : Bool) → or_more b (thing ls >>= λ p. items stops thing n (found ++ p.0 ∷ []) p.1) found ls ≡ Ok (xs, rest)
          → ((p : A × List Lexeme) → items stops thing n (found ++ p.0 ∷ []) p.1 ≡ Ok (xs, rest) → All (found ++ p.0 ∷ []) p.1 xs rest) → All found ls xs rest
      turn true e more =
          let same = held (found, ls) (xs, rest) e in
          let done : found ≡ xs = λ j. (same j).0 in
          ([], [], sym done ∙ sym (append-nil found), (λ j. (same j).1), refl)
      turn false e more = step (thing ls) refl e more

module _ {A : Type 0} (stops : List Lexeme → Bool) (May : List Lexeme → Type 0) (thing : Parser A) (Is : List Lexeme → A → Type 0)
    (complete : Complete May thing Is) (some : Nonempty Is)
    (goes : (us rest : List Lexeme) (x : A) → Is us x → stops (us ++ rest) ≡ false)
    (next : (us rest : List Lexeme) (x : A) → Is us x → May (us ++ rest))
    (last : (rest : List Lexeme) → stops rest ≡ true → May rest) where
  pub items_enough : (us : List Lexeme) (xs : List A) → AreItems Is us xs → length xs ≤ length us
  items_enough us [] are = omega arith
  items_enough us (x ∷ xs) are =
      let (vs, ws, e, i, more) = are in
      let h = some vs x i in
      let m = items_enough ws xs more in
      let long : length us ≡ length vs + length ws = ap length e ∙ length-append vs ws in
      omega arith

  may_follow : (ws rest : List Lexeme) (xs : List A) → AreItems Is ws xs → stops rest ≡ true → May (ws ++ rest)
  may_follow ws rest [] are over = subst (λ (m : List Lexeme). May (m ++ rest)) (sym are) (last rest over)
  may_follow ws rest (x ∷ xs) are over =
      let (us, vs, e, i, more) = are in
      let at : ws ++ rest ≡ us ++ (vs ++ rest) = ap (λ (m : List Lexeme). m ++ rest) e ∙ append_assoc us vs rest in
      subst May (sym at) (next us (vs ++ rest) x i)

  pub items_complete : (n : ℕ) (found : List A) (us rest : List Lexeme) (xs : List A) → AreItems Is us xs → length xs < n → stops rest ≡ true
      → items stops thing n found (us ++ rest) ≡ Ok (found ++ xs, rest)
  unfolding items
  items_complete zero found us rest xs are le over = absurd (omega arith)
  items_complete (suc n) found us rest [] are le over = rw (are, over) (ap (λ (m : List A). Ok (m, rest)) (sym (append-nil found)))
  items_complete (suc n) found us rest (x ∷ xs) are le over =
      let (vs, ws, e, i, more) = are in
      let at : us ++ rest ≡ vs ++ (ws ++ rest) = ap (λ (m : List Lexeme). m ++ rest) e ∙ append_assoc vs ws rest in
      let later = items_complete n (found ++ x ∷ []) ws rest xs more (omega arith) over in
      rw (at, goes vs (ws ++ rest) x i, complete vs (ws ++ rest) x i (may_follow ws rest xs more over)) (later ∙ ap (λ (m : List A). Ok (m, rest)) (append_assoc found (x ∷ []) xs))

-- ---- blocks

closes : List Lexeme → Bool
closes ls = sees (is_sign signs.CloseBrace) ls

module _ (fits : Leaf → Option Reading) (thing : Parser SieveItem) (Is : List Lexeme → SieveItem → Type 0) where
  pub block_sound : Sound thing Is → Sound (block thing) (IsBlock (Fits fits) Is)
  unfolding block
  block_sound sound ls rest xs e =
      let (p, opens, later) = bound (sign signs.OpenBrace ls) _ (xs, rest) e in
      let (q, are, end) = bound (items (sees (is_sign signs.CloseBrace)) thing (suc (length p.1)) [] p.1) _ (xs, rest) later in
      let (first, at, is) = sign_sound signs.OpenBrace p.0 ls p.1 opens in
      let (us, more, all, mid, inner) = items_sound (sees (is_sign signs.CloseBrace)) thing Is sound (suc (length p.1)) [] p.1 q.0 q.1 are in
      let (last, ends, closing, same) = closed_sound signs.CloseBrace q.0 xs q.1 rest end in
      let whole : ls ≡ (first ∷ (us ++ last ∷ [])) ++ rest =
      at ∙ ap (λ (m : List Lexeme). first ∷ m) (mid ∙ ap (λ (m : List Lexeme). us ++ m) ends ∙ sym (append_assoc us (last ∷ []) rest)) in
      (first ∷ (us ++ last ∷ []), whole, (first, us, last, refl, is, closing, subst (AreItems Is us) (sym (same ∙ all)) inner))

  module _ (May : List Lexeme → Type 0) (complete : Complete May thing Is) (some : Nonempty Is)
      (goes : (us rest : List Lexeme) (x : SieveItem) → Is us x → sees (is_sign signs.CloseBrace) (us ++ rest) ≡ false)
      (next : (us rest : List Lexeme) (x : SieveItem) → Is us x → May (us ++ rest))
      (last : (rest : List Lexeme) → sees (is_sign signs.CloseBrace) rest ≡ true → May rest) where
    pub block_complete : Complete Anything (block thing) (IsBlock (Fits fits) Is)
    unfolding block
    block_complete ls rest xs h _ =
        let (first, us, end, at, opens, closing, are) = h in
        let all : ls ++ rest ≡ first ∷ (us ++ (end ∷ rest)) = ap (λ (m : List Lexeme). m ++ rest) at ∙ ap (λ (m : List Lexeme). first ∷ m) (append_assoc us (end ∷ []) rest) in
        let over : sees (is_sign signs.CloseBrace) (end ∷ rest) ≡ true = rw closing refl in
        let long = items_enough (sees (is_sign signs.CloseBrace)) May thing Is complete some goes next last us xs are in
        let room : length xs < suc (length (us ++ (end ∷ rest))) = omega (arith, length-append us (end ∷ rest)) in
        rw (
          all,
          sign_is signs.OpenBrace first (us ++ (end ∷ rest)) opens,
          items_complete (sees (is_sign signs.CloseBrace)) May thing Is complete some goes next last (suc (length (us ++ (end ∷ rest)))) [] us (end ∷ rest) xs are room over,
        )
        (closed_is signs.CloseBrace xs end rest closing)

  pub block_opens : (us rest : List Lexeme) (xs : List SieveItem) → IsBlock (Fits fits) Is us xs → NeitherSign (us ++ rest)
  block_opens us rest xs h =
      let (first, vs, end, at, opens, closing, are) = h in
      (rw (at, opens) refl, rw (at, opens) refl)

  pub block_some : Nonempty (IsBlock (Fits fits) Is)
  block_some us xs h = let e = ap length h.3 in omega arith

-- ---- choices

only_elif : (symbol : Symbol) → is_elif symbol ≡ true → symbol ≡ lex.key words.Elif
only_elif (lex.key words.Elif) e = refl
only_elif symbol e = absurd (cc)

only_else : (symbol : Symbol) → is_else symbol ≡ true → symbol ≡ lex.key words.Else
only_else (lex.key words.Else) e = refl
only_else symbol e = absurd (cc)

pub tells_elif : Tells is_elif (lex.key words.Elif)
tells_elif = record { own = refl; only = only_elif }

pub tells_else : Tells is_else (lex.key words.Else)
tells_else = record { own = refl; only = only_else }

-- neither `elif` nor `else` follows
abbrev pub NoElse : List Lexeme → Type 0
NoElse ls = (sees is_elif ls ≡ false) × (sees is_else ls ≡ false)

module _ (fits : Leaf → Option Reading) (condition : Parser Cond) (IsC : List Lexeme → Cond → Type 0) (part : Parser (List SieveItem)) (IsP : List Lexeme → List SieveItem → Type 0) where
  module _ (cond_sound : Sound condition IsC) (part_sound : Sound part IsP) where
    case_sound : Sound (case condition part) (IsCase (Fits fits) IsC IsP)
    unfolding case
    case_sound ls rest c e =
        let (p, read, later) = bound (condition ls) _ (c, rest) e in
        let (q, ran, end) = bound (part p.1) _ (c, rest) later in
        let (us, at, is) = cond_sound ls p.1 p.0 read in
        let (vs, behind, are) = part_sound p.1 q.1 q.0 ran in
        let same = held ((p.0, q.0), q.1) (c, rest) end in
        let over : q.1 ≡ rest = λ j. (same j).1 in
        let all : ls ≡ (us ++ vs) ++ rest = at ∙ (ap (λ (m : List Lexeme). us ++ m) (behind ∙ ap (λ (m : List Lexeme). vs ++ m) over) ∙ sym (append_assoc us vs rest)) in
        (us ++ vs, all, (us, vs, refl, subst (IsC us) (λ j. ((same j).0).0) is, subst (IsP vs) (λ j. ((same j).0).1) are))

    else_sound : Sound (otherwise part) (IsElse (Fits fits) IsC IsP)
    unfolding otherwise
    else_sound ls rest xs e = by (sees is_else ls) refl e
      where
        by : (b : Bool) → sees is_else ls ≡ b → or_nothing b part ls ≡ Ok (xs, rest) → (us : List Lexeme) × (ls ≡ us ++ rest) × IsElse (Fits fits) IsC IsP us xs
        by true saw e =
            let (l, begins, symbol) = sees_first is_else (lex.key words.Else) tells_else ls saw in
            let (us, at, are) = part_sound (drop 1 ls) rest xs e in
            (l ∷ us, begins ∙ ap (λ (m : List Lexeme). l ∷ m) at, inr (l, us, refl, symbol, are))
        by false saw e =
            let same = held ([], ls) (xs, rest) e in
            ([], (λ j. (same j).1), inl (refl, sym (λ j. (same j).0)))

    -- behind `if`
    pub choice_sound : (ls rest : List Lexeme) (i : SieveItem) → choice condition part ls ≡ Ok (i, rest)
        → (us : List Lexeme) × (ls ≡ us ++ rest) × ((first : Lexeme) → first.symbol ≡ lex.key words.If → IsChoice (Fits fits) IsC IsP (first ∷ us) i)
    unfolding choice
    choice_sound ls rest i e =
        let (p, read, later) = bound (separated is_elif (case condition part) (length ls) [] ls) _ (i, rest) e in
        let (us, more, all, at, are) = separated_sound is_elif (lex.key words.Elif) tells_elif (case condition part) (IsCase (Fits fits) IsC IsP) case_sound (length ls) [] ls p.0 p.1 read in
        let (xs, ran, same) = mapped (item.Choice p.0) (otherwise part p.1) i rest later in
        let (vs, behind, elses) = else_sound p.1 rest xs ran in
        let whole : ls ≡ (us ++ vs) ++ rest = at ∙ (ap (λ (m : List Lexeme). us ++ m) behind ∙ sym (append_assoc us vs rest)) in
        (us ++ vs, whole, λ first begins. (p.0, xs, first, us, vs, same, refl, begins, subst (AreSeparated (lex.key words.Elif) (IsCase (Fits fits) IsC IsP) us) (sym all) are, elses))

  module _ (May : List Lexeme → Type 0) (cond_complete : Complete May condition IsC) (part_complete : Complete Anything part IsP) (cond_some : Nonempty IsC)
      (opens : (us rest : List Lexeme) (xs : List SieveItem) → IsP us xs → May (us ++ rest)) where
    case_complete : Complete Anything (case condition part) (IsCase (Fits fits) IsC IsP)
    unfolding case
    case_complete us rest c h _ =
        let (vs, ws, at, is, are) = h in
        let all : us ++ rest ≡ vs ++ (ws ++ rest) = ap (λ (m : List Lexeme). m ++ rest) at ∙ append_assoc vs ws rest in
        rw (all, cond_complete vs (ws ++ rest) c.0 is (opens ws rest c.1 are), part_complete ws rest c.1 are tt) refl

    case_some : Nonempty (IsCase (Fits fits) IsC IsP)
    case_some us c h =
        let some = cond_some h.0 c.0 h.3 in
        let e = ap length h.2 in
        omega (arith, length-append h.0 h.1)

    else_complete : (us rest : List Lexeme) (xs : List SieveItem) → IsElse (Fits fits) IsC IsP us xs → sees is_else rest ≡ false → otherwise part (us ++ rest) ≡ Ok (xs, rest)
    unfolding otherwise
    else_complete us rest xs h over = elim h [
      | inl none ↦ rw (none.0, over) (ap (λ (m : List SieveItem). Ok (m, rest)) (sym none.1))
      | inr some ↦ let (first, vs, at, begins, are) = some in rw (at, begins) (part_complete vs rest xs are tt)
    ]

    no_elif : (us rest : List Lexeme) (xs : List SieveItem) → IsElse (Fits fits) IsC IsP us xs → sees is_elif rest ≡ false → sees is_elif (us ++ rest) ≡ false
    no_elif us rest xs h over = elim h [
      | inl none ↦ rw none.0 over
      | inr some ↦ let (first, vs, at, begins, are) = some in rw (at, begins) refl
    ]

    pub choice_complete : (us vs rest : List Lexeme) (cases : List (Cond × List SieveItem)) (xs : List SieveItem) → AreSeparated (lex.key words.Elif) (IsCase (Fits fits) IsC IsP) us cases
        → IsElse (Fits fits) IsC IsP vs xs → NoElse rest → choice condition part ((us ++ vs) ++ rest) ≡ Ok (item.Choice cases xs, rest)
    unfolding choice
    choice_complete us vs rest cases xs are elses over =
        let at = append_assoc us vs rest in
        let long = enough is_elif (lex.key words.Elif) tells_elif Anything (λ l ls is. tt) (case condition part) (IsCase (Fits fits) IsC IsP) case_complete case_some us cases are in
        let room : length cases ≤ length (us ++ (vs ++ rest)) = omega (arith, long.1, length-append us (vs ++ rest)) in
        rw (
          at,
          separated_complete is_elif (lex.key words.Elif) tells_elif Anything (λ l ls is. tt) (case condition part) (IsCase (Fits fits) IsC IsP) case_complete case_some
              (length (us ++ (vs ++ rest))) [] us (vs ++ rest) cases are room tt (no_elif vs rest xs elses over.0),
        )
        (ap (read_map (item.Choice cases)) (else_complete vs rest xs elses over.1))
