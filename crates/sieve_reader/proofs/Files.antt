-- What is read as a sieve is one, each sieve is read, and tokens have one tree.
use Rattle.std.proofs.Common.{◌≡◌, ℕ, zero, suc, Bool, true, false, List, [], ◌∷◌, ◌++◌, length, Option, Ok, refl, sym, ap, ◌∙◌, subst, inl, inr, arith}
use Rattle.std.proofs.lemmas.List.{append-nil}
use Rattle.sieve_tokens.specs.declared.sign.Sign.TheVariants as signs
use Rattle.sieve_tokens.specs.declared.word.Keyword.TheVariants as words
use Rattle.sieve_reader.specs.Grammar.{how_word, AreSeparated, IsAction, IsBlock, IsCase, IsChoice, IsCond, IsFile, IsItem}
use Rattle.sieve_reader.specs.Leaf.{Leaf, Reading}
use Rattle.sieve_reader.specs.Lexeme as lex
use Rattle.sieve_reader.specs.Lexeme.{symbols, Lexeme, Symbol}
use Rattle.sieve_reader.specs.Parse.{an_item, block, choice, condition, deep_block, file, is_elif, is_else, is_end, is_sign, item_at, item_by, items, sees, sign, Read}
use Rattle.sieve_tree.specs.declared.tree.Cond.{Cond}
use Rattle.sieve_tree.specs.declared.tree.How.{How}
use Rattle.sieve_tree.specs.declared.tree.How.TheVariants as how
use Rattle.sieve_tree.specs.declared.tree.SieveItem.{SieveItem}
use Rattle.sieve_reader.proofs.Actions.{action_complete, item_by_sound, one_token, two_tokens}
use Rattle.sieve_reader.proofs.Conditions.{cond_complete, cond_some, cond_sound, NeitherSign}
use Rattle.sieve_reader.proofs.Items.{block_complete, block_opens, block_sound, choice_complete, choice_sound, items_complete, items_enough, items_sound, NoElse}
use Rattle.sieve_reader.proofs.Picks.{bound, held, Complete, Nonempty, Sound}
use Rattle.sieve_reader.proofs.Tests.{Fits}

-- ---- how items begin

-- the words that items begin with
abbrev begins_item : Symbol → Bool
begins_item (lex.key words.If) = true
begins_item (lex.key words.Keep) = true
begins_item (lex.key words.Drop) = true
begins_item (lex.key words.Path) = true
begins_item (lex.key words.Add) = true
begins_item (lex.key words.Force) = true
begins_item (lex.key words.Update) = true
begins_item (lex.key words.Remove) = true
begins_item _ = false

-- what stands there begins no other thing
record Alone (s : Symbol) : Type 0 where
  no_close : is_sign signs.CloseBrace s ≡ false
  no_elif : is_elif s ≡ false
  no_else : is_else s ≡ false

alone : (s : Symbol) → begins_item s ≡ true → Alone s
alone (lex.key words.If) e = record { no_close = refl; no_elif = refl; no_else = refl }
alone (lex.key words.Keep) e = record { no_close = refl; no_elif = refl; no_else = refl }
alone (lex.key words.Drop) e = record { no_close = refl; no_elif = refl; no_else = refl }
alone (lex.key words.Path) e = record { no_close = refl; no_elif = refl; no_else = refl }
alone (lex.key words.Add) e = record { no_close = refl; no_elif = refl; no_else = refl }
alone (lex.key words.Force) e = record { no_close = refl; no_elif = refl; no_else = refl }
alone (lex.key words.Update) e = record { no_close = refl; no_elif = refl; no_else = refl }
alone (lex.key words.Remove) e = record { no_close = refl; no_elif = refl; no_else = refl }
alone s e = absurd (cc)

abbrev BeginsItem : List Lexeme → Type 0
BeginsItem us = (l : Lexeme) × (ls : List Lexeme) × (us ≡ l ∷ ls) × (begins_item l.symbol ≡ true)

way_begins : (fits : Leaf → Reading → Type 0) (way : How) → begins_item (lex.key (how_word fits way)) ≡ true
way_begins fits how.Add = refl
way_begins fits how.Force = refl
way_begins fits how.Update = refl

module _ (fits : Leaf → Option Reading) where
  action_begins : (us : List Lexeme) (i : SieveItem) → IsAction (Fits fits) us i → BeginsItem us
  action_begins us i h = elim h [
    | inl keep ↦ let (l, at, is) = one_token fits us (lex.key words.Keep) keep.1 in (l, [], at, ap begins_item is)
    | inr more ↦ elim more [
      | inl out ↦ let (l, at, is) = one_token fits us (lex.key words.Drop) out.1 in (l, [], at, ap begins_item is)
      | inr others ↦ elim others [
        | inl path ↦ let (names, same, (first, vs, at, is, are)) = path in (first, vs, at, ap begins_item is)
        | inr last ↦ elim last [
          | inl set ↦
              let (key, way, from, place, same, is) = set in
              (is.0, is.1 ∷ is.2 ∷ is.3 ∷ [], is.4, ap begins_item is.5 ∙ way_begins (Fits fits) way)
          | inr remove ↦
              let (key, same, is) = remove in
              let (l, m, at, word, named) = two_tokens fits us (lex.key words.Remove) (lex.name key) is.0 in
              (l, m ∷ [], at, ap begins_item word)
        ]
      ]
    ]
  ]

  choice_begins : (IsC : List Lexeme → Cond → Type 0) (IsP : List Lexeme → List SieveItem → Type 0) (us : List Lexeme) (i : SieveItem) → IsChoice (Fits fits) IsC IsP us i → BeginsItem us
  choice_begins IsC IsP us i h = let (cases, otherwise, first, vs, ws, same, at, is, are, elses) = h in (first, vs ++ ws, at, ap begins_item is)

  item_begins : (d : ℕ) (us : List Lexeme) (i : SieveItem) → IsItem (Fits fits) d us i → BeginsItem us
  unfolding IsItem
  item_begins zero us i h = action_begins us i h
  item_begins (suc d) us i h = elim h [ inl action ↦ action_begins us i action | inr chosen ↦ choice_begins (IsCond (Fits fits) (suc d)) (IsBlock (Fits fits) (IsItem (Fits fits) d)) us i chosen ]

  pub item_some : (d : ℕ) → Nonempty (IsItem (Fits fits) d)
  item_some d us i h = let (l, ls, at, is) = item_begins d us i h in let e = ap length at in omega arith

  at_front : (d : ℕ) (us rest : List Lexeme) (i : SieveItem) → IsItem (Fits fits) d us i → (l : Lexeme) × (ls : List Lexeme) × (us ++ rest ≡ l ∷ ls) × Alone l.symbol
  at_front d us rest i h = let (l, ls, at, is) = item_begins d us i h in (l, ls ++ rest, ap (λ (m : List Lexeme). m ++ rest) at, alone l.symbol is)

  goes_on : (d : ℕ) (us rest : List Lexeme) (i : SieveItem) → IsItem (Fits fits) d us i → sees (is_sign signs.CloseBrace) (us ++ rest) ≡ false
  goes_on d us rest i h = let (l, ls, at, is) = at_front d us rest i h in rw at (is.no_close)

  no_end : (d : ℕ) (us rest : List Lexeme) (i : SieveItem) → IsItem (Fits fits) d us i → is_end (us ++ rest) ≡ false
  no_end d us rest i h = let (l, ls, at, is) = at_front d us rest i h in rw at refl

  next_item : (d : ℕ) (us rest : List Lexeme) (i : SieveItem) → IsItem (Fits fits) d us i → NoElse (us ++ rest)
  next_item d us rest i h = let (l, ls, at, is) = at_front d us rest i h in (rw at (is.no_elif), rw at (is.no_else))

  close_ends : (rest : List Lexeme) → sees (is_sign signs.CloseBrace) rest ≡ true → NoElse rest
  close_ends [] e = absurd (cc)
  close_ends (l ∷ ls) e = by l.symbol e
    where
      by : (s : Symbol) → is_sign signs.CloseBrace s ≡ true → (is_elif s ≡ false) × (is_else s ≡ false)
      by (lex.key k) e = absurd (cc)
      by (lex.name k) e = (refl, refl)
      by (lex.quoted k) e = (refl, refl)
      by (lex.whole k) e = (refl, refl)
      by (lex.decimal k) e = (refl, refl)
      by (lex.sign k) e = (refl, refl)

  end_ends : (rest : List Lexeme) → is_end rest ≡ true → NoElse rest
  end_ends [] e = (refl, refl)
  end_ends (l ∷ ls) e = absurd (cc)

  -- ---- what is read is an item

  abbrev Nothing : List Lexeme → List SieveItem → Type 0
  Nothing us xs = ⊥

  deep_sound : Sound deep_block Nothing
  unfolding deep_block
  deep_sound ls rest xs e = let (p, opens, later) = bound (sign signs.OpenBrace ls) _ (xs, rest) e in absurd (cc)

  no_case : (IsC : List Lexeme → Cond → Type 0) (us : List Lexeme) (cases : List (Cond × List SieveItem)) → AreSeparated (lex.key words.Elif) (IsCase (Fits fits) IsC Nothing) us cases → ⊥
  no_case IsC us [] are = are
  no_case IsC us (c ∷ []) are = are.4
  no_case IsC us (c ∷ d ∷ cs) are = are.5.4

  pub item_sound : (d : ℕ) → Sound (an_item fits d) (IsItem (Fits fits) d)
  unfolding an_item IsItem
  item_sound zero ls rest i e =
      item_by_sound fits (choice (condition fits zero) deep_block) (IsAction (Fits fits)) (λ us i h. h)
      (λ l ls rest i is e.
      let (us, at, choices) = choice_sound fits (condition fits zero) (IsCond (Fits fits) zero) deep_block Nothing (cond_sound fits zero) deep_sound ls rest i e in
      let (cases, otherwise, first, vs, ws, same, all, begins, are, elses) = choices l is in
      absurd (no_case (IsCond (Fits fits) zero) vs cases are))
      ls rest i e
  item_sound (suc d) ls rest i e =
      item_by_sound fits (choice (condition fits (suc d)) (block (an_item fits d))) (IsItem (Fits fits) (suc d)) (λ us i h. inl h)
      (λ l ls rest i is e.
      let (us, at, choices) = choice_sound fits (condition fits (suc d)) (IsCond (Fits fits) (suc d)) (block (an_item fits d)) (IsBlock (Fits fits) (IsItem (Fits fits) d)) (cond_sound fits (suc d))
      (block_sound fits (an_item fits d) (IsItem (Fits fits) d) (item_sound d)) ls rest i e in
      (l ∷ us, ap (λ (m : List Lexeme). l ∷ m) at, inr (choices l is)))
      ls rest i e

  -- ---- each item is read

  pub item_complete : (d : ℕ) → Complete NoElse (an_item fits d) (IsItem (Fits fits) d)
  unfolding an_item IsItem
  item_complete zero us rest i h follows = action_complete fits (choice (condition fits zero) deep_block) us rest i h tt
  item_complete (suc d) us rest i h follows = elim h [
    | inl action ↦ action_complete fits (choice (condition fits (suc d)) (block (an_item fits d))) us rest i action tt
    | inr chosen ↦
        let (cases, otherwise, first, vs, ws, same, at, is, are, elses) = chosen in
        let part_complete = block_complete fits (an_item fits d) (IsItem (Fits fits) d) NoElse (item_complete d) (item_some d) (goes_on d) (next_item d) close_ends in
        let read = choice_complete fits (condition fits (suc d)) (IsCond (Fits fits) (suc d)) (block (an_item fits d)) (IsBlock (Fits fits) (IsItem (Fits fits) d)) NeitherSign (cond_complete fits (suc d)) part_complete
        (cond_some fits (suc d)) (block_opens fits (an_item fits d) (IsItem (Fits fits) d)) vs ws rest cases otherwise are elses follows in
        let behind = choice (condition fits (suc d)) (block (an_item fits d)) in
        ap (λ (m : List Lexeme). item_by fits behind (m ++ rest)) at
        ∙ (ap (λ (s : Symbol). item_at fits behind (first ∷ ((vs ++ ws) ++ rest)) s ((vs ++ ws) ++ rest)) is ∙ (read ∙ ap (λ (x : SieveItem). Ok (x, rest)) (sym same)))
  ]

  -- ---- files

  ends : (rest : List Lexeme) → is_end rest ≡ true → rest ≡ []
  ends [] e = refl
  ends (l ∷ ls) e = absurd (cc)

  -- what is read to the end is a file
  pub file_sound : (d : ℕ) (ls : List Lexeme) (xs : List SieveItem) → file fits d ls ≡ Ok (xs, []) → IsFile (Fits fits) d ls xs
  file_sound d ls xs e =
      let (us, more, all, at, are) = items_sound is_end (an_item fits d) (IsItem (Fits fits) d) (item_sound d) (suc (length ls)) [] ls xs [] e in
      let whole : us ≡ ls = sym (append-nil us) ∙ sym at in
      subst (λ (m : List Lexeme). IsFile (Fits fits) d m xs) whole (subst (IsFile (Fits fits) d us) (sym all) are)

  -- each file is read
  pub file_complete : (d : ℕ) (ls : List Lexeme) (xs : List SieveItem) → IsFile (Fits fits) d ls xs → file fits d ls ≡ Ok (xs, [])
  file_complete d ls xs h =
      let few = items_enough is_end NoElse (an_item fits d) (IsItem (Fits fits) d) (item_complete d) (item_some d) (no_end d) (next_item d) end_ends ls xs h in
      let read = items_complete is_end NoElse (an_item fits d) (IsItem (Fits fits) d) (item_complete d) (item_some d) (no_end d) (next_item d) end_ends (suc (length ls)) [] ls [] xs h (omega arith) refl in
      ap (items is_end (an_item fits d) (suc (length ls)) []) (sym (append-nil ls)) ∙ read

  -- tokens have one tree
  pub one_file : (d : ℕ) (ls : List Lexeme) (xs ys : List SieveItem) → IsFile (Fits fits) d ls xs → IsFile (Fits fits) d ls ys → xs ≡ ys
  one_file d ls xs ys this that = same (sym (file_complete d ls xs this) ∙ file_complete d ls ys that)
    where
      same : ◌≡◌ {A = Read (List SieveItem)} (Ok (xs, [])) (Ok (ys, [])) → xs ≡ ys
      same e = let both = held (xs, []) (ys, []) e in λ j. (both j).0
