-- What is read as an action is one, and each action is read.
use Rattle.std.proofs.Common.{◌≡◌, ℕ, List, [], ◌∷◌, ◌++◌, length, drop, Option, Ok, refl, sym, ap, ◌∙◌, subst, inl, inr, arith}
use Rattle.sieve_tokens.specs.declared.sign.Sign.TheVariants as signs
use Rattle.sieve_tokens.specs.declared.word.Keyword.TheVariants as words
use Rattle.sieve_reader.specs.Grammar.{how_word, AreTexts, IsAction, IsPathName, IsPut, IsSource, IsValue}
use Rattle.sieve_reader.specs.Leaf as leaf
use Rattle.sieve_reader.specs.Leaf.{Leaf, Reading}
use Rattle.sieve_reader.specs.Lexeme as lex
use Rattle.sieve_reader.specs.Lexeme.{literal_of, symbols, Lexeme, Symbol}
use Rattle.sieve_reader.specs.Parse.{field, if_plain, item_at, item_by, literal, path_name, put, put_source, quoted_of, read_map, row, sign, source_at, texts, texts_at, Parser, Read}
use Rattle.sieve_reader.specs.Refusal as cause
use Rattle.sieve_tree.specs.declared.tree.How.{How}
use Rattle.sieve_tree.specs.declared.tree.How.TheVariants as how
use Rattle.sieve_tree.specs.declared.tree.PutSource.{PutSource}
use Rattle.sieve_tree.specs.declared.tree.PutSource.TheVariants as source
use Rattle.sieve_tree.specs.declared.tree.SieveItem.{SieveItem}
use Rattle.sieve_tree.specs.declared.tree.SieveItem.TheVariants as item
use Rattle.sieve_reader.proofs.Picks.{bound, held, mapped, picked_sound, plain_is, quoted_is, sign_is, sign_sound, Complete, Nonempty, Sound}
use Rattle.sieve_reader.proofs.Rows.{row_complete, row_sound, Anything}
use Rattle.sieve_reader.proofs.Tests.{field_sound, literal_sound, Fits}
use Rattle.sieve_reader.proofs.TestsRead.{field_is, literal_complete}

module _ (fits : Leaf → Option Reading) where
  -- ---- paths

  pub path_name_sound : Sound (path_name fits) (IsPathName (Fits fits))
  unfolding path_name
  path_name_sound ls rest name e =
      let h = picked_sound quoted_of (λ content. if_plain content (fits (leaf.path content))) cause.value ls rest name e in
      let (right, same) = plain_is h.2.0 name (fits (leaf.path h.2.0)) h.2.2 in
      let symbol : h.0.symbol ≡ lex.quoted name = quoted_is h.0.symbol h.2.0 h.2.1 ∙ ap (λ (k : List ℕ). lex.quoted k) same in
      (h.0 ∷ [], h.1, (λ i. symbol i ∷ [], subst (λ (k : List ℕ). Fits fits (leaf.path k) leaf.plain) same right))

  texts_at_sound : (l : Lexeme) (ls rest : List Lexeme) (names : List (List ℕ)) (symbol : Symbol) → texts_at fits (l ∷ ls) symbol ≡ Ok (names, rest)
      → (us : List Lexeme) × (l ∷ ls ≡ us ++ rest) × AreTexts (Fits fits) us names
  texts_at_sound l ls rest names (lex.sign signs.OpenBracket) e =
      let (us, at, are) = row_sound (path_name fits) (IsPathName (Fits fits)) path_name_sound (l ∷ ls) rest names e in
      (us, at, inr are)
  texts_at_sound l ls rest names symbol e =
      let (name, read, same) = mapped (λ name. name ∷ []) (path_name fits (l ∷ ls)) names rest e in
      let (us, at, is) = path_name_sound (l ∷ ls) rest name read in
      (us, at, inl (name, same, is))

  texts_sound : Sound (texts fits) (AreTexts (Fits fits))
  unfolding texts
  texts_sound [] rest names e = absurd (cc)
  texts_sound (l ∷ ls) rest names e = texts_at_sound l ls rest names l.symbol e

  path_name_reads : (l : Lexeme) (rest : List Lexeme) (name : List ℕ) → l.symbol ≡ lex.quoted name → Fits fits (leaf.path name) leaf.plain → path_name fits (l ∷ rest) ≡ Ok (name, rest)
  unfolding path_name
  path_name_reads l rest name is right = rw (is, right) refl

  -- tokens of one symbol
  pub one_token : (us : List Lexeme) (s : Symbol) → symbols us ≡ s ∷ [] → (l : Lexeme) × (us ≡ l ∷ []) × (l.symbol ≡ s)
  one_token [] s e = absurd (cc)
  one_token (l ∷ []) s e = (l, refl, cc)
  one_token (l ∷ m ∷ ms) s e = absurd (cc)

  pub two_tokens : (us : List Lexeme) (s t : Symbol) → symbols us ≡ s ∷ t ∷ [] → (l : Lexeme) × (m : Lexeme) × (us ≡ l ∷ m ∷ []) × (l.symbol ≡ s) × (m.symbol ≡ t)
  two_tokens [] s t e = absurd (cc)
  two_tokens (l ∷ []) s t e = absurd (cc)
  two_tokens (l ∷ m ∷ []) s t e = (l, m, refl, cc, cc)
  two_tokens (l ∷ m ∷ o ∷ os) s t e = absurd (cc)

  path_name_complete : Complete Anything (path_name fits) (IsPathName (Fits fits))
  path_name_complete us rest name h _ =
      let (l, at, is) = one_token us (lex.quoted name) h.0 in
      ap (λ (m : List Lexeme). path_name fits (m ++ rest)) at ∙ path_name_reads l rest name is h.1

  pub path_name_some : Nonempty (IsPathName (Fits fits))
  path_name_some us name h = let (l, at, is) = one_token us (lex.quoted name) h.0 in let e = ap length at in omega arith

  texts_complete : Complete Anything (texts fits) (AreTexts (Fits fits))
  unfolding texts
  texts_complete us rest names h _ = elim h [
    | inl one ↦
        let (name, same, is) = one in
        let (l, at, symbol) = one_token us (lex.quoted name) is.0 in
        ap (λ (m : List Lexeme). texts fits (m ++ rest)) at
        ∙ (ap (texts_at fits (l ∷ rest)) symbol
        ∙ (ap (read_map (λ name. name ∷ [])) (path_name_reads l rest name symbol is.1) ∙ ap (λ (x : List (List ℕ)). Ok (x, rest)) (sym same)))
    | inr many ↦
        let (first, vs, last, at, opens, closes, are) = many in
        let read = row_complete (path_name fits) (IsPathName (Fits fits)) path_name_complete path_name_some us rest names many tt in
        let all : us ++ rest ≡ first ∷ ((vs ++ last ∷ []) ++ rest) = ap (λ (m : List Lexeme). m ++ rest) at in
        ap (texts fits) all ∙ (ap (texts_at fits (first ∷ ((vs ++ last ∷ []) ++ rest))) opens ∙ (ap (row (path_name fits)) (sym all) ∙ read))
  ]

  -- ---- setting a field

  abbrev Sourced : List ℕ → How → List Lexeme → List Lexeme → SieveItem → Type 0
  Sourced key way ls rest i = (l : Lexeme) × (from : PutSource) × (ls ≡ l ∷ rest) × (i ≡ item.Put key way from l.at) × IsSource (Fits fits) key l.symbol from

  source_at_sound : (key : List ℕ) (way : How) (l : Lexeme) (ls rest : List Lexeme) (i : SieveItem) (symbol : Symbol) → source_at fits key way l.at (l ∷ ls) symbol ≡ Ok (i, rest) → Sourced key way (l ∷ ls) rest i
  source_at_sound key way l ls rest i (lex.name from) e =
      let (name, read, same) = mapped (λ name. item.Put key way (source.Copy name) l.at) (field fits (l ∷ ls)) i rest e in
      let (m, at, named, right) = field_sound fits (l ∷ ls) rest name read in
      (l, source.Copy name, (λ j. l ∷ (ap (drop 1) at) j), same, (subst (λ (k : Lexeme). k.symbol ≡ lex.name name) (sym (first_is at)) named, right))
    where
      first_is : {m : Lexeme} → l ∷ ls ≡ m ∷ rest → l ≡ m
      first_is e = cc
  source_at_sound key way l ls rest i symbol e =
      let (v, read, same) = mapped (λ v. item.Put key way (source.Fixed v) l.at) (literal fits key (l ∷ ls)) i rest e in
      let (us, at, (m, one, right)) = literal_sound fits key (l ∷ ls) rest v read in
      let all : l ∷ ls ≡ m ∷ rest = at ∙ ap (λ (u : List Lexeme). u ++ rest) one in
      (l, source.Fixed v, (λ j. l ∷ (ap (drop 1) all) j), same, subst (λ (k : Lexeme). IsValue (Fits fits) key k.symbol v) (sym (first_is all)) right)
    where
      first_is : {m : Lexeme} → l ∷ ls ≡ m ∷ rest → l ≡ m
      first_is e = cc

  put_source_sound : (key : List ℕ) (way : How) (ls rest : List Lexeme) (i : SieveItem) → put_source fits key way ls ≡ Ok (i, rest) → Sourced key way ls rest i
  unfolding put_source
  put_source_sound key way [] rest i e = absurd (cc)
  put_source_sound key way (l ∷ ls) rest i e = source_at_sound key way l ls rest i l.symbol e

  put_sound : (way : How) (l : Lexeme) (ls rest : List Lexeme) (i : SieveItem) → l.symbol ≡ lex.key (how_word (Fits fits) way) → put fits way ls ≡ Ok (i, rest)
      → (us : List Lexeme) × (l ∷ ls ≡ us ++ rest) × IsAction (Fits fits) us i
  unfolding put
  put_sound way l ls rest i is e =
      let (p, read, later) = bound (field fits ls) _ (i, rest) e in
      let (q, assigned, end) = bound (sign signs.Assign p.1) _ (i, rest) later in
      let (a, at, named, right) = field_sound fits ls p.1 p.0 read in
      let (b, behind, assign) = sign_sound signs.Assign q.0 p.1 q.1 assigned in
      let (c, from, last, same, sourced) = put_source_sound p.0 way q.1 rest i end in
      let all : l ∷ ls ≡ l ∷ a ∷ b ∷ c ∷ rest = ap (λ (m : List Lexeme). l ∷ m) (at ∙ ap (λ (m : List Lexeme). a ∷ m) (behind ∙ ap (λ (m : List Lexeme). b ∷ m) last)) in
      (l ∷ a ∷ b ∷ c ∷ [], all, inr (inr (inr (inl (p.0, way, from, c.at, same, (l, a, b, c, refl, is, named, assign, refl, right, sourced))))))

  source_reads : (key : List ℕ) (way : How) (l : Lexeme) (rest : List Lexeme) (from : PutSource) → IsSource (Fits fits) key l.symbol from → put_source fits key way (l ∷ rest) ≡ Ok (item.Put key way from l.at, rest)
  unfolding put_source
  source_reads key way l rest (source.Copy from) h =
      ap (source_at fits key way l.at (l ∷ rest)) h.0 ∙ ap (read_map (λ name. item.Put key way (source.Copy name) l.at)) (field_is fits l rest from h.0 h.1)
  source_reads key way l rest (source.Fixed v) h =
      at l.symbol refl h ∙ ap (read_map (λ v. item.Put key way (source.Fixed v) l.at)) (literal_complete fits key (l ∷ []) rest v (l, refl, h) tt)
    where
      at : (symbol : Symbol) → l.symbol ≡ symbol → IsValue (Fits fits) key symbol v → source_at fits key way l.at (l ∷ rest) symbol ≡ read_map (λ v. item.Put key way (source.Fixed v) l.at) (literal fits key (l ∷ rest))
      at (lex.name from) is h = let e = h.1 in absurd (cc)
      at symbol is h = refl

  put_reads : (us rest : List Lexeme) (key : List ℕ) (way : How) (from : PutSource) (at : ℕ) (if_behind : Parser SieveItem) → IsPut (Fits fits) us key way from at
      → ((all ls : List Lexeme) → item_at fits if_behind all (lex.key (how_word (Fits fits) way)) ls ≡ put fits way ls) → item_by fits if_behind (us ++ rest) ≡ Ok (item.Put key way from at, rest)
  unfolding put
  put_reads us rest key way from at if_behind h equation =
      let (a, b, c, d, all, word, named, assign, place, right, sourced) = h in
      let ls = b ∷ c ∷ d ∷ rest in
      let set : put fits way ls ≡ Ok (item.Put key way from d.at, rest) =
      rw (field_is fits b (c ∷ d ∷ rest) key named right, sign_is signs.Assign c (d ∷ rest) assign) (source_reads key way d rest from sourced) in
      ap (λ (m : List Lexeme). item_by fits if_behind (m ++ rest)) all
      ∙ (ap (λ (s : Symbol). item_at fits if_behind (a ∷ ls) s ls) word ∙ (equation (a ∷ ls) ls ∙ (set ∙ ap (λ (n : ℕ). Ok (item.Put key way from n, rest)) place)))

  -- ---- actions

  module _ (if_behind : Parser SieveItem) (Is : List Lexeme → SieveItem → Type 0) (act : (us : List Lexeme) (i : SieveItem) → IsAction (Fits fits) us i → Is us i)
      (ifs : (l : Lexeme) (ls rest : List Lexeme) (i : SieveItem) → l.symbol ≡ lex.key words.If → if_behind ls ≡ Ok (i, rest) → (us : List Lexeme) × (l ∷ ls ≡ us ++ rest) × Is us i) where
    abbrev Acted : List Lexeme → List Lexeme → SieveItem → Type 0
    Acted ls rest i = (us : List Lexeme) × (ls ≡ us ++ rest) × Is us i

    acted : (ls rest : List Lexeme) (i : SieveItem) → ((us : List Lexeme) × (ls ≡ us ++ rest) × IsAction (Fits fits) us i) → Acted ls rest i
    acted ls rest i h = (h.0, h.1, act h.0 i h.2)

    alone : (l : Lexeme) (ls rest : List Lexeme) (i j : SieveItem) → ◌≡◌ {A = Read SieveItem} (Ok (j, ls)) (Ok (i, rest)) → (l ∷ ls ≡ (l ∷ []) ++ rest) × (i ≡ j)
    alone l ls rest i j e = let same = held (j, ls) (i, rest) e in (ap (λ (m : List Lexeme). l ∷ m) (λ k. (same k).1), sym (λ k. (same k).0))

    item_at_sound : (l : Lexeme) (ls rest : List Lexeme) (i : SieveItem) (symbol : Symbol) → l.symbol ≡ symbol → item_at fits if_behind (l ∷ ls) symbol ls ≡ Ok (i, rest) → Acted (l ∷ ls) rest i
    item_at_sound l ls rest i (lex.key words.If) is e = ifs l ls rest i is e
    item_at_sound l ls rest i (lex.key words.Keep) is e = let (at, same) = alone l ls rest i item.Keep e in acted (l ∷ ls) rest i (l ∷ [], at, inl (same, λ k. is k ∷ []))
    item_at_sound l ls rest i (lex.key words.Drop) is e = let (at, same) = alone l ls rest i item.Drop e in acted (l ∷ ls) rest i (l ∷ [], at, inr (inl (same, λ k. is k ∷ [])))
    item_at_sound l ls rest i (lex.key words.Path) is e =
        let (names, read, same) = mapped item.Path (texts fits ls) i rest e in
        let (us, at, are) = texts_sound ls rest names read in
        acted (l ∷ ls) rest i (l ∷ us, ap (λ (m : List Lexeme). l ∷ m) at, inr (inr (inl (names, same, (l, us, refl, is, are)))))
    item_at_sound l ls rest i (lex.key words.Add) is e = acted (l ∷ ls) rest i (put_sound how.Add l ls rest i is e)
    item_at_sound l ls rest i (lex.key words.Force) is e = acted (l ∷ ls) rest i (put_sound how.Force l ls rest i is e)
    item_at_sound l ls rest i (lex.key words.Update) is e = acted (l ∷ ls) rest i (put_sound how.Update l ls rest i is e)
    item_at_sound l ls rest i (lex.key words.Remove) is e =
        let (key, read, same) = mapped item.Remove (field fits ls) i rest e in
        let (m, at, named, right) = field_sound fits ls rest key read in
        acted (l ∷ ls) rest i (l ∷ m ∷ [], ap (λ (u : List Lexeme). l ∷ u) at, inr (inr (inr (inr (key, same, ((λ k. is k ∷ named k ∷ []), right))))))
    item_at_sound l ls rest i symbol is e = absurd (cc)

    pub item_by_sound : Sound (item_by fits if_behind) Is
    item_by_sound [] rest i e = absurd (cc)
    item_by_sound (l ∷ ls) rest i e = item_at_sound l ls rest i l.symbol refl e

  way_reads : (if_behind : Parser SieveItem) (way : How) (all ls : List Lexeme) → item_at fits if_behind all (lex.key (how_word (Fits fits) way)) ls ≡ put fits way ls
  way_reads if_behind how.Add all ls = refl
  way_reads if_behind how.Force all ls = refl
  way_reads if_behind how.Update all ls = refl

  -- each action is read
  pub action_complete : (if_behind : Parser SieveItem) → Complete Anything (item_by fits if_behind) (IsAction (Fits fits))
  action_complete if_behind us rest i h _ = elim h [
    | inl keep ↦
        let (l, at, is) = one_token us (lex.key words.Keep) keep.1 in
        rw (at, is) (ap (λ (x : SieveItem). Ok (x, rest)) (sym keep.0))
    | inr more ↦ elim more [
      | inl out ↦ let (l, at, is) = one_token us (lex.key words.Drop) out.1 in rw (at, is) (ap (λ (x : SieveItem). Ok (x, rest)) (sym out.0))
      | inr others ↦ elim others [
        | inl path ↦
            let (names, same, (first, vs, at, is, are)) = path in
            rw (at, is, texts_complete vs rest names are tt) (ap (λ (x : SieveItem). Ok (x, rest)) (sym same))
        | inr last ↦ elim last [
          | inl set ↦
              let (key, way, from, at, same, is) = set in
              put_reads us rest key way from at if_behind is (way_reads if_behind way) ∙ ap (λ (x : SieveItem). Ok (x, rest)) (sym same)
          | inr remove ↦
              let (key, same, is) = remove in
              let (l, m, at, word, named) = two_tokens us (lex.key words.Remove) (lex.name key) is.0 in
              rw (at, word, field_is fits m rest key named is.1) (ap (λ (x : SieveItem). Ok (x, rest)) (sym same))
        ]
      ]
    ]
  ]
