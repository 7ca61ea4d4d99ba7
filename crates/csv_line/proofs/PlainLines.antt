-- A line without quotes, ends and a mark at its front is cut at each delimiter.
use Rattle.std.proofs.Common.{◌≡◌, ◌⊎◌, ℕ, Bool, true, false, List, [], ◌∷◌, ◌++◌, Some, ◌==◌, refl, sym, ap, ◌∙◌, inl, inr, ⊎_elim, append_assoc}
use Rattle.std.proofs.lemmas.List.{append-nil}
use Rattle.std.proofs.lemmas.List.Splits.{slice_split-cons_yes, slice_split-cons_no}
use Rattle.std.specs.List.{slice_split, onto_first}
use Rattle.csv.specs.Machine.{next_record, step}
use Rattle.csv.specs.Reading.{strip_bom}
use Rattle.csv.specs.declared.parser.Action.TheVariants as act
use Rattle.csv.specs.declared.parser.State.{State}
use Rattle.csv.specs.declared.parser.State.TheVariants as st
use Rattle.csv_line.specs.Line.{line_config, alone, one_record}

-- neither a quote nor an end
pub record Plain (c : ℕ) : Type 0 where
  pub quote : (c == 34) ≡ false
  pub feed : (c == 10) ≡ false
  pub return : (c == 13) ≡ false

-- parts, the first behind the bytes of the field at hand
front : List ℕ → List (List ℕ) → List (List ℕ)
front field [] = field ∷ []
front field (p ∷ ps) = (field ++ p) ∷ ps

abbrev cut : ℕ → List ℕ → List (List ℕ)
cut d = slice_split (λ c. c == d)

unfoldable pub AllPlain : List ℕ → Type 0
AllPlain [] = Unit {0}
AllPlain (c ∷ xs) = Plain c × AllPlain xs

truth : (b : Bool) → (b ≡ true) ⊎ (b ≡ false)
truth true = inl refl
truth false = inr refl

module _ (d : ℕ) where
  within : Bool → State
  within true = st.InField
  within false = st.StartField

  step_cut : (b : Bool) (c : ℕ) → Plain c → (c == d) ≡ true → step (line_config d) (within b) c ≡ (st.StartField, act.EndField)
  unfolding within
  step_cut true c p e = rw e refl
  step_cut false c p e = rw (p.quote, e) refl

  step_copy : (b : Bool) (c : ℕ) → Plain c → (c == d) ≡ false → step (line_config d) (within b) c ≡ (st.InField, act.Copy)
  unfolding within
  step_copy true c p e = rw (e, p.return, p.feed) refl
  step_copy false c p e = rw (p.quote, e, p.return, p.feed) refl

  -- the bytes at hand move into the first part
  front_copy : (field : List ℕ) (c : ℕ) (ps : List (List ℕ)) → front (field ++ c ∷ []) ps ≡ front field (onto_first c ps)
  unfolding front
  front_copy field c [] = refl
  front_copy field c (p ∷ ps) = ap (λ (f : List ℕ). f ∷ ps) (append_assoc field (c ∷ []) p)

  front_none : (ps : List (List ℕ)) (xs : List ℕ) → ps ≡ cut d xs → front [] ps ≡ ps
  unfolding front
  front_none [] [] e = absurd (cc)
  front_none [] (c ∷ xs) e = ⊎_elim
      (λ (yes : (c == d) ≡ true). absurd (no_nil _ _ (e ∙ slice_split-cons_yes (λ c. c == d) c xs yes)))
      (λ (no : (c == d) ≡ false). absurd (no_onto c (cut d xs) (e ∙ slice_split-cons_no (λ c. c == d) c xs no))) (truth (c == d))
    where
      no_nil : (p : List ℕ) (ps : List (List ℕ)) → [] ≡ p ∷ ps → ⊥
      no_nil p ps e = absurd (cc)

      no_onto : (c : ℕ) (ps : List (List ℕ)) → [] ≡ onto_first c ps → ⊥
      no_onto c [] e = absurd (cc)
      no_onto c (p ∷ ps) e = absurd (cc)
  front_none (p ∷ ps) xs e = refl

  goes : (b : Bool) (fields : List (List ℕ)) (field xs : List ℕ) → AllPlain xs
      → next_record (line_config d) (within b) fields field xs ≡ Some (fields ++ front field (cut d xs), st.StartRecord, [])
  unfolding next_record within front AllPlain
  goes true fields field [] p = ap (λ (f : List ℕ). Some (fields ++ f ∷ [], st.StartRecord, [])) (sym (append-nil field))
  goes false fields field [] p = ap (λ (f : List ℕ). Some (fields ++ f ∷ [], st.StartRecord, [])) (sym (append-nil field))
  goes b fields field (c ∷ xs) p =
      let at_cut = goes false (fields ++ field ∷ []) [] xs p.1 in
      let at_copy = goes true fields (field ++ c ∷ []) xs p.1 in
      ⊎_elim
      (λ (yes : (c == d) ≡ true).
      let shown : fields ++ field ∷ cut d xs ≡ fields ++ (field ++ []) ∷ cut d xs = ap (λ (f : List ℕ). fields ++ f ∷ cut d xs) (sym (append-nil field)) in
      let moved = append_assoc fields (field ∷ []) (cut d xs) in
      rw (step_cut b c p.0 yes, slice_split-cons_yes (λ c. c == d) c xs yes)
      (at_cut ∙ ap (λ (l : List (List ℕ)). Some (l, st.StartRecord, [])) (ap (λ (l : List (List ℕ)). (fields ++ field ∷ []) ++ l) (front_none (cut d xs) xs refl) ∙ (moved ∙ shown))))
      (λ (no : (c == d) ≡ false).
      rw (step_copy b c p.0 no, slice_split-cons_no (λ c. c == d) c xs no)
      (at_copy ∙ ap (λ (l : List (List ℕ)). Some (fields ++ l, st.StartRecord, [])) (front_copy field c (cut d xs))))
      (truth (c == d))

  start_is : (c : ℕ) → Plain c → step (line_config d) st.StartRecord c ≡ step (line_config d) (within false) c
  unfolding within
  start_is c p = rw (p.return, p.feed) refl

  -- a plain line is one record, of the parts between the delimiters
  pub plain_line : (c : ℕ) (xs : List ℕ) → AllPlain (c ∷ xs) → strip_bom (c ∷ xs) ≡ c ∷ xs → one_record d (c ∷ xs) ≡ Some (cut d (c ∷ xs))
  unfolding one_record next_record AllPlain
  plain_line c xs p no_mark = ap (alone (line_config d)) (ap (next_record (line_config d) st.StartRecord [] []) no_mark ∙ (start ∙ goes false [] [] (c ∷ xs) p)) ∙ ap Some (front_none (cut d (c ∷ xs)) (c ∷ xs) refl)
    where
      start : next_record (line_config d) st.StartRecord [] [] (c ∷ xs) ≡ next_record (line_config d) (within false) [] [] (c ∷ xs)
      start = rw (start_is c p.0) refl
