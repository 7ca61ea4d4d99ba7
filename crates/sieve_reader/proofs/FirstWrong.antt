-- The token that reading refuses is the first wrong one.
use Rattle.std.proofs.Common.{◌≡◌, ◌⊎◌, ℕ, ◌+◌, ◌<◌, ◌≤◌, true, false, List, [], ◌∷◌, ◌++◌, length, Option, Some, Ok, Err, refl, sym, ap, ◌∙◌, subst, inl, inr, arith, append_assoc}
use Rattle.std.proofs.lemmas.List.{append-nil, append_cancel_right}
use Rattle.field_types.specs.declared.value.Value.TheVariants as value
use Rattle.sieve_reader.specs.Grammar.{IsFile}
use Rattle.sieve_reader.specs.Leaf.{judged, IsAny, Leaf}
use Rattle.sieve_reader.specs.Lexeme.{Lexeme}
use Rattle.sieve_reader.specs.Parse.{file, refusal, Read, Refusal}
use Rattle.sieve_reader.specs.Refusal as cause
use Rattle.sieve_reader.specs.Refusal.{head, nests, rank, Begins, Cause, IsFirstWrong, IsWrong}
use Rattle.sieve_tree.specs.declared.tree.SieveItem.{SieveItem}
use Rattle.sieve_reader.proofs.Files.{file_complete, file_sound}
use Rattle.sieve_reader.proofs.Going.{always, seen, Any, Blamed, Calm, Completes, Ran, Stays, Stopped}
use Rattle.sieve_reader.proofs.GoingItems.{file_runs}
use Rattle.sieve_reader.proofs.GoingTokens.{any_network, every}
use Rattle.sieve_reader.proofs.Tests.{Fits}
use Rattle.sieve_reader.proofs.Wider.{file_too, TakesAll}
use Rattle.sieve_reader.proofs.Windows as window
use Rattle.sieve_reader.proofs.Windows.{after, cause_of_leaf, clean, clean_at, field_told, leaf_at, nests_no_leaf, not_right, pattern_told, told_wrong, value_is_told, Told}

-- ---- texts of any words

all_fit : TakesAll (Fits every)
all_fit = record {
  field = λ key. refl;
  value = λ key literal. (value.Flag true, refl);
  order = λ key. refl;
  network = λ key text. (any_network, refl);
  span = λ key text. (0, refl);
  pattern = λ text. refl;
  path = λ text. refl;
}

pub all_are : TakesAll IsAny
all_are = record {
  field = λ key. tt;
  value = λ key literal. (value.Flag true, tt);
  order = λ key. tt;
  network = λ key text. (any_network, tt);
  span = λ key text. (0, tt);
  pattern = λ text. tt;
  path = λ text. tt;
}

-- what can be completed begins a text
begun : (e : ℕ) (us : List Lexeme) → Completes true (file every e) us → Begins e us
begun e us h =
    let (more, y, reads) = h in
    let whole = (reads [] refl).1 in
    let (items, is) = file_too (Fits every) IsAny all_are e e (omega arith) (us ++ (more ++ [])) y (file_sound every e (us ++ (more ++ [])) y whole) in
    (more ++ [], items, is)

not_both : (x : Refusal) (p : List SieveItem × List Lexeme) → ◌≡◌ {A = Read (List SieveItem)} (Err x) (Ok p) → ⊥
not_both x p e = absurd (cc)

-- a text of any words and fewer levels is read
reads : (d e : ℕ) → d ≤ e → (us : List Lexeme) (items : List SieveItem) → IsFile IsAny d us items → (y : List SieveItem) × (file every e us ≡ Ok (y, []))
reads d e le us items is = let (y, fits) = file_too IsAny (Fits every) all_fit d e le us items is in (y, file_complete every e us y fits)

-- where each text that begins so is refused, none begins so
never : (d e : ℕ) → d ≤ e → (why : Cause) (us : List Lexeme) (l : Lexeme) → ((r : List Lexeme) → head r ≡ Some l → file every e (us ++ r) ≡ Err (refusal why r)) → Begins d (us ++ l ∷ []) → ⊥
never d e le why us l stays begins =
    let (more, items, is) = begins in
    let (y, whole) = reads d e le ((us ++ l ∷ []) ++ more) items is in
    not_both (refusal why (l ∷ more)) (y, []) (sym (stays (l ∷ more) refl) ∙ (ap (file every e) (sym (append_assoc us (l ∷ []) more)) ∙ whole))

-- each front of what begins a text begins it
shorter : (d : ℕ) (us vs : List Lexeme) → Begins d (us ++ vs) → Begins d us
shorter d us vs h = (vs ++ h.0, h.1, subst (λ (l : List Lexeme). IsFile IsAny d l h.1) (append_assoc us vs h.0) h.2)

-- of two fronts of one text, the longer has the other's next token
next_of : (us rest vs others : List Lexeme) → us ++ rest ≡ vs ++ others → length us < length vs → (l : Lexeme) × (ws : List Lexeme) × (more : List Lexeme) × (vs ≡ us ++ l ∷ ws) × (rest ≡ l ∷ more)
next_of us rest [] others same lt = absurd (omega (arith, lt))
next_of [] rest (v ∷ vs) others same lt = (v, vs, vs ++ others, refl, same)
next_of (u ∷ us) rest (v ∷ vs) others same lt =
    let first : u ≡ v = cc in
    let tail : us ++ rest ≡ vs ++ others = cc in
    let (l, ws, more, longer, is) = next_of us rest vs others tail (omega (arith, lt)) in
    (l, ws, more, (λ i. sym first i ∷ longer i), is)

-- ---- one token

-- a word or a literal is wrong in one way
told_once : (s : window.State) (l : Lexeme) (a b : Cause) → Told s l a → Told s l b → a ≡ b
told_once s l a b this that =
    let same : this.0 ≡ that.0 = one (this.0) (that.0) (sym this.1 ∙ that.1) in
    sym this.3 ∙ (ap cause_of_leaf same ∙ that.3)
  where
    one : (x y : Leaf) → ◌≡◌ {A = Option Leaf} (Some x) (Some y) → x ≡ y
    one x y e = cc

module _ (why : Cause) (ls rest : List Lexeme) (e : file judged 64 ls ≡ Err (refusal why rest)) where
  abbrev Halted : ℕ → Type 0
  Halted k = Stopped true 64 k window.other (file every k) why ls rest

  halted : (k : ℕ) → 64 ≤ k → Halted k
  halted k le = subst (Ran true 64 k Any false window.other (always Calm) (file every k) ls) e (file_runs 64 k le ls)

  front : List Lexeme
  front = (halted 65 (omega arith)).us

  at_front : ls ≡ front ++ rest
  unfolding front
  at_front = (halted 65 (omega arith)).split

  same_front : (k : ℕ) (le : 64 ≤ k) → (halted k le).us ≡ front
  unfolding front
  same_front k le = append_cancel_right (halted k le).us front rest (sym (halted k le).split ∙ at_front)

  is_clean : clean window.other front ≡ true
  unfolding front
  is_clean = (halted 65 (omega arith)).cleaned

  blamed : Blamed why (after window.other front) (head rest)
  unfolding front
  blamed = (halted 65 (omega arith)).blamed

  -- the front begins a text, with the refused token where that stands right by itself
  begins : Begins 65 (front ++ seen why rest)
  unfolding front
  begins = begun 65 (front ++ seen why rest) ((halted 65 (omega arith)).completes (omega arith))

  stays : (k : ℕ) → 64 ≤ k → (why ≡ cause.expected) ⊎ ((why ≡ cause.deep) × (k ≡ 64)) → (r : List Lexeme) → head r ≡ head rest → file every k (front ++ r) ≡ Err (refusal why r)
  stays k le may r h =
      ap (λ (m : List Lexeme). file every k (m ++ r)) (sym (same_front k le)) ∙ (halted k le).stays (allowed why may) r h
    where
      allowed : (c : Cause) → (c ≡ cause.expected) ⊎ ((c ≡ cause.deep) × (k ≡ 64)) → Stays 64 k c
      allowed cause.expected m = tt
      allowed cause.deep m = elim m [ inl first ↦ absurd (cc) | inr both ↦ both.1 ]
      allowed cause.field m = elim m [ inl first ↦ absurd (cc) | inr both ↦ let second = both.0 in absurd (cc) ]
      allowed cause.value m = elim m [ inl first ↦ absurd (cc) | inr both ↦ let second = both.0 in absurd (cc) ]
      allowed cause.pattern m = elim m [ inl first ↦ absurd (cc) | inr both ↦ let second = both.0 in absurd (cc) ]

  -- up to each sign that nests, the front begins a text with 64 levels
  opened : (vs : List Lexeme) (l : Lexeme) (ws : List Lexeme) → front ≡ vs ++ l ∷ ws → nests l.symbol ≡ true → Begins 64 (vs ++ l ∷ [])
  opened vs l ws at n =
      let (some, completes) = (halted 64 (omega arith)).opens vs l ws (same_front 64 (omega arith) ∙ at) n in
      begun 64 (vs ++ l ∷ []) completes

  -- ---- nothing is wrong further left

  not_earlier : (vs : List Lexeme) (l : Lexeme) (ws : List Lexeme) (other : Cause) → front ≡ vs ++ l ∷ ws → IsWrong other vs (Some l) → ⊥
  not_earlier vs l ws cause.expected at wrong =
      let whole : front ++ seen why rest ≡ (vs ++ l ∷ []) ++ (ws ++ seen why rest) =
      ap (λ (m : List Lexeme). m ++ seen why rest) at ∙ (append_assoc vs (l ∷ ws) (seen why rest) ∙ sym (append_assoc vs (l ∷ []) (ws ++ seen why rest))) in
      wrong 65 (shorter 65 (vs ++ l ∷ []) (ws ++ seen why rest) (subst (Begins 65) whole begins))
  not_earlier vs l ws cause.field at wrong = not_right (after window.other vs) l cause.field (field_told vs l wrong) (clean_at window.other vs l ws (ap (clean window.other) (sym at) ∙ is_clean))
  not_earlier vs l ws cause.value at wrong = not_right (after window.other vs) l cause.value (value_is_told vs l wrong) (clean_at window.other vs l ws (ap (clean window.other) (sym at) ∙ is_clean))
  not_earlier vs l ws cause.pattern at wrong = not_right (after window.other vs) l cause.pattern (pattern_told vs l wrong) (clean_at window.other vs l ws (ap (clean window.other) (sym at) ∙ is_clean))
  not_earlier vs l ws cause.deep at wrong = wrong.2 (opened vs l ws at wrong.0)

  leftmost : (vs others : List Lexeme) (other : Cause) → ls ≡ vs ++ others → length vs < length front → IsWrong other vs (head others) → ⊥
  leftmost vs others other at lt wrong =
      let (l, ws, more, longer, is) = next_of vs others front rest (sym at ∙ at_front) lt in
      not_earlier vs l ws other longer (subst (λ (m : List Lexeme). IsWrong other vs (head m)) is wrong)

-- ---- what is wrong, by its cause

told_is_wrong : (us : List Lexeme) (l : Lexeme) (why : Cause) → Told (after window.other us) l why → IsWrong why us (Some l)
told_is_wrong us l why h = subst (λ c. IsWrong c us (Some l)) h.3 (told_wrong us l h.0 h.1 h.2)

abbrev pub First : Cause → List Lexeme → List Lexeme → Type 0
First why ls rest = (us : List Lexeme) × IsFirstWrong why ls us rest

first_expected : (ls rest : List Lexeme) → file judged 64 ls ≡ Err (refusal cause.expected rest) → First cause.expected ls rest
first_expected ls rest e = (
  front cause.expected ls rest e,
  record {
    split = at_front cause.expected ls rest e;
    wrong = by rest e;
    leftmost = leftmost cause.expected ls rest e;
    before = λ other lt wrong. absurd (omega (arith, lt));
  },
)
  where
    by : (rest : List Lexeme) (e : file judged 64 ls ≡ Err (refusal cause.expected rest)) → IsWrong cause.expected (front cause.expected ls rest e) (head rest)
    by [] e = λ d items is.
        let us = front cause.expected ls [] e in
        let (y, whole) = reads d (64 + d) (omega arith) us items is in
        not_both (refusal cause.expected []) (y, []) (sym (stays cause.expected ls [] e (64 + d) (omega arith) (inl refl) [] refl) ∙ (ap (file every (64 + d)) (append-nil us) ∙ whole))
    by (l ∷ more) e = λ d begins. never d (64 + d) (omega arith) cause.expected (front cause.expected ls (l ∷ more) e) l (stays cause.expected ls (l ∷ more) e (64 + d) (omega arith) (inl refl)) begins

module _ (ls : List Lexeme) (l : Lexeme) (more : List Lexeme) where
  first_deep : file judged 64 ls ≡ Err (refusal cause.deep (l ∷ more)) → First cause.deep ls (l ∷ more)
  first_deep e = (
    us,
    record {
      split = at_front cause.deep ls (l ∷ more) e;
      wrong = (nested, (65, begins cause.deep ls (l ∷ more) e), never 64 64 (omega arith) cause.deep us l (stays cause.deep ls (l ∷ more) e 64 (omega arith) (inr (refl, refl))));
      leftmost = leftmost cause.deep ls (l ∷ more) e;
      before = before;
    },
  )
    where
      us : List Lexeme
      us = front cause.deep ls (l ∷ more) e

      nested : nests l.symbol ≡ true
      nested = blamed cause.deep ls (l ∷ more) e

      no_leaf : (why : Cause) → Told (after window.other us) l why → ⊥
      no_leaf why told = nests_no_leaf (after window.other us) l.symbol told.0 nested told.1

      before : (other : Cause) → rank other < rank cause.deep → IsWrong other us (Some l) → ⊥
      before cause.expected lt wrong = wrong 65 (begins cause.deep ls (l ∷ more) e)
      before cause.field lt wrong = no_leaf cause.field (field_told us l wrong)
      before cause.value lt wrong = no_leaf cause.value (value_is_told us l wrong)
      before cause.pattern lt wrong = no_leaf cause.pattern (pattern_told us l wrong)
      before cause.deep lt wrong = absurd (omega (arith, lt))

  -- a word or a literal
  module _ (why : Cause) (is_leaf : (us : List Lexeme) → Begins 65 (us ++ seen why (l ∷ more)) → Begins 65 (us ++ l ∷ [])) (e : file judged 64 ls ≡ Err (refusal why (l ∷ more)))
      (told : Told (after window.other (front why ls (l ∷ more) e)) l why) where
    first_leaf : First why ls (l ∷ more)
    first_leaf = (
      us,
      record { split = at_front why ls (l ∷ more) e; wrong = told_is_wrong us l why told; leftmost = leftmost why ls (l ∷ more) e; before = before },
    )
      where
        us : List Lexeme
        us = front why ls (l ∷ more) e

        other_leaf : (other : Cause) → rank other < rank why → Told (after window.other us) l other → ⊥
        other_leaf other lt that = let same = ap rank (told_once (after window.other us) l other why that told) in absurd (omega (arith, lt, same))

        before : (other : Cause) → rank other < rank why → IsWrong other us (Some l) → ⊥
        before cause.expected lt wrong = wrong 65 (is_leaf us (begins why ls (l ∷ more) e))
        before cause.field lt wrong = other_leaf cause.field lt (field_told us l wrong)
        before cause.value lt wrong = other_leaf cause.value lt (value_is_told us l wrong)
        before cause.pattern lt wrong = other_leaf cause.pattern lt (pattern_told us l wrong)
        before cause.deep lt wrong = absurd (last why lt)
          where
            last : (c : Cause) → rank cause.deep < rank c → ⊥
            last cause.expected lt = omega (arith, lt)
            last cause.field lt = omega (arith, lt)
            last cause.value lt = omega (arith, lt)
            last cause.pattern lt = omega (arith, lt)
            last cause.deep lt = omega (arith, lt)

-- what reading refuses is the first wrong token
pub first_wrong : (why : Cause) (ls rest : List Lexeme) → file judged 64 ls ≡ Err (refusal why rest) → First why ls rest
first_wrong cause.expected ls rest e = first_expected ls rest e
first_wrong cause.deep ls [] e = absurd (blamed cause.deep ls [] e)
first_wrong cause.field ls [] e = absurd (blamed cause.field ls [] e)
first_wrong cause.value ls [] e = absurd (blamed cause.value ls [] e)
first_wrong cause.pattern ls [] e = absurd (blamed cause.pattern ls [] e)
first_wrong cause.deep ls (l ∷ more) e = first_deep ls l more e
first_wrong cause.field ls (l ∷ more) e = first_leaf ls l more cause.field (λ us h. h) e (blamed cause.field ls (l ∷ more) e)
first_wrong cause.value ls (l ∷ more) e = first_leaf ls l more cause.value (λ us h. h) e (blamed cause.value ls (l ∷ more) e)
first_wrong cause.pattern ls (l ∷ more) e = first_leaf ls l more cause.pattern (λ us h. h) e (blamed cause.pattern ls (l ∷ more) e)
