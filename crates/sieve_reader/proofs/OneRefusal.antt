-- A text has one sieve or one refusal.
use Rattle.std.proofs.Common.{◌≡◌, ◌⊎◌, ℕ, zero, suc, ◌<◌, ◌≤◌, true, false, List, [], ◌∷◌, ◌++◌, length, take, drop, Ok, Err, refl, sym, ap, ◌∙◌, subst, inl, inr, arith, append_assoc}
use Rattle.std.proofs.lemmas.Bool.{cases_lt}
use Rattle.std.proofs.lemmas.List.{append-nil, drop_at, take_at}
use Rattle.sieve_tokens.specs.declared.token.Token.{Token}
use Rattle.sieve_tokens.proofs.Covers.{tokens_one}
use Rattle.sieve_reader.specs.Grammar.{IsFile}
use Rattle.sieve_reader.specs.Laws.{OneRefusal, SieveExcludesRefusal, SieveOrRefusal}
use Rattle.sieve_reader.specs.Leaf.{judged, IsAny, IsRight}
use Rattle.sieve_reader.specs.Lexeme.{lexemes, Lexeme}
use Rattle.sieve_reader.specs.Parse.{file, refusal, Read}
use Rattle.sieve_reader.specs.Reads.{paths_in, patterns_in, IsRefused, Reads}
use Rattle.sieve_reader.specs.Refusal as cause
use Rattle.sieve_reader.specs.Refusal.{head, place, rank, Begins, Cause, IsFirstWrong, IsRefusal, IsWrong}
use Rattle.sieve_tree.specs.SieveView.{SieveView}
use Rattle.sieve_tree.specs.declared.tree.SieveItem.{SieveItem}
use Rattle.sieve_reader.proofs.Answering.{read_sound}
use Rattle.sieve_reader.proofs.Files.{file_complete}
use Rattle.sieve_reader.proofs.FirstWrong.{all_are, first_wrong}
use Rattle.sieve_reader.proofs.Going.{always, Any, Calm, Passed, Ran}
use Rattle.sieve_reader.proofs.GoingItems.{file_runs}
use Rattle.sieve_reader.proofs.GoingTokens.{every}
use Rattle.sieve_reader.proofs.Wider.{file_too}
use Rattle.sieve_reader.proofs.Windows as window
use Rattle.sieve_reader.proofs.Windows.{after, clean, clean_at, field_told, not_right, pattern_told, value_is_told}

-- ---- one refusal

abbrev of_rank : ℕ → Cause
of_rank zero = cause.expected
of_rank (suc zero) = cause.field
of_rank (suc (suc zero)) = cause.value
of_rank (suc (suc (suc zero))) = cause.pattern
of_rank (suc (suc (suc (suc n)))) = cause.deep

ranked : (c : Cause) → of_rank (rank c) ≡ c
ranked cause.expected = refl
ranked cause.field = refl
ranked cause.value = refl
ranked cause.pattern = refl
ranked cause.deep = refl

-- two first wrong tokens of one text are one
module _ (end : ℕ) (ls : List Lexeme) (this that : Cause) (us rest vs others : List Lexeme) (first : IsFirstWrong this ls us rest) (second : IsFirstWrong that ls vs others) where
  same_length : length us ≡ length vs
  same_length = split (cases_lt (length us) (length vs)) (cases_lt (length vs) (length us))
    where
      split : (length us < length vs) ⊎ (length vs ≤ length us) → (length vs < length us) ⊎ (length us ≤ length vs) → length us ≡ length vs
      split (inl lt) m = absurd (second.leftmost us rest this first.split lt first.wrong)
      split (inr ge) (inl lt) = absurd (first.leftmost vs others that second.split lt second.wrong)
      split (inr ge) (inr le) = omega (arith, ge, le)

  same_front : us ≡ vs
  same_front = sym (take_at us rest (length us) refl) ∙ (ap (take (length us)) (sym first.split ∙ second.split) ∙ take_at vs others (length us) (sym same_length))

  same_rest : rest ≡ others
  same_rest = sym (drop_at us rest (length us) refl) ∙ (ap (drop (length us)) (sym first.split ∙ second.split) ∙ drop_at vs others (length us) (sym same_length))

  same_cause : this ≡ that
  same_cause = split (cases_lt (rank this) (rank that)) (cases_lt (rank that) (rank this))
    where
      split : (rank this < rank that) ⊎ (rank that ≤ rank this) → (rank that < rank this) ⊎ (rank this ≤ rank that) → this ≡ that
      split (inl lt) m = absurd (second.before this lt (subst (λ (l : List Lexeme). IsWrong this l (head others)) same_front (subst (λ (l : List Lexeme). IsWrong this us (head l)) same_rest first.wrong)))
      split (inr ge) (inl lt) =
          absurd (first.before that lt (subst (λ (l : List Lexeme). IsWrong that l (head rest)) (sym same_front) (subst (λ (l : List Lexeme). IsWrong that vs (head l)) (sym same_rest) second.wrong)))
      split (inr ge) (inr le) = let same : rank this ≡ rank that = omega (arith, ge, le) in sym (ranked this) ∙ (ap of_rank same ∙ ranked that)

  same_place : (at other : ℕ) → at ≡ place end rest → other ≡ place end others → at ≡ other
  same_place at other is are = is ∙ (ap (place end) same_rest ∙ sym are)

pub one_refusal : OneRefusal
one_refusal text this that at other one two =
    let (ts, are, refused) = one in
    let (us, also, told) = two in
    let same : ts ≡ us = tokens_one text ts us are also in
    let moved : IsRefusal (length text) (lexemes text us) this at = subst (λ (t : List Token). IsRefusal (length text) (lexemes text t) this at) same refused in
    let (xs, rest, first, here) = moved in
    let (ys, others, second, there) = told in
    (same_cause (length text) (lexemes text us) this that xs rest ys others first second, same_place (length text) (lexemes text us) this that xs rest ys others first second at other here there)

-- ---- a sieve isn't refused

module _ (ls : List Lexeme) (items : List SieveItem) (is : IsFile IsRight 64 ls items) where
  passed : Passed true 64 (Any items) false window.other (always Calm items) (file every 64) ls []
  passed = subst (Ran true 64 64 Any false window.other (always Calm) (file every 64) ls) (file_complete judged 64 ls items is) (file_runs 64 64 (omega arith) ls)

  all_clean : clean window.other ls ≡ true
  all_clean = ap (clean window.other) (passed.split ∙ append-nil passed.us) ∙ passed.cleaned

  -- each front begins a text
  begins : (us : List Lexeme) (l : Lexeme) (more : List Lexeme) → ls ≡ us ++ l ∷ more → Begins 64 (us ++ l ∷ [])
  begins us l more at =
      let (others, any) = file_too IsRight IsAny all_are 64 64 (omega arith) ls items is in
      (more, others, subst (λ (m : List Lexeme). IsFile IsAny 64 m others) (at ∙ sym (append_assoc us (l ∷ []) more)) any)

  right_there : (us : List Lexeme) (l : Lexeme) (more : List Lexeme) → ls ≡ us ++ l ∷ more → clean window.other (us ++ l ∷ more) ≡ true
  right_there us l more at = ap (clean window.other) (sym at) ∙ all_clean

  nothing_wrong : (why : Cause) (us rest : List Lexeme) → ls ≡ us ++ rest → IsWrong why us (head rest) → ⊥
  nothing_wrong cause.expected us [] at wrong =
      let (others, any) = file_too IsRight IsAny all_are 64 64 (omega arith) ls items is in
      wrong 64 others (subst (λ (m : List Lexeme). IsFile IsAny 64 m others) (at ∙ append-nil us) any)
  nothing_wrong cause.field us [] at wrong = wrong
  nothing_wrong cause.value us [] at wrong = wrong
  nothing_wrong cause.pattern us [] at wrong = wrong
  nothing_wrong cause.deep us [] at wrong = wrong
  nothing_wrong cause.expected us (l ∷ more) at wrong = wrong 64 (begins us l more at)
  nothing_wrong cause.field us (l ∷ more) at wrong = not_right (after window.other us) l cause.field (field_told us l wrong) (clean_at window.other us l more (right_there us l more at))
  nothing_wrong cause.value us (l ∷ more) at wrong = not_right (after window.other us) l cause.value (value_is_told us l wrong) (clean_at window.other us l more (right_there us l more at))
  nothing_wrong cause.pattern us (l ∷ more) at wrong = not_right (after window.other us) l cause.pattern (pattern_told us l wrong) (clean_at window.other us l more (right_there us l more at))
  nothing_wrong cause.deep us (l ∷ more) at wrong = wrong.2 (begins us l more at)

pub excludes : SieveExcludesRefusal
excludes text s why at writes refused =
    let (ts, are, is, patterns, paths) = writes in
    let (us, also, told) = refused in
    let same : ts ≡ us = tokens_one text ts us are also in
    let (xs, rest, first, here) = told in
    nothing_wrong (lexemes text us) s.items (subst (λ (t : List Token). IsFile IsRight 64 (lexemes text t) s.items) same is) why xs rest first.split first.wrong

-- ---- one of both

pub one_or_other : SieveOrRefusal
one_or_other text tokens are = by (file judged 64 (lexemes text tokens)) refl
  where
    by : (r : Read (List SieveItem)) → file judged 64 (lexemes text tokens) ≡ r → ((sieve : SieveView) × Reads text sieve) ⊎ ((why : Cause) × (at : ℕ) × IsRefused text why at)
    by (Ok p) e =
        let sieve : SieveView = record { items = p.0; patterns = patterns_in (lexemes text tokens); paths = paths_in (lexemes text tokens) } in
        inl (sieve, read_sound text tokens are sieve ((p.1, e), refl, refl))
    by (Err (refusal why rest)) e =
        let (us, first) = first_wrong why (lexemes text tokens) rest e in
        inr (why, place (length text) rest, (tokens, are, (us, rest, first, refl)))
