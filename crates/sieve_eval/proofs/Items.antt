-- What items do, and the fixed values in them.
use Rattle.std.proofs.Common.{◌≡◌, ℕ, ◌+◌, ◌<◌, Bool, true, false, List, [], ◌∷◌, ◌++◌, length, drop, get_or, map, Err, refl, ap, sym, subst, ◌∙◌}
use Rattle.std.specs.Prelude.{if◌then◌else◌}
use Rattle.std.proofs.lemmas.List.{drop_more}
use Rattle.event_model.specs.Fields.{value_for}
use Rattle.sieve_tree.specs.declared.tree.Cond.{Cond}
use Rattle.sieve_tree.specs.declared.tree.How.{How}
use Rattle.sieve_tree.specs.declared.tree.PutSource.{PutSource}
use Rattle.sieve_tree.specs.declared.tree.PutSource.TheVariants as source
use Rattle.sieve_tree.specs.declared.tree.SieveItem.{SieveItem}
use Rattle.sieve_tree.specs.declared.tree.SieveItem.TheFolds.{fold-roll-SieveItem}
use Rattle.sieve_tree.specs.declared.tree.SieveItem.TheOpen.{SieveItem-F}
use Rattle.sieve_tree.specs.declared.tree.SieveItem.TheVariants.{rolls-Choice, rolls-Put, Choice, Put}
use Rattle.sieve_tree.specs.Fixed.{fixed_at, fixed_in, fixed_with, AreCanonical, Settings}
use Rattle.sieve_eval.specs.Holds.{holds}
use Rattle.sieve_eval.specs.Outcome.{going, IsOutcome, Outcome}
use Rattle.sieve_eval.specs.Putting.{IsSound}
use Rattle.sieve_eval.specs.Runs.{and_then, chosen, in_order, run_all, runs, runs_with, Run}
use Rattle.sieve_eval.specs.declared.fault.EvalFault.{EvalFault}
use Rattle.sieve_eval.specs.declared.fault.EvalFault.TheVariants as fault
use Rattle.sieve_eval.specs.declared.state.State.{State}

-- the same case, with something else in it
abbrev pub inside : {A B : Type 0} → (A → B) → Cond × List A → Cond × List B
inside f case = (case.0, map f case.1)

chosen_mapped : {A B : Type 0} (passes : Cond → Bool) (f : A → B) (cases : List (Cond × List A)) (otherwise : List A)
    → chosen passes (map (inside f) cases) (map f otherwise) ≡ map f (chosen passes cases otherwise)
chosen_mapped passes f [] otherwise = refl
chosen_mapped passes f (case ∷ cases) otherwise = by (passes case.0) (chosen_mapped passes f cases otherwise)
  where
    by : (b : Bool) → chosen passes (map (inside f) cases) (map f otherwise) ≡ map f (chosen passes cases otherwise)
        → (if b then map f case.1 else chosen passes (map (inside f) cases) (map f otherwise)) ≡ map f (if b then case.1 else chosen passes cases otherwise)
    by true later = refl
    by false later = later

pub choice_runs : (patterns : List (List ℕ)) (now : ℕ) (cases : List (Cond × List SieveItem)) (otherwise : List SieveItem) (s : State)
    → runs patterns now (Choice cases otherwise) s ≡ run_all patterns now (chosen (holds patterns now s.fields) cases otherwise) s
choice_runs patterns now cases otherwise s =
    ap (λ i. runs patterns now i s) (sym (rolls-Choice cases otherwise))
    ∙ (ap (λ (r : Run). r s) (fold-roll-SieveItem Run (runs_with patterns now) (SieveItem-F.Choice cases otherwise))
    ∙ ap (λ rs. in_order rs s) (chosen_mapped (holds patterns now s.fields) (runs patterns now) cases otherwise))

-- ---- rows of items

-- an item of a row, and what stands behind it
pub at_item : {A : Type 0} (xs : List A) (i : ℕ) (x : A) → i < length xs → x ≡ get_or xs i x → drop i xs ≡ x ∷ drop (i + 1) xs
at_item xs i x within is = drop_more xs i x within ∙ ap (λ y. y ∷ drop (i + 1) xs) (sym is)

pub ends_bad : (o : Outcome) (rest : Run) (f : EvalFault) (s : State) → IsOutcome o (Err f) s → IsOutcome (and_then o rest) (Err f) s
ends_bad o rest (fault.BadValue at) s is = ap (λ o. and_then o rest) is
ends_bad o rest fault.OutOfMemory s is = tt

pub goes_on : (o : Outcome) (rest : Run) (s : State) → o ≡ going s → rest s ≡ and_then o rest
goes_on o rest s is = sym (ap (λ o. and_then o rest) is)

-- ---- canonical values

pub ahead : (xs ys : Settings) → AreCanonical (xs ++ ys) → AreCanonical xs
ahead [] ys are = tt
ahead (x ∷ xs) ys are = (are.0, ahead xs ys are.1)

pub behind : (xs ys : Settings) → AreCanonical (xs ++ ys) → AreCanonical ys
behind [] ys are = are
behind (x ∷ xs) ys are = behind xs ys are.1

pub put_fixed : (key : List ℕ) (way : How) (from : PutSource) (at : ℕ) → fixed_in (Put key way from at) ≡ fixed_at key from
put_fixed key way from at = ap fixed_in (sym (rolls-Put key way from at)) ∙ fold-roll-SieveItem Settings fixed_with (SieveItem-F.Put key way from at)

sound : (key : List ℕ) (from : PutSource) → AreCanonical (fixed_at key from) → IsSound key from
unfolding value_for
sound key (source.Fixed v) are = are.0
sound key (source.Copy other) are = tt

pub put_sound : (key : List ℕ) (way : How) (from : PutSource) (at : ℕ) → AreCanonical (fixed_in (Put key way from at)) → IsSound key from
put_sound key way from at are = sound key from (subst AreCanonical (put_fixed key way from at) are)

-- ---- the first case that holds

module _ (passes : Cond → Bool) (case : Cond × List SieveItem) (rest cases : List (Cond × List SieveItem)) (otherwise : List SieveItem) (is : chosen passes (case ∷ rest) otherwise ≡ chosen passes cases otherwise) where
  pub case_taken : passes case.0 ≡ true → case.1 ≡ chosen passes cases otherwise
  case_taken e = sym (ap (λ b. if b then case.1 else chosen passes rest otherwise) e) ∙ is

  pub case_left : passes case.0 ≡ false → chosen passes rest otherwise ≡ chosen passes cases otherwise
  case_left e = sym (ap (λ b. if b then case.1 else chosen passes rest otherwise) e) ∙ is
