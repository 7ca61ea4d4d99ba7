-- Whole histories: each number that was given stands once, and each dump was made by a step.
use Rattle.std.proofs.Common.{◌≡◌, ⊎_elim, ◌≤◌, ◌<◌, ℕ, zero, suc, ◌+◌, List, [], ◌∷◌, ◌++◌, find, Option, Some, None, refl, sym, ◌∙◌, ap, subst, arith, append_assoc}
use Rattle.std.proofs.lemmas.Bool.{cases_eq}
use Rattle.std.proofs.lemmas.List.{append-nil}
use Rattle.std.proofs.lemmas.Bool.Decides.{nat_tests}
use Rattle.std.specs.List.{AllByRecursion}
use Rattle.stored_types.specs.declared.message.Dump.{Dump}
use Rattle.base_types.specs.declared.message.Msg.{Msg}
use Rattle.base_types.specs.declared.message.Moment.{Moment}
use Rattle.step_code.specs.declared.base.Base.{Base}
use Rattle.step_code.specs.declared.step.Step.{Step}
use Rattle.step_code.specs.declared.step.StepKind.{StepKind}
use Rattle.step_code.specs.declared.step.StepKind.TheVariants as kind
use Rattle.base_types.specs.Lists.{IsIn, without}
use Rattle.step_code.specs.Rules.{Meaning}
use Rattle.base_types.specs.Name.{queue_name}
use Rattle.step_code.specs.State.{bots_in_force, bots_of, is_dump, waiting}
use Rattle.step_code.specs.After.{after, instances_of, redone, taken_first}
use Rattle.step_code.specs.History.{Legal, replay}
use Rattle.step_code.specs.Places.{settled, settled_by, dumps_of, places, standing, IsMade}
use Rattle.base_types.proofs.Everywhere.{all-append, all_in, all_wider, all_without}
use Rattle.history_laws.proofs.Counts.{times, times-append, times-cons, numbers_from, numbers_from-append}
use Rattle.step_code.proofs.Lists.{without_none}
use Rattle.step_code.proofs.GivenBack.{kept-all_given_back}
use Rattle.history_laws.proofs.Steps.{conserves, made, next_after, stands}

-- how many messages these steps make
made_all : Meaning → Base → List Step → ℕ
made_all m s [] = 0
made_all m s (step ∷ steps) = made m s step + made_all m (after m s step) steps

next_replay : (m : Meaning) (s : Base) (steps : List Step) → Legal m s steps → (replay m s steps).next_message ≡ s.next_message + made_all m s steps
unfolding made_all
next_replay m s [] legal = omega arith
next_replay m s (step ∷ steps) legal =
    omega (arith, next_replay m (after m s step) steps legal.1, next_after m s step.moment step.what legal.0.content.what)

-- a history loses no message, and each one that it makes gets one of the next numbers
counted : (n : ℕ) (m : Meaning) (s : Base) (steps : List Step) → Legal m s steps
    → stands n (replay m s steps) + times n (settled m s steps) ≡ stands n s + times n (numbers_from s.next_message (made_all m s steps))
unfolding made_all
counted n m s [] legal = omega arith
counted n m s (step ∷ steps) legal =
    let s1 = after m s step in
    let next : s1.next_message ≡ s.next_message + made m s step = next_after m s step.moment step.what legal.0.content.what in
    omega (
      arith,
      counted n m s1 steps legal.1,
      conserves n m s step.moment step.what legal.0.fits legal.0.content.what,
      times-append n (settled_by s step.what) (settled m s1 steps),
      ap (λ x. times n (numbers_from x (made_all m s1 steps))) next,
      ap (times n) (numbers_from-append s.next_message (made m s step) (made_all m s1 steps)),
      times-append n (numbers_from s.next_message (made m s step)) (numbers_from (s.next_message + made m s step) (made_all m s1 steps)),
    )

-- a number before these stands in none of them
before_all : (n next k : ℕ) → n < next → times n (numbers_from next k) ≡ 0
before_all n next zero below = refl
before_all n next (suc k) below =
    let other : times n (next ∷ []) ≡ 0 = grind (arith, nat_tests) in
    omega (arith, times-cons n next (numbers_from (suc next) k), before_all n (suc next) k (omega arith), other)

-- so does one behind them
behind_all : (n next k : ℕ) → next + k ≤ n → times n (numbers_from next k) ≡ 0
behind_all n next zero above = refl
behind_all n next (suc k) above =
    let other : times n (next ∷ []) ≡ 0 = grind (arith, nat_tests) in
    omega (arith, times-cons n next (numbers_from (suc next) k), behind_all n (suc next) k (omega arith), other)

-- each of them stands once
among_all : (n next k : ℕ) → next ≤ n → n < next + k → times n (numbers_from next k) ≡ 1
among_all n next zero low high = absurd (omega arith)
among_all n next (suc k) low high = ⊎_elim here (there (λ above. among_all n (suc next) k above (omega arith))) (cases_eq next n)
  where
    here : next ≡ n → times n (numbers_from next (suc k)) ≡ 1
    here is =
        let once : times n (next ∷ []) ≡ 1 = grind (arith, nat_tests) in
        omega (arith, times-cons n next (numbers_from (suc next) k), before_all n (suc next) k (omega arith), once)

    there : (suc next ≤ n → times n (numbers_from (suc next) k) ≡ 1) → (next ≡ n → ⊥) → times n (numbers_from next (suc k)) ≡ 1
    there later isnt =
        let other : times n (next ∷ []) ≡ 0 = grind (arith, nat_tests) in
        omega (arith, times-cons n next (numbers_from (suc next) k), later (omega arith), other)

module _ (m : Meaning) (first : Base) (new : first.next_message ≡ 1) (none : standing first ≡ []) where
  -- from a state without messages on, a number stands as often as it was given
  given : (n : ℕ) (steps : List Step) → Legal m first steps → places m first steps n ≡ times n (numbers_from 1 (made_all m first steps))
  given n steps legal =
      omega (
        arith,
        times-append n (standing (replay m first steps)) (settled m first steps),
        counted n m first steps legal,
        ap (times n) none,
        ap (λ x. times n (numbers_from x (made_all m first steps))) new,
      )

  pub in_one_place : (n : ℕ) (steps : List Step) → Legal m first steps → 1 ≤ n → n < (replay m first steps).next_message → places m first steps n ≡ 1
  in_one_place n steps legal low high = given n steps legal ∙ among_all n 1 (made_all m first steps) low (omega (arith, next_replay m first steps legal, new, high))

  pub in_no_place : (n : ℕ) (steps : List Step) → Legal m first steps → (replay m first steps).next_message ≤ n → places m first steps n ≡ 0
  in_no_place n steps legal high = given n steps legal ∙ behind_all n 1 (made_all m first steps) (omega (arith, next_replay m first steps legal, new, high))

  pub no_zero : (steps : List Step) → Legal m first steps → places m first steps 0 ≡ 0
  no_zero steps legal = given 0 steps legal ∙ before_all 0 1 (made_all m first steps) (omega arith)

-- the dumps that a step leaves
left_by : StepKind → List Dump → List Dump
left_by kind.Start dumps = dumps
left_by (kind.Collect bot from upto piece) dumps = dumps
left_by (kind.FeedEnd bot position) dumps = dumps
left_by (kind.Take bot instance message) dumps = dumps
left_by (kind.Done bot instance message bundle sends bad key line) dumps = dumps
left_by (kind.Retry bot instance message bundle fault) dumps = dumps
left_by (kind.Fail bot instance message bundle fault queues halts) dumps = dumps
left_by (kind.Reload bundle) dumps = dumps
left_by (kind.Redo dump) dumps = without (is_dump dump) dumps
left_by (kind.Round bot) dumps = dumps

-- a step adds the dumps that it makes, and keeps the others but for the one that it takes
adds_dumps : (m : Meaning) (s : Base) (now : Moment) (what : StepKind) → (let step : Step = record { moment = now; what = what } in (after m s step).dumps ≡ left_by what s.dumps ++ dumps_of s step)
unfolding left_by
adds_dumps m s now kind.Start = sym (append-nil s.dumps)
adds_dumps m s now (kind.Collect bot from upto piece) = sym (append-nil s.dumps)
adds_dumps m s now (kind.FeedEnd bot position) = sym (append-nil s.dumps)
adds_dumps m s now (kind.Take bot instance message) = go (waiting (queue_name bot) s)
  where
    go : (messages : List Msg) → (taken_first bot instance now messages (record s { steps = s.steps + 1; latest = now })).dumps ≡ s.dumps ++ []
    go [] = sym (append-nil s.dumps)
    go (x ∷ xs) = sym (append-nil s.dumps)
adds_dumps m s now (kind.Done bot instance message bundle sends dumps key line) = refl
adds_dumps m s now (kind.Retry bot instance message bundle fault) = sym (append-nil s.dumps)
adds_dumps m s now (kind.Fail bot instance message bundle fault queues halts) = refl
adds_dumps m s now (kind.Reload bundle) =
    kept-all_given_back (λ (t : Base). t.dumps) (λ t queues hands. refl) (bots_of m bundle) (instances_of (bots_in_force m s)) _ ∙ sym (append-nil s.dumps)
adds_dumps m s now (kind.Redo dump) = go (find (is_dump dump) s.dumps) refl ∙ sym (append-nil (without (is_dump dump) s.dumps))
  where
    go : (found : Option Dump) → find (is_dump dump) s.dumps ≡ found → (redone dump found (record s { steps = s.steps + 1; latest = now })).dumps ≡ without (is_dump dump) s.dumps
    go None is = sym (without_none (is_dump dump) s.dumps is)
    go (Some d) is = refl
adds_dumps m s now (kind.Round bot) = sym (append-nil s.dumps)

-- what a step leaves is what it was
left_keeps : (P : Dump → Type 0) (what : StepKind) (dumps : List Dump) → AllByRecursion P dumps → AllByRecursion P (left_by what dumps)
unfolding left_by
left_keeps P kind.Start dumps all = all
left_keeps P (kind.Collect bot from upto piece) dumps all = all
left_keeps P (kind.FeedEnd bot position) dumps all = all
left_keeps P (kind.Take bot instance message) dumps all = all
left_keeps P (kind.Done bot instance message bundle sends bad key line) dumps all = all
left_keeps P (kind.Retry bot instance message bundle fault) dumps all = all
left_keeps P (kind.Fail bot instance message bundle fault queues halts) dumps all = all
left_keeps P (kind.Reload bundle) dumps all = all
left_keeps P (kind.Redo dump) dumps all = all_without P (is_dump dump) dumps all
left_keeps P (kind.Round bot) dumps all = all

-- the state after steps and one more
replay-push : (m : Meaning) (s : Base) (steps : List Step) (step : Step) → replay m s (steps ++ step ∷ []) ≡ after m (replay m s steps) step
replay-push m s [] step = refl
replay-push m s (x ∷ steps) step = replay-push m (after m s x) steps step

-- dumps that steps made were made by these and one more
made_longer : (m : Meaning) (first : Base) (before : List Step) (step : Step) (d : Dump) → IsMade m first before d → IsMade m first (before ++ step ∷ []) d
made_longer m first before step d made = record {
  before = made.before;
  step = made.step;
  behind = made.behind ++ step ∷ [];
  splits = ap (λ l. l ++ step ∷ []) made.splits ∙ append_assoc made.before (made.step ∷ made.behind) (step ∷ []);
  makes = made.makes;
}

-- the dumps of each state were made by the steps that led there
all_made : (m : Meaning) (first s : Base) (before steps : List Step) → s ≡ replay m first before → AllByRecursion (IsMade m first before) s.dumps
    → AllByRecursion (IsMade m first (before ++ steps)) (replay m s steps).dumps
all_made m first s before [] is made = subst (λ l. AllByRecursion (IsMade m first l) s.dumps) (sym (append-nil before)) made
all_made m first s before (step ∷ steps) is made =
    let s1 = after m s step in
    let here : s1 ≡ replay m first (before ++ step ∷ []) = ap (λ x. after m x step) is ∙ sym (replay-push m first before step) in
    let new : AllByRecursion (IsMade m first (before ++ step ∷ [])) (dumps_of s step) = all_in (IsMade m first (before ++ step ∷ [])) (dumps_of s step) (λ d there. record {
      before = before;
      step = step;
      behind = [];
      splits = refl;
      makes = subst (λ x. IsIn d (dumps_of x step)) is there;
    }) in
    let both : AllByRecursion (IsMade m first (before ++ step ∷ [])) s1.dumps =
    subst (AllByRecursion (IsMade m first (before ++ step ∷ []))) (sym (adds_dumps m s step.moment step.what))
    (all-append (IsMade m first (before ++ step ∷ [])) (left_by step.what s.dumps) (dumps_of s step)
    (left_keeps (IsMade m first (before ++ step ∷ [])) step.what s.dumps
    (all_wider (IsMade m first before) (IsMade m first (before ++ step ∷ [])) s.dumps (made_longer m first before step) made)) new) in
    subst (λ l. AllByRecursion (IsMade m first l) (replay m s1 steps).dumps) (append_assoc before (step ∷ []) steps) (all_made m first s1 (before ++ step ∷ []) steps here both)

pub dumps_are_made : (m : Meaning) (first : Base) (steps : List Step) → first.dumps ≡ [] → AllByRecursion (IsMade m first steps) (replay m first steps).dumps
dumps_are_made m first steps none = all_made m first first [] steps refl (subst (AllByRecursion (IsMade m first [])) (sym none) tt)
