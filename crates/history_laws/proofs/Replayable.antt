-- What may be taken may be replayed.
use Rattle.std.proofs.Common.{◌≡◌, ◌⊎◌, inl, inr, ⊎_elim, ℕ, Bool, true, false, List, [], Option, Some, None, IsSome, is_some, IsTrue, refl, sym, ◌∙◌, ap, subst, unwrap_or, option_and_then}
use Rattle.base_types.specs.declared.message.Moment.{Moment}
use Rattle.step_code.specs.declared.base.Base.{Base}
use Rattle.step_code.specs.declared.rules.Facts.{Facts}
use Rattle.step_code.specs.declared.step.Step.{Step}
use Rattle.step_code.specs.declared.step.StepKind.{StepKind}
use Rattle.step_code.specs.declared.step.StepKind.TheVariants as kind
use Rattle.step_code.specs.Rules.{Meaning, Task, FitsBot, bot_named, passes, writes}
use Rattle.step_code.specs.State.{bots_in_force, is_instance}
use Rattle.step_code.specs.Content.{Carries, May, MayReplay, Shows, is_duplicate}
use Rattle.step_code.proofs.Parts.{done_fits, passes_there}

-- a key that a step carries is that which the bot gave
carried_key : (duplicate : Bool) (given_sends sends : List (List ℕ × List ℕ)) (given_key key : Option (List ℕ)) → Carries duplicate given_sends given_key sends key → (key ≡ None) ⊎ (key ≡ given_key)
carried_key true given_sends sends given_key key carries = inl carries.1
carried_key false given_sends sends given_key key carries = inr carries.1

-- and no duplicate
not_carried : (m : Meaning) (s : Base) (bot : List ℕ) (now : ℕ) (duplicate : Bool) (given_sends sends : List (List ℕ × List ℕ)) (given_key key : Option (List ℕ))
    → is_duplicate m s bot now given_key ≡ duplicate → Carries duplicate given_sends given_key sends key → is_duplicate m s bot now key ≡ false
not_carried m s bot now true given_sends sends given_key key is carries = ap (is_duplicate m s bot now) carries.1
not_carried m s bot now false given_sends sends given_key key is carries = ap (is_duplicate m s bot now) carries.1 ∙ is

none_is_there : {A : Type 0} (o : Option A) → o ≡ None → IsSome o → ⊥
none_is_there None is there = clash there
  where
    clash : false ≡ true → ⊥
    clash e = cc
none_is_there (Some x) is there = clash (ap is_some is)
  where
    clash : true ≡ false → ⊥
    clash e = cc

module _ (m : Meaning) (bots : List Facts)
    (given_fits : (facts : Facts) (task : Task) (body : List ℕ) (since : ℕ) → m.facts task.bundle ≡ Some bots → bot_named task.bot bots ≡ Some facts → FitsBot m facts (m.give task body since)) where
  in_force : (s : Base) → m.facts s.bundle ≡ Some bots → bots_in_force m s ≡ bots
  in_force s plan = ap (λ o. unwrap_or o []) plan

  shows : (s : Base) (now : Moment) (what : StepKind) → m.facts s.bundle ≡ Some bots → May m s (record { moment = now; what = what }) → Shows m s now.0 what
  shows s now kind.Start plan may = tt
  shows s now (kind.Collect bot from upto piece) plan may = may.content.what.0
  shows s now (kind.FeedEnd bot position) plan may = tt
  shows s now (kind.Take bot instance message) plan may = may.content.what
  shows s now (kind.Done bot instance message bundle sends dumps key line) plan may =
      let result = may.content.what in
      let live = subst (λ b. is_instance b bot instance ≡ true) (in_force s plan) (done_fits m s now bot instance message bundle sends dumps key line may.fits).0 in
      let named = passes_there _ (bot_named bot bots) live in
      let fits = subst (FitsBot m named.0) result.gives (given_fits named.0 (record { bundle = s.bundle; bot = bot }) result.hand.message.body result.hand.since.0 plan named.1) in
      let here : bot_named bot (bots_in_force m s) ≡ Some named.0 = ap (bot_named bot) (in_force s plan) ∙ named.1 in
      record {
        rule = λ there. subst (λ o. IsSome (option_and_then (λ f. f.cache) o)) (sym here) (⊎_elim (λ none. absurd (none_is_there key none there)) (λ given. fits.2 (subst IsSome given there))
            (carried_key (is_duplicate m s bot now.0 result.given_key) result.given_sends sends result.given_key key result.carries));
        fresh_key = not_carried m s bot now.0 (is_duplicate m s bot now.0 result.given_key) result.given_sends sends result.given_key key refl result.carries;
        output = λ written. subst (λ o. IsTrue (passes writes o)) (sym here) (fits.3 written);
      }
  shows s now (kind.Retry bot instance message bundle fault) plan may = tt
  shows s now (kind.Fail bot instance message bundle fault queues halts) plan may = tt
  shows s now (kind.Reload bundle) plan may = tt
  shows s now (kind.Redo dump) plan may = tt
  shows s now (kind.Round bot) plan may = tt

  pub may_replay : (s : Base) (step : Step) → m.facts s.bundle ≡ Some bots → May m s step → MayReplay m s step
  may_replay s step plan may = record { fits = may.fits; time = may.content.time; what = shows s step.moment step.what plan may }
