-- The bundle in force is one that loads, in each state of a history.
use Rattle.std.proofs.Common.{◌≡◌, ◌+◌, List, [], ◌∷◌, Option, Some, None, find, refl, ◌∙◌, ap}
use Rattle.stored_types.specs.declared.message.Dump.{Dump}
use Rattle.base_types.specs.declared.message.Moment.{Moment}
use Rattle.base_types.specs.declared.message.Msg.{Msg}
use Rattle.base_types.specs.Name.{queue_name}
use Rattle.base_types.proofs.Options.{some_value}
use Rattle.step_code.specs.declared.base.Base.{Base}
use Rattle.step_code.specs.declared.rules.Facts.{Facts}
use Rattle.step_code.specs.declared.step.StepKind.{StepKind}
use Rattle.step_code.specs.declared.step.StepKind.TheVariants as kind
use Rattle.step_code.specs.Rules.{Meaning}
use Rattle.step_code.specs.State.{bots_in_force, bots_of, is_dump, waiting}
use Rattle.step_code.specs.After.{after, instances_of, redone, taken_first}
use Rattle.step_code.specs.Fits.{Fits}
use Rattle.step_code.proofs.Parts.{reload_fits}
use Rattle.step_code.proofs.GivenBack.{kept-all_given_back}

module _ (m : Meaning) where
  pub still_loads : (s : Base) (now : Moment) (what : StepKind) → Fits m s (record { moment = now; what = what }) → (bots : List Facts) × (m.facts s.bundle ≡ Some bots)
      → (bots : List Facts) × (m.facts (after m s (record { moment = now; what = what })).bundle ≡ Some bots)
  still_loads s now kind.Start fits plan = plan
  still_loads s now (kind.Collect bot from upto piece) fits plan = plan
  still_loads s now (kind.FeedEnd bot position) fits plan = plan
  still_loads s now (kind.Take bot instance message) fits plan = (plan.0, ap m.facts (go (waiting (queue_name bot) s)) ∙ plan.1)
    where
      go : (messages : List Msg) → (taken_first bot instance now messages (record s { steps = s.steps + 1; latest = now })).bundle ≡ s.bundle
      go [] = refl
      go (x ∷ xs) = refl
  still_loads s now (kind.Done bot instance message bundle sends dumps key line) fits plan = plan
  still_loads s now (kind.Retry bot instance message bundle fault) fits plan = plan
  still_loads s now (kind.Fail bot instance message bundle fault queues halts) fits plan = plan
  still_loads s now (kind.Reload bundle) fits plan =
      let new = some_value (m.facts bundle) (reload_fits m s now bundle fits) in
      (new.0, ap m.facts (kept-all_given_back (λ (t : Base). t.bundle) (λ t queues hands. refl) (bots_of m bundle) (instances_of (bots_in_force m s)) _) ∙ new.1)
  still_loads s now (kind.Redo dump) fits plan = (plan.0, ap m.facts (go (find (is_dump dump) s.dumps)) ∙ plan.1)
    where
      go : (found : Option Dump) → (redone dump found (record s { steps = s.steps + 1; latest = now })).bundle ≡ s.bundle
      go None = refl
      go (Some d) = refl
  still_loads s now (kind.Round bot) fits plan = plan
