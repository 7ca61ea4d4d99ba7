-- A bundle's number tells the bundle: none gets a number twice.
use Rattle.std.proofs.Common.{◌≡◌, ◌≤◌, ◌+◌, ◌⊎◌, inl, inr, List, [], ◌∷◌, find, Option, Some, None, refl, sym, ◌∙◌, arith}
use Rattle.base_types.specs.declared.message.Moment.{Moment}
use Rattle.base_types.specs.declared.message.Msg.{Msg}
use Rattle.base_types.specs.Name.{queue_name}
use Rattle.stored_types.specs.declared.message.Dump.{Dump}
use Rattle.step_code.specs.declared.base.Base.{Base}
use Rattle.step_code.specs.declared.step.Step.{Step}
use Rattle.step_code.specs.declared.step.StepKind.{StepKind}
use Rattle.step_code.specs.declared.step.StepKind.TheVariants as kind
use Rattle.step_code.specs.After.{after, instances_of, redone, taken_first}
use Rattle.step_code.specs.History.{replay}
use Rattle.step_code.specs.Rules.{Meaning}
use Rattle.step_code.specs.State.{bots_in_force, bots_of, is_dump, waiting}
use Rattle.step_code.proofs.GivenBack.{kept-all_given_back}

-- a step leaves the bundle in force, or puts one in force under the next number
record Stays (s t : Base) : Type 0 where
  pub number : t.bundle_no ≡ s.bundle_no
  pub bundle : t.bundle ≡ s.bundle

abbrev Goes : Base → Base → Type 0
Goes s t = Stays s t ⊎ (t.bundle_no ≡ s.bundle_no + 1)

one_goes : (m : Meaning) (s : Base) (now : Moment) (what : StepKind) → Goes s (after m s (record { moment = now; what = what }))
one_goes m s now kind.Start = inl (record { number = refl; bundle = refl })
one_goes m s now (kind.Collect bot from upto piece) = inl (record { number = refl; bundle = refl })
one_goes m s now (kind.FeedEnd bot position) = inl (record { number = refl; bundle = refl })
one_goes m s now (kind.Take bot instance message) = inl (go (waiting (queue_name bot) s))
  where
    go : (messages : List Msg) → Stays s (taken_first bot instance now messages (record s { steps = s.steps + 1; latest = now }))
    go [] = record { number = refl; bundle = refl }
    go (x ∷ xs) = record { number = refl; bundle = refl }
one_goes m s now (kind.Done bot instance message bundle sends dumps key line) = inl (record { number = refl; bundle = refl })
one_goes m s now (kind.Retry bot instance message bundle fault) = inl (record { number = refl; bundle = refl })
one_goes m s now (kind.Fail bot instance message bundle fault queues halts) = inl (record { number = refl; bundle = refl })
one_goes m s now (kind.Reload bundle) = inr (kept-all_given_back (λ (t : Base). t.bundle_no) (λ t queues hands. refl) (bots_of m bundle) (instances_of (bots_in_force m s)) _)
one_goes m s now (kind.Redo dump) = inl (go (find (is_dump dump) s.dumps))
  where
    go : (found : Option Dump) → Stays s (redone dump found (record s { steps = s.steps + 1; latest = now }))
    go None = record { number = refl; bundle = refl }
    go (Some d) = record { number = refl; bundle = refl }
one_goes m s now (kind.Round bot) = inl (record { number = refl; bundle = refl })

one_more : (s t : Base) → Goes s t → s.bundle_no ≤ t.bundle_no
one_more s t (inl stays) = omega (arith, stays.number)
one_more s t (inr next) = omega (arith, next)

-- numbers don't fall
grow : (m : Meaning) (s : Base) (steps : List Step) → s.bundle_no ≤ (replay m s steps).bundle_no
grow m s [] = omega arith
grow m s (step ∷ steps) = omega (arith, one_more s (after m s step) (one_goes m s step.moment step.what), grow m (after m s step) steps)

pub by_number : (m : Meaning) (s : Base) (steps : List Step) → (replay m s steps).bundle_no ≡ s.bundle_no → (replay m s steps).bundle ≡ s.bundle
by_number m s [] same = refl
by_number m s (step ∷ steps) same = go (by_number m (after m s step) steps) (one_goes m s step.moment step.what)
  where
    go : ((replay m (after m s step) steps).bundle_no ≡ (after m s step).bundle_no → (replay m (after m s step) steps).bundle ≡ (after m s step).bundle) → Goes s (after m s step) → (replay m (after m s step) steps).bundle ≡ s.bundle
    go later (inl stays) = later (same ∙ sym stays.number) ∙ stays.bundle
    go later (inr next) = absurd (omega (arith, next, same, grow m (after m s step) steps))
