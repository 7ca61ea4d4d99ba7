-- A step is counted after it is done.
use Rattle.std.proofs.Common.{◌≡◌, ◌+◌, ℕ, List, [], ◌∷◌, Option, Some, None, find, refl}
use Rattle.base_types.specs.declared.message.Moment.{Moment}
use Rattle.base_types.specs.declared.message.Msg.{Msg}
use Rattle.stored_types.specs.declared.message.Dump.{Dump}
use Rattle.step_code.specs.declared.base.Base.{Base}
use Rattle.step_code.specs.declared.step.StepKind.{StepKind}
use Rattle.step_code.specs.declared.step.StepKind.TheVariants as kind
use Rattle.step_code.specs.After.{acted, after, redone, taken_first}
use Rattle.step_code.specs.Rules.{Meaning}
use Rattle.base_types.specs.Name.{queue_name}
use Rattle.step_code.specs.State.{is_dump, waiting}
use Rattle.ack_steps.specs.Core.{IsNoReload}

abbrev pub counted : ℕ → Moment → Base → Base
counted steps now b = record b { steps = steps; latest = now }

-- counting a step before it is done is counting it after
pub counted_after : (m : Meaning) (now : Moment) (b : Base) (what : StepKind) → IsNoReload what → counted (b.steps + 1) now (acted m now b what) ≡ after m b (record { moment = now; what = what })
counted_after m now b kind.Start plain = refl
counted_after m now b (kind.Collect bot from upto piece) plain = refl
counted_after m now b (kind.FeedEnd bot position) plain = refl
counted_after m now b (kind.Take bot instance message) plain = go (waiting (queue_name bot) b)
  where
    go : (messages : List Msg) → counted (b.steps + 1) now (taken_first bot instance now messages b) ≡ taken_first bot instance now messages (counted (b.steps + 1) now b)
    go [] = refl
    go (x ∷ xs) = refl
counted_after m now b (kind.Done bot instance message bundle sends dumps key line) plain = refl
counted_after m now b (kind.Retry bot instance message bundle fault) plain = refl
counted_after m now b (kind.Fail bot instance message bundle fault queues halts) plain = refl
counted_after m now b (kind.Reload bundle) plain = absurd plain
counted_after m now b (kind.Redo dump) plain = go (find (is_dump dump) b.dumps)
  where
    go : (found : Option Dump) → counted (b.steps + 1) now (redone dump found b) ≡ redone dump found (counted (b.steps + 1) now b)
    go None = refl
    go (Some d) = refl
counted_after m now b (kind.Round bot) plain = refl

-- nor does a step count itself, or change the bundle
pub record IsKept (b t : Base) : Type 0 where
  pub steps : t.steps ≡ b.steps
  pub bundle : t.bundle ≡ b.bundle

pub acted_keeps : (m : Meaning) (now : Moment) (b : Base) (what : StepKind) → IsNoReload what → IsKept b (acted m now b what)
acted_keeps m now b kind.Start plain = record { steps = refl; bundle = refl }
acted_keeps m now b (kind.Collect bot from upto piece) plain = record { steps = refl; bundle = refl }
acted_keeps m now b (kind.FeedEnd bot position) plain = record { steps = refl; bundle = refl }
acted_keeps m now b (kind.Take bot instance message) plain = go (waiting (queue_name bot) b)
  where
    go : (messages : List Msg) → IsKept b (taken_first bot instance now messages b)
    go [] = record { steps = refl; bundle = refl }
    go (x ∷ xs) = record { steps = refl; bundle = refl }
acted_keeps m now b (kind.Done bot instance message bundle sends dumps key line) plain = record { steps = refl; bundle = refl }
acted_keeps m now b (kind.Retry bot instance message bundle fault) plain = record { steps = refl; bundle = refl }
acted_keeps m now b (kind.Fail bot instance message bundle fault queues halts) plain = record { steps = refl; bundle = refl }
acted_keeps m now b (kind.Reload bundle) plain = absurd plain
acted_keeps m now b (kind.Redo dump) plain = go (find (is_dump dump) b.dumps)
  where
    go : (found : Option Dump) → IsKept b (redone dump found b)
    go None = record { steps = refl; bundle = refl }
    go (Some d) = record { steps = refl; bundle = refl }
acted_keeps m now b (kind.Round bot) plain = record { steps = refl; bundle = refl }
