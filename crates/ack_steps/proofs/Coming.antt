-- Only a reload brings bots.
use Rattle.std.proofs.Common.{◌≡◌, ℕ, List, [], refl}
use Rattle.step_code.specs.declared.step.StepKind.{StepKind}
use Rattle.step_code.specs.declared.step.StepKind.TheVariants as kind
use Rattle.step_code.specs.Rules.{Meaning}
use Rattle.core_state.specs.Spent.{bots_coming}

pub none_coming : (m : Meaning) (what : StepKind) → ((bundle : List ℕ) → what ≡ kind.Reload bundle → ⊥) → [] ≡ bots_coming m what
none_coming m kind.Start other = refl
none_coming m (kind.Collect bot from upto piece) other = refl
none_coming m (kind.FeedEnd bot position) other = refl
none_coming m (kind.Take bot instance message) other = refl
none_coming m (kind.Done bot instance message bundle sends dumps key line) other = refl
none_coming m (kind.Retry bot instance message bundle fault) other = refl
none_coming m (kind.Fail bot instance message bundle fault queues halts) other = refl
none_coming m (kind.Reload bundle) other = absurd (other bundle refl)
none_coming m (kind.Redo dump) other = refl
none_coming m (kind.Round bot) other = refl
