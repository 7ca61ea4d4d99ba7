-- The steps that a call opens with, one by one.
use Rattle.std.specs.Prelude.{◌≡◌, ℕ, true, List}
use Rattle.std.specs.List.{AllByRecursion}
use Rattle.step_code.specs.declared.base.Base.{Base}
use Rattle.step_code.specs.declared.step.StepKind.{StepKind}
use Rattle.step_code.specs.declared.step.StepKind.TheVariants as kind
use Rattle.step_code.specs.Rules.{Meaning, is_collector}
use Rattle.step_code.specs.State.{bots_in_force, has_finished}

-- the step carries nothing that rules give
abbrev pub IsPlain : StepKind → Type 0
IsPlain kind.Start = Unit {0}
IsPlain (kind.Reload bundle) = Unit {0}
IsPlain (kind.Round bot) = Unit {0}
IsPlain other = ⊥

-- these are collectors that have read their feeds to the end
abbrev pub HaveFinished : Meaning → Base → List (List ℕ) → Type 0
HaveFinished m s bots = AllByRecursion (λ bot. (is_collector (bots_in_force m s) bot ≡ true) × (has_finished bot s ≡ true)) bots
