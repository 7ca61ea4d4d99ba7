-- What a step carries of what a bot gave.
use Rattle.std.specs.Prelude.{◌≡◌, ℕ, Bool, List, Option}
use Rattle.base_types.specs.declared.message.FaultNote.{FaultNote}
use Rattle.step_code.specs.declared.base.Base.{Base}
use Rattle.step_code.specs.declared.rules.Given.{Given}
use Rattle.step_code.specs.declared.rules.Given.TheVariants as given
use Rattle.step_code.specs.Content.{is_duplicate, Carries}
use Rattle.step_code.specs.Rules.{Meaning}

-- what was given is a pass, and the step carries it
abbrev pub IsPassOf : Meaning → Base → List ℕ → ℕ → Given → List (List ℕ × List ℕ) → List (List ℕ × FaultNote) → Option (List ℕ) → Bool → Type 0
IsPassOf m s bot now (given.Pass given_sends given_dumps given_key given_line) sends dumps key line =
    (given_dumps ≡ dumps) × (given_line ≡ line) × Carries (is_duplicate m s bot now given_key) given_sends given_key sends key
IsPassOf m s bot now (given.Fault note) sends dumps key line = ⊥
