-- What holds of states that differ in how many lines of their outputs are sealed.
use Rattle.std.specs.Prelude.{◌≡◌, ◌≤◌, ◌↔◌, ℕ, suc, List, [], length}
use Rattle.core_state.specs.Sealing.{sealed_whole}
use Rattle.edge_traits.specs.Disk.{Image}
use Rattle.step_code.specs.declared.base.Base.{Base}
use Rattle.step_code.specs.declared.step.Step.{Step}
use Rattle.step_code.specs.After.{after}
use Rattle.step_code.specs.Code.{code_of_base, first_format}
use Rattle.step_code.specs.Content.{May}
use Rattle.step_code.specs.History.{replay, Legal}
use Rattle.step_code.specs.Rules.{Meaning}
use Rattle.step_code.specs.Sound.{longest_base}
use Rattle.step_code.specs.Spent.{spent, NothingIsSpent}
use Rattle.store_image.specs.Files.{generation_file}
use Rattle.store_image.specs.Stands.{IsSealOf, Origin, Stands}
use Rattle.store_image.specs.Stored.{IsStored}
use Rattle.store_image.specs.Renewed.{AreAllLines}

-- the same steps may be taken
abbrev pub SealedSteps : Type 0
SealedSteps = (m : Meaning) (whole sealed : Base) (step : Step) → IsSealOf whole sealed → May m whole step ↔ May m sealed step

-- a step spends the same number, or none
abbrev pub SealingKeepsWhatIsSpent : Type 0
SealingKeepsWhatIsSpent = (m : Meaning) (whole sealed : Base) (step : Step) → IsSealOf whole sealed → spent m whole step ≡ spent m sealed step

-- a step keeps them so
abbrev pub SealingIsKept : Type 0
SealingIsKept = (m : Meaning) (whole sealed : Base) (step : Step) → IsSealOf whole sealed → IsSealOf (after m whole step) (after m sealed step)

-- the same histories are legal, and spend no number; and they lead to such states again
abbrev pub SealedHistories : Type 0
SealedHistories = (m : Meaning) (whole sealed : Base) (steps : List Step) → IsSealOf whole sealed
    → (Legal m whole steps ↔ Legal m sealed steps) × (NothingIsSpent m whole steps ↔ NothingIsSpent m sealed steps) × IsSealOf (replay m whole steps) (replay m sealed steps)

-- sealing all lines of a state makes one with more lines sealed, and else the same
abbrev pub SealingAllIsSealing : Type 0
SealingAllIsSealing = (s : Base) → IsSealOf s (sealed_whole s)

-- where the root names the next generation, which holds the state that the one before it led to, all lines sealed, and no step, where
-- the files of the outputs are all of their lines and those of the generations before are what they were, the files stand for the same
-- history
abbrev pub WhatIsRenewedStands : Type 0
WhatIsRenewedStands = (m : Meaning) (origin : Origin) (history : List Step) (before image : Image) (stands : Stands m origin before history)
    → ((k : ℕ) → k ≤ stands.generation → before (generation_file k) ≡ image (generation_file k))
    → AreAllLines (replay m origin.first history).outs image
    → IsStored image (suc stands.generation) (sealed_whole (replay m stands.base stands.steps)) []
    → length (code_of_base first_format (sealed_whole (replay m stands.base stands.steps))) ≤ longest_base
    → Stands m origin image history
