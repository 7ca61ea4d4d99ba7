-- What holds of the files of every store that began with a bundle.
use Rattle.std.specs.Prelude.{◌≡◌, ℕ, Bool, List, Some}
use Rattle.edge_traits.specs.Disk.{Image}
use Rattle.step_code.specs.declared.rules.Facts.{Facts}
use Rattle.step_code.specs.declared.step.Step.{Step}
use Rattle.step_code.specs.History.{first, Legal}
use Rattle.step_code.specs.Rules.{Meaning}
use Rattle.step_code.specs.Spent.{NothingIsSpent}
use Rattle.store_image.specs.Opens.{Opens}
use Rattle.store_image.specs.Stands.{origin_of, Stands}

-- what stands for a legal history in which no number is spent opens
abbrev pub WhatStandsOpens : Meaning → Type 0
WhatStandsOpens m =
    (bots : List Facts) (bundle : List ℕ) (whole : Bool) (image : Image) (history : List Step) → m.facts bundle ≡ Some bots → Legal m (first bots bundle) history → NothingIsSpent m (first bots bundle) history
    → (stands : Stands m (origin_of (first bots bundle) whole) image history) → Opens m image stands.generation stands.base stands.steps
