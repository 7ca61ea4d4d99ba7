-- What is brought of a bundle that is named.
use Rattle.std.specs.Prelude.{◌≡◌, ℕ, List, Option, Some, None, Result, Ok, Err}
use Rattle.edge_traits.specs.Shelf.{ShelfView}
use Rattle.config_bundle.specs.declared.bundle.Bundle.{Bundle}
use Rattle.config_bundle.specs.Bundle.{bundle_code}
use Rattle.runtime_config.specs.Load.{load}
use Rattle.runtime_config.specs.declared.plan.Plan.{Plan}
use Rattle.bundle_fetch.specs.Fetch.{bundle_from, Files}
use Rattle.bundle_bringing.specs.declared.bringing.Unbrought.{Unbrought}
use Rattle.bundle_bringing.specs.declared.bringing.Unbrought.TheVariants as unbrought

-- what a shelf has under a name, as a bundle: it and its plan where it loads, or its first fault, or the first name that is
-- absent; the other faults say nothing of what the shelf has
abbrev pub IsBrought : Files → List ℕ → Result (Bundle × Plan) Unbrought → Type 0
IsBrought files name (Ok found) = (bundle_from files name ≡ Ok found.0) × (load found.0 ≡ Ok found.1)
IsBrought files name (Err (unbrought.Absent other)) = bundle_from files name ≡ Err other
IsBrought files name (Err (unbrought.Failed other)) = Unit {0}
IsBrought files name (Err (unbrought.Config fault)) = (bundle : Bundle) × (bundle_from files name ≡ Ok bundle) × (load bundle ≡ Err fault)
IsBrought files name (Err unbrought.OutOfMemory) = Unit {0}

-- where a shelf tells what it has
abbrev pub Brings : ShelfView → List ℕ → Result (Bundle × Plan) Unbrought → Type 0
Brings shelf name brought = (files : Files) → shelf.told ≡ Some files → IsBrought files name brought

-- the code of a bundle that loads, where one is named
abbrev pub IsNamed : Files → Option (List ℕ) → Result (Option (List ℕ)) Unbrought → Type 0
IsNamed files None (Ok None) = Unit {0}
IsNamed files None (Ok (Some code)) = ⊥
IsNamed files None (Err why) = ⊥
IsNamed files (Some name) (Ok None) = ⊥
IsNamed files (Some name) (Ok (Some code)) = (found : Bundle × Plan) × IsBrought files name (Ok found) × (code ≡ bundle_code found.0)
IsNamed files (Some name) (Err why) = IsBrought files name (Err why)

abbrev pub Names : ShelfView → Option (List ℕ) → Result (Option (List ℕ)) Unbrought → Type 0
Names shelf name named = (files : Files) → shelf.told ≡ Some files → IsNamed files name named
