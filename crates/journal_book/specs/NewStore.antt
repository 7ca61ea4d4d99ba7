-- A store that is being made.
use Rattle.std.specs.Prelude.{◌≡◌, ◌⊎◌, ℕ, Bool, List, [], Some}
use Rattle.edge_traits.specs.Disk.{DiskView, Image}
use Rattle.step_code.specs.declared.rules.Facts.{Facts}
use Rattle.step_code.specs.History.{first}
use Rattle.step_code.specs.Rules.{Meaning}
use Rattle.store_image.specs.Files.{root_file, generation_file}
use Rattle.store_image.specs.Stands.{origin_of, Stands}
use Rattle.store_image.specs.Stored.{HoldsSteps, NamesLast}

-- the first generation's file holds the first state of this bundle, and no steps behind it: where the root names that
-- generation last, the files stand for no steps of the new store
pub record HoldsFirst (m : Meaning) (bundle : List ℕ) (image : Image) : Type 0 where
  pub bots : List Facts
  pub loads : m.facts bundle ≡ Some bots
  pub holds : HoldsSteps 0 (image (generation_file 0)) (first bots bundle) []
  pub stands : (whole : Bool) → NamesLast (image root_file) 0 → Stands m (origin_of (first bots bundle) whole) image []

-- a crash leaves a root that it might have left before, or the first generation's file holds that state
abbrev pub HasOldRootOrFirst : Meaning → List ℕ → DiskView → Image → Type 0
HasOldRootOrFirst m bundle old image = old.may_leave root_file (image root_file) ⊎ HoldsFirst m bundle image
