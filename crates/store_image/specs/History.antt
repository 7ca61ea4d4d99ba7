-- The history that all generations of a store hold together.
use Rattle.std.specs.Prelude.{◌≡◌, ℕ, suc, List, [], ◌∷◌, ◌++◌, length}
use Rattle.edge_traits.specs.Disk.{Image}
use Rattle.step_code.specs.declared.base.Base.{Base}
use Rattle.step_code.specs.declared.step.Step.{Step}
use Rattle.store_image.specs.Files.{root_file, generation_file}
use Rattle.store_image.specs.Stands.{joined}
use Rattle.store_image.specs.Stored.{HoldsSteps, NamesLast}

-- the file of each generation from h on holds such a state and such steps
abbrev pub AreHeld : Image → ℕ → List (Base × List Step) → Type 0
AreHeld image h [] = Unit {0}
AreHeld image h (held ∷ later) = HoldsSteps h (image (generation_file h)) held.0 held.1 × AreHeld image (suc h) later

-- the root names a generation last, each generation up to that holds some state and steps, and these are all steps, one behind the
-- other
pub record HasHistory (image : Image) (history : List Step) : Type 0 where
  pub generation : ℕ
  pub named : NamesLast (image root_file) generation
  pub held : List (Base × List Step)
  pub count : length held ≡ suc generation
  pub each : AreHeld image 0 held
  pub joins : history ≡ joined held

-- the files hold a history that begins with these steps
pub record HasHistoryFrom (steps : List Step) (image : Image) : Type 0 where
  pub history : List Step
  pub has : HasHistory image history
  pub more : List Step
  pub splits : history ≡ steps ++ more
