-- Which history a store's files stand for. Behind its last sealing a state keeps only those lines of its outputs that
-- aren't sealed in their files.
use Rattle.std.specs.Prelude.{◌≡◌, ◌≤◌, ◌+◌, ℕ, suc, Bool, true, false, List, [], ◌∷◌, ◌++◌, length, take}
use Rattle.std.specs.List.{AllByRecursion}
use Rattle.edge_traits.specs.Disk.{Image}
use Rattle.out_files.specs.Output.{lines_text}
use Rattle.step_code.specs.declared.base.Base.{Base}
use Rattle.step_code.specs.declared.output.Output.{Output}
use Rattle.step_code.specs.declared.step.Step.{Step}
use Rattle.step_code.specs.Code.{code_of_base, first_format}
use Rattle.step_code.specs.History.{replay}
use Rattle.step_code.specs.Rules.{Meaning}
use Rattle.step_code.specs.Sound.{longest_base}
use Rattle.store_image.specs.Files.{generation_file, out_file}
use Rattle.store_image.specs.Stored.{HoldsSteps, IsStored}

-- an output with more of its lines sealed
pub record IsSealedFrom (whole sealed : Output) : Type 0 where
  pub bot : sealed.bot ≡ whole.bot
  pub front : List (List ℕ)
  pub lines : whole.lines ≡ front ++ sealed.lines
  pub count : sealed.sealed_lines ≡ whole.sealed_lines + length front
  pub bytes : sealed.sealed_bytes ≡ whole.sealed_bytes + length (lines_text front)

abbrev pub AreSealedFrom : List Output → List Output → Type 0
AreSealedFrom [] sealed = sealed ≡ []
AreSealedFrom (whole ∷ wholes) [] = ⊥
AreSealedFrom (whole ∷ wholes) (sealed ∷ more) = IsSealedFrom whole sealed × AreSealedFrom wholes more

-- a state with more lines of its outputs sealed, and else the same
pub record IsSealOf (whole sealed : Base) : Type 0 where
  pub outs : AreSealedFrom whole.outs sealed.outs
  pub same : sealed ≡ record whole { outs = sealed.outs }

-- the file of an output begins with the lines of it that are sealed, and they have so many bytes
pub record FrontStands (whole sealed : Output) (file : List ℕ) : Type 0 where
  pub size : length (lines_text (take sealed.sealed_lines whole.lines)) ≡ sealed.sealed_bytes
  pub begins : take sealed.sealed_bytes file ≡ lines_text (take sealed.sealed_lines whole.lines)

-- so do the files of these outputs, the first of which is output k
abbrev pub FrontsStand : ℕ → List Output → List Output → Image → Type 0
FrontsStand k [] sealed image = Unit {0}
FrontsStand k (whole ∷ wholes) [] image = Unit {0}
FrontsStand k (whole ∷ wholes) (sealed ∷ more) image = FrontStands whole sealed (image (out_file k)) × FrontsStand (suc k) wholes more image

-- ---- where a store's history begins

-- the state that a store began with, and whether the files of its earlier generations are looked at too: an operator may have taken
-- these away
pub record Origin : Type 0 where
  pub first : Base
  pub whole : Bool

abbrev pub origin_of : Base → Bool → Origin
origin_of first whole = record { first = first; whole = whole }

-- no line of an output is sealed
abbrev pub IsUnsealed : Output → Type 0
IsUnsealed o = (o.sealed_bytes ≡ 0) × (o.sealed_lines ≡ 0)

-- generations from h on, behind this state: the file of each holds the state before it with more sealed, and steps behind that
abbrev pub AreArchived : Meaning → Image → ℕ → Base → List (Base × List Step) → Type 0
AreArchived m image h s [] = Unit {0}
AreArchived m image h s (held ∷ later) =
    HoldsSteps h (image (generation_file h)) held.0 held.1 × IsSealOf s held.0 × AreArchived m image (suc h) (replay m held.0 held.1) later

-- the steps that generations hold, one behind the other
abbrev pub joined : List (Base × List Step) → List Step
joined [] = []
joined (held ∷ later) = held.1 ++ joined later

-- the state behind them
abbrev pub behind : Meaning → Base → List (Base × List Step) → Base
behind m s [] = s
behind m s (held ∷ later) = behind m (replay m held.0 held.1) later

-- the generations below this one hold just these steps of the store that began with this state, and it begins with the state behind
-- them, with more sealed
pub record IsArchive (m : Meaning) (first : Base) (generation : ℕ) (base : Base) (past : List Step) (image : Image) : Type 0 where
  pub held : List (Base × List Step)
  pub count : length held ≡ generation
  pub each : AreArchived m image 0 first held
  pub joins : past ≡ joined held
  pub ends : IsSealOf (behind m first held) base

abbrev pub WhereWhole : Bool → Type 0 → Type 0
WhereWhole true is = is
WhereWhole false is = Unit {0}

-- ---- what files stand for

-- the files stand for this history of the store of this origin: their generation begins with the state behind some of its steps,
-- whose code is no longer than a store may hold, and holds the others; it began with no line sealed
pub record Stands (m : Meaning) (origin : Origin) (image : Image) (history : List Step) : Type 0 where
  pub generation : ℕ
  pub base : Base
  pub past : List Step
  pub steps : List Step
  pub splits : history ≡ past ++ steps
  pub stored : IsStored image generation base steps
  pub seals : IsSealOf (replay m origin.first past) base
  pub fronts : FrontsStand 0 (replay m origin.first past).outs base.outs image
  pub short : length (code_of_base first_format base) ≤ longest_base
  pub unsealed : AllByRecursion IsUnsealed origin.first.outs
  pub below : WhereWhole origin.whole (IsArchive m origin.first generation base past image)

-- the files stand for these steps and a front of those behind them
pub record StandsFor (m : Meaning) (origin : Origin) (steps more : List Step) (image : Image) : Type 0 where
  pub count : ℕ
  pub within : count ≤ length more
  pub stands : Stands m origin image (steps ++ take count more)
