-- Which damage opening a store finds, and where: first in the records of the root, then in the generations that it names,
-- then in the records of the generation in force, its state and its steps, and last in the lengths of the outputs.
use Rattle.std.specs.Prelude.{◌≡◌, ◌≢◌, ◌⊎◌, ◌≤◌, ◌<◌, ◌+◌, ℕ, suc, List, [], ◌∷◌, ◌++◌, length, map}
use Rattle.std.specs.List.{AllByRecursion}
use Rattle.edge_traits.specs.Disk.{Image}
use Rattle.disk_journal.specs.declared.header.Heading.{Heading}
use Rattle.disk_journal.specs.GateFile.{frame_length, header_length, open_records, HasBodies, IsDamagedAt}
use Rattle.stored_types.specs.Code.{number}
use Rattle.step_code.specs.declared.base.Base.{Base}
use Rattle.step_code.specs.declared.output.Output.{Output}
use Rattle.step_code.specs.declared.step.Step.{Step}
use Rattle.step_code.specs.Code.{code_of_base, code_of_step, first_format, IsWritable, IsWritableBase}
use Rattle.step_code.specs.History.{replay}
use Rattle.step_code.specs.Rules.{Meaning}
use Rattle.step_code.specs.Sound.{IsSound}
use Rattle.step_code.specs.Spent.{last_given}
use Rattle.store_image.specs.Files.{root_file, out_file, generation_file, heading_of, root_heading}
use Rattle.store_image.specs.Opens.{AreAlong, AreReplayable, IsReplayable}
use Rattle.store_image.specs.Stored.{codes_of, AreRecords, NamesLast, IsStored}

-- the offset behind whole records with these bodies, where the next gate stands
abbrev pub behind_bodies : List (List ℕ) → ℕ
behind_bodies bodies = header_length + length (open_records bodies)

-- a file has no record
abbrev pub IsWithout : List (List ℕ) → ℕ → Type 0
IsWithout bodies at = (bodies ≡ []) × (at ≡ header_length)

-- a file's records are damaged, or they are whole and their bodies bad
abbrev pub IsDamagedFile : Heading → (List (List ℕ) → ℕ → Type 0) → List ℕ → ℕ → Type 0
IsDamagedFile heading bad file at = IsDamagedAt heading file at ⊎ ((bodies : List (List ℕ)) × HasBodies heading bodies file × bad bodies at)

-- ---- the root

-- behind bodies that are numbers of generations, one is none, and its gate stands at this offset
pub record IsNoGeneration (bodies : List (List ℕ)) (at : ℕ) : Type 0 where
  pub before : List ℕ
  pub body : List ℕ
  pub later : List (List ℕ)
  pub splits : bodies ≡ map number before ++ body ∷ later
  pub given : AllByRecursion (λ n. n ≤ last_given) before
  pub bad : (n : ℕ) → n ≤ last_given → body ≢ number n
  pub place : at ≡ behind_bodies (map number before)

-- the bodies name no generation
abbrev pub NameNone : List (List ℕ) → ℕ → Type 0
NameNone bodies at = IsWithout bodies at ⊎ IsNoGeneration bodies at

-- ---- a generation

-- the first body is no state that a store may hold
pub record IsNoBase (m : Meaning) (bodies : List (List ℕ)) (at : ℕ) : Type 0 where
  pub body : List ℕ
  pub records : List (List ℕ)
  pub splits : bodies ≡ body ∷ records
  pub bad : (base : Base) → IsWritableBase first_format base → IsSound m base → body ≢ code_of_base first_format base
  pub place : at ≡ header_length + frame_length

-- these bytes begin with no step that passes a test in this state
abbrev pub BeginsWithNone : (Base → Step → Type 0) → Base → List ℕ → Type 0
BeginsWithNone is s bytes = (step : Step) (rest : List ℕ) → IsWritable step → bytes ≡ code_of_step step ++ rest → is s step → ⊥

-- with none that can be replayed
abbrev pub BeginsWithNoStep : Meaning → Base → List ℕ → Type 0
BeginsWithNoStep m s bytes = BeginsWithNone (IsReplayable m) s bytes

-- behind steps that pass a test from this state on, no such step stands at this offset of a body, which doesn't end there, or is
-- empty
pub record StopsAt (m : Meaning) (is : Base → Step → Type 0) (s : Base) (body : List ℕ) (at : ℕ) : Type 0 where
  pub front : List Step
  pub behind : List ℕ
  pub coded : AllByRecursion IsWritable front
  pub pass : AreAlong m is s front
  pub code : body ≡ codes_of front ++ behind
  pub goes_on : behind ≡ [] → front ≡ []
  pub bad : BeginsWithNone is (replay m s front) behind
  pub place : at ≡ length (codes_of front)

-- so it is with one of these bodies, behind those that hold steps which pass; the gate before the first stands at this offset
pub record StopAt (m : Meaning) (is : Base → Step → Type 0) (s : Base) (start : ℕ) (bodies : List (List ℕ)) (at : ℕ) : Type 0 where
  pub before : List (List ℕ)
  pub body : List ℕ
  pub later : List (List ℕ)
  pub steps : List Step
  pub offset : ℕ
  pub splits : bodies ≡ before ++ body ∷ later
  pub content : AreRecords before steps
  pub pass : AreAlong m is s steps
  pub bad : StopsAt m is (replay m s steps) body offset
  pub place : at ≡ start + length (open_records before) + frame_length + offset

-- behind steps that can be replayed in this state, none stands at this offset of a body
abbrev pub IsNoStep : Meaning → Base → List ℕ → ℕ → Type 0
IsNoStep m s body at = StopsAt m (IsReplayable m) s body at

-- so it is with one of these bodies
abbrev pub HoldNoSteps : Meaning → Base → ℕ → List (List ℕ) → ℕ → Type 0
HoldNoSteps m s start bodies at = StopAt m (IsReplayable m) s start bodies at

-- the first body is a state that a store may hold, and the others hold no steps behind it
pub record AreNoSteps (m : Meaning) (bodies : List (List ℕ)) (at : ℕ) : Type 0 where
  pub base : Base
  pub records : List (List ℕ)
  pub splits : bodies ≡ code_of_base first_format base ∷ records
  pub writable : IsWritableBase first_format base
  pub sound : IsSound m base
  pub bad : HoldNoSteps m base (behind_bodies (code_of_base first_format base ∷ [])) records at

-- the bodies are no state with steps behind it
abbrev pub AreNoHistory : Meaning → List (List ℕ) → ℕ → Type 0
AreNoHistory m bodies at = IsWithout bodies at ⊎ IsNoBase m bodies at ⊎ AreNoSteps m bodies at

-- ---- the outputs

-- of the files of these outputs, the first of which is output k, this is the first that is too short
abbrev pub IsShort : ℕ → List Output → Image → ℕ → ℕ → Type 0
IsShort k [] image file at = ⊥
IsShort k (out ∷ outs) image file at =
    ((file ≡ out_file k) × (at ≡ length (image (out_file k))) × (at < out.sealed_bytes))
    ⊎ ((out.sealed_bytes ≤ length (image (out_file k))) × IsShort (suc k) outs image file at)

-- an output lacks bytes that are sealed
pub record HasShortOutput (m : Meaning) (image : Image) (generation file at : ℕ) : Type 0 where
  pub base : Base
  pub steps : List Step
  pub stored : IsStored image generation base steps
  pub sound : IsSound m base
  pub replays : AreReplayable m base steps
  pub short : IsShort 0 (replay m base steps).outs image file at

-- ---- a store

-- opening the store finds this damage in the file of its generation, or of an output
abbrev pub IsDamagedGeneration : Meaning → Image → ℕ → ℕ → ℕ → Type 0
IsDamagedGeneration m image generation file at =
    ((file ≡ generation_file generation) × IsDamagedFile (heading_of first_format generation) (AreNoHistory m) (image (generation_file generation)) at)
    ⊎ HasShortOutput m image generation file at

-- opening the store finds this damage
abbrev pub IsDamagedStore : Meaning → Image → ℕ → ℕ → Type 0
IsDamagedStore m image file at =
    ((file ≡ root_file) × IsDamagedFile root_heading NameNone (image root_file) at)
    ⊎ ((generation : ℕ) × NamesLast (image root_file) generation × IsDamagedGeneration m image generation file at)
