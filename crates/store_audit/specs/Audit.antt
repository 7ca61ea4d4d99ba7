-- What the whole history of a store comes to: all generations are gone through, and the first fault counts, by its place.
use Rattle.std.specs.Prelude.{◌≡◌, ◌≢◌, ◌≤◌, ◌⊎◌, ◌+◌, ◌-◌, ℕ, zero, suc, true, List, [], ◌∷◌, ◌++◌, length, take, drop, Option, Some, None}
use Rattle.std.specs.List.{AllByRecursion}
use Rattle.edge_traits.specs.Disk.{Image}
use Rattle.disk_journal.specs.GateFile.{frame_length, header_length, HasRecords, IsHeadless}
use Rattle.out_files.specs.Output.{lines_text}
use Rattle.step_code.specs.declared.base.Base.{Base}
use Rattle.step_code.specs.declared.output.Output.{Output}
use Rattle.step_code.specs.declared.rules.Facts.{Facts}
use Rattle.step_code.specs.declared.step.Step.{Step}
use Rattle.step_code.specs.Code.{code_of_base, code_of_step, first_format, IsWritable, IsWritableBase}
use Rattle.step_code.specs.Content.{May}
use Rattle.step_code.specs.History.{first, replay, Legal}
use Rattle.step_code.specs.Rules.{Meaning}
use Rattle.step_code.specs.Sound.{longest_base, IsSound}
use Rattle.step_code.specs.Spent.{NothingIsSpent}
use Rattle.store_image.specs.Damage.{behind_bodies, BeginsWithNoStep, StopAt}
use Rattle.store_image.specs.Files.{generation_file, out_file, root_file, heading_of}
use Rattle.store_image.specs.Opens.{AreAlong, IsReplayable}
use Rattle.store_image.specs.Stands.{origin_of, IsSealOf, Stands}
use Rattle.store_image.specs.Stored.{AreRecords, HoldsSteps, NamesLast}
use Rattle.store_audit.specs.declared.verdict.Verdict.{Verdict}
use Rattle.store_audit.specs.declared.verdict.Verdict.TheVariants as verdict

-- a stored step can be replayed, and the rules allow it
abbrev pub IsAllowed : Meaning → Base → Step → Type 0
IsAllowed m s step = IsReplayable m s step × May m s step

-- ---- the state that a generation begins with

-- a new store of its bundle begins with this state
pub record IsFirst (m : Meaning) (base : Base) : Type 0 where
  pub bots : List Facts
  pub loads : m.facts base.bundle ≡ Some bots
  pub state : base ≡ first bots base.bundle

-- the file of an output has the lines that are sealed of it now, behind what was sealed before
abbrev pub HasSealed : Output → Output → List ℕ → Type 0
HasSealed before now file =
    take (now.sealed_bytes - before.sealed_bytes) (drop before.sealed_bytes file) ≡ take (now.sealed_bytes - before.sealed_bytes) (lines_text before.lines)

-- so have the files of these outputs, the first of which is output k
abbrev pub HaveSealed : ℕ → List Output → List Output → Image → Type 0
HaveSealed k [] now image = Unit {0}
HaveSealed k (out ∷ outs) [] image = Unit {0}
HaveSealed k (out ∷ outs) (sealed ∷ more) image = HasSealed out sealed (image (out_file k)) × HaveSealed (suc k) outs more image

-- a generation's state goes on from the one to which the generations before it lead: it is the same but for lines that are sealed, which
-- stand in their files
pub record GoesOnFrom (s base : Base) (image : Image) : Type 0 where
  pub seals : IsSealOf s base
  pub sealed : HaveSealed 0 s.outs base.outs image

-- behind this state, or none where it is the first, a generation may begin with a state
abbrev pub Follows : Meaning → Image → Option Base → Base → Type 0
Follows m image None base = IsFirst m base
Follows m image (Some s) base = GoesOnFrom s base image

-- ---- a generation

-- a generation's file holds a state with which it may begin, and steps behind it that are all allowed
pub record IsRight (m : Meaning) (image : Image) (generation : ℕ) (before : Option Base) (base : Base) (steps : List Step) : Type 0 where
  pub holds : HoldsSteps generation (image (generation_file generation)) base steps
  pub sound : IsSound m base
  pub follows : Follows m image before base
  pub allowed : AreAlong m (IsAllowed m) base steps

-- no state with which the generation may begin stands in the first body
pub record BeginsWrong (m : Meaning) (image : Image) (before : Option Base) (bodies : List (List ℕ)) : Type 0 where
  pub body : List ℕ
  pub records : List (List ℕ)
  pub splits : bodies ≡ body ∷ records
  pub wrong : (base : Base) → IsWritableBase first_format base → IsSound m base → Follows m image before base → body ≢ code_of_base first_format base

-- the state in which records behind a state stop
abbrev pub state_at : (m : Meaning) (is : Base → Step → Type 0) (s : Base) (start : ℕ) (records : List (List ℕ)) (at : ℕ) → StopAt m is s start records at → Base
state_at m is s start records at stop = replay m (replay m s stop.steps) stop.bad.front

-- behind steps that are allowed records go on with one that can be replayed, and isn't allowed; it would be the step of this number
pub record HaveIllegal (m : Meaning) (s : Base) (start : ℕ) (records : List (List ℕ)) (number : ℕ) : Type 0 where
  pub at : ℕ
  pub stop : StopAt m (IsAllowed m) s start records at
  pub step : Step
  pub rest : List ℕ
  pub writable : IsWritable step
  pub code : stop.bad.behind ≡ code_of_step step ++ rest
  pub replayable : IsReplayable m (state_at m (IsAllowed m) s start records at stop) step
  pub number_is : number ≡ (state_at m (IsAllowed m) s start records at stop).steps + 1

-- behind steps that are allowed records go on at this offset with none that can be replayed
pub record HaveNoStep (m : Meaning) (s : Base) (start : ℕ) (records : List (List ℕ)) (at : ℕ) : Type 0 where
  pub stop : StopAt m (IsAllowed m) s start records at
  pub none : BeginsWithNoStep m (state_at m (IsAllowed m) s start records at stop) stop.bad.behind

-- all steps of the records are allowed, and behind them a record isn't whole at this offset
pub record AreCut (m : Meaning) (s : Base) (records : List (List ℕ)) (cut : Option ℕ) (at : ℕ) : Type 0 where
  pub steps : List Step
  pub content : AreRecords records steps
  pub allowed : AreAlong m (IsAllowed m) s steps
  pub cut_is : cut ≡ Some at

-- the fault of the records behind a generation's state
abbrev pub HaveFault : Meaning → ℕ → Base → ℕ → List (List ℕ) → Option ℕ → Verdict → Type 0
HaveFault m generation s start records cut (verdict.Legal steps) = ⊥
HaveFault m generation s start records cut (verdict.Illegal step) = HaveIllegal m s start records step
HaveFault m generation s start records cut (verdict.Damaged file at) =
    (file ≡ generation_file generation) × (HaveNoStep m s start records at ⊎ AreCut m s records cut at)

-- the first body is a state with which the generation may begin, and the records behind it have a fault
pub record GoWrong (m : Meaning) (image : Image) (generation : ℕ) (before : Option Base) (bodies : List (List ℕ)) (cut : Option ℕ) (found : Verdict) : Type 0 where
  pub base : Base
  pub records : List (List ℕ)
  pub splits : bodies ≡ code_of_base first_format base ∷ records
  pub writable : IsWritableBase first_format base
  pub sound : IsSound m base
  pub follows : Follows m image before base
  pub fault : HaveFault m generation base (behind_bodies (code_of_base first_format base ∷ [])) records cut found

-- the fault of a generation's records: there is none, or the first is wrong, or those behind it are
abbrev pub AreWrong : Meaning → Image → ℕ → Option Base → List (List ℕ) → Option ℕ → Verdict → Type 0
AreWrong m image generation before bodies cut found =
    ((bodies ≡ []) × (found ≡ verdict.Damaged (generation_file generation) header_length))
    ⊎ (BeginsWrong m image before bodies × (found ≡ verdict.Damaged (generation_file generation) (header_length + frame_length)))
    ⊎ GoWrong m image generation before bodies cut found

-- the fault of a generation: its file has no records, or wrong ones
abbrev pub IsWrong : Meaning → Image → ℕ → Option Base → Verdict → Type 0
IsWrong m image generation before found =
    ((at : ℕ) × IsHeadless (heading_of first_format generation) (image (generation_file generation)) at × (found ≡ verdict.Damaged (generation_file generation) at))
    ⊎ ((bodies : List (List ℕ)) × (cut : Option ℕ) × HasRecords (heading_of first_format generation) bodies cut (image (generation_file generation)) × AreWrong m image generation before bodies cut found)

-- ---- a store

-- what so many generations come to, this one the first, behind this state
abbrev pub ComeTo : Meaning → Image → (left generation : ℕ) → Option Base → Verdict → Type 0
ComeTo m image zero generation None found = ⊥
ComeTo m image zero generation (Some s) found = found ≡ verdict.Legal s.steps
ComeTo m image (suc left) generation before found =
    IsWrong m image generation before found
    ⊎ ((base : Base) × (steps : List Step) × IsRight m image generation before base steps × ComeTo m image left (suc generation) (Some (replay m base steps)) found)

-- what all generations of a store come to, up to the one that its root names last
pub record IsAudited (m : Meaning) (image : Image) (found : Verdict) : Type 0 where
  pub generation : ℕ
  pub named : NamesLast (image root_file) generation
  pub comes : ComeTo m image (suc generation) 0 None found

-- a store of some bundle: its files hold a history that is legal from a new store's state on, in which no number is spent, and that has so
-- many steps; all of its generations are looked at
pub record IsLegalStore (m : Meaning) (image : Image) (steps : ℕ) : Type 0 where
  pub first : Base
  pub is_first : IsFirst m first
  pub history : List Step
  pub stands : Stands m (origin_of first true) image history
  pub legal : Legal m first history
  pub small : NothingIsSpent m first history
  pub count : steps ≡ length history

-- the state with which each of these generations begins is no longer than a store may hold
abbrev pub AreShort : List (Base × List Step) → Type 0
AreShort held = AllByRecursion (λ (h : Base × List Step). length (code_of_base first_format h.0) ≤ longest_base) held
