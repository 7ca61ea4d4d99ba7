-- How far the steps of a generation were gone through, and why no further.
use Rattle.std.specs.Prelude.{◌≡◌, ◌+◌, ℕ, List, ◌++◌}
use Rattle.step_code.specs.declared.base.Base.{Base}
use Rattle.step_code.specs.declared.step.Step.{Step}
use Rattle.step_code.specs.Code.{code_of_step, IsWritable}
use Rattle.step_code.specs.History.{replay}
use Rattle.step_code.specs.Rules.{Meaning}
use Rattle.store_image.specs.Damage.{BeginsWithNone, BeginsWithNoStep, StopsAt}
use Rattle.store_image.specs.Opens.{IsReplayable}
use Rattle.store_audit.specs.Audit.{HaveIllegal, HaveNoStep, IsAllowed}
use Rattle.store_audit.specs.declared.steps.StepStop.{StepStop}
use Rattle.store_audit.specs.declared.steps.StepStop.TheVariants as stop

-- bytes begin with a step that can be replayed in this state, and isn't allowed
pub record BeginsIllegal (m : Meaning) (s : Base) (bytes : List ℕ) : Type 0 where
  pub step : Step
  pub rest : List ℕ
  pub writable : IsWritable step
  pub code : bytes ≡ code_of_step step ++ rest
  pub replayable : IsReplayable m s step
  pub none : BeginsWithNone (IsAllowed m) s bytes

-- why a step of bytes that begin at this offset isn't taken
abbrev pub IsStepStop : Meaning → Base → List ℕ → ℕ → StepStop → Type 0
IsStepStop m s bytes start (stop.Illegal number) = BeginsIllegal m s bytes × (number ≡ s.steps + 1)
IsStepStop m s bytes start (stop.Damaged at) = BeginsWithNoStep m s bytes × (at ≡ start)
IsStepStop m s bytes start stop.OutOfMemory = Unit {0}

-- a body goes on, behind steps that are allowed from this state on, with one that isn't
pub record GoesIllegal (m : Meaning) (s : Base) (body : List ℕ) (number : ℕ) : Type 0 where
  pub offset : ℕ
  pub stops : StopsAt m (IsAllowed m) s body offset
  pub illegal : BeginsIllegal m (replay m s stops.front) stops.behind
  pub number_is : number ≡ (replay m s stops.front).steps + 1

-- or with none that can be replayed, at this offset
pub record HasNoStep (m : Meaning) (s : Base) (body : List ℕ) (offset : ℕ) : Type 0 where
  pub stops : StopsAt m (IsAllowed m) s body offset
  pub none : BeginsWithNoStep m (replay m s stops.front) stops.behind

-- why the steps of a body that begins at this offset aren't all taken
abbrev pub IsBodyStop : Meaning → Base → List ℕ → ℕ → StepStop → Type 0
IsBodyStop m s body start (stop.Illegal number) = GoesIllegal m s body number
IsBodyStop m s body start (stop.Damaged at) = (offset : ℕ) × (at ≡ start + offset) × HasNoStep m s body offset
IsBodyStop m s body start stop.OutOfMemory = Unit {0}

-- why the steps of records aren't all taken; the gate before the first stands at this offset
abbrev pub AreStop : Meaning → Base → ℕ → List (List ℕ) → StepStop → Type 0
AreStop m s start records (stop.Illegal number) = HaveIllegal m s start records number
AreStop m s start records (stop.Damaged at) = HaveNoStep m s start records at
AreStop m s start records stop.OutOfMemory = Unit {0}
