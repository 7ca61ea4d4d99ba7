-- What reading the bodies of a store's files finds.
use Rattle.std.specs.Prelude.{◌≡◌, ◌≤◌, ℕ, List, [], ◌∷◌, ◌++◌, length, map}
use Rattle.std.specs.List.{AllByRecursion}
use Rattle.disk_journal.specs.declared.journal.JournalFault.{JournalFault}
use Rattle.disk_journal.specs.declared.journal.JournalFault.TheVariants as fault
use Rattle.stored_types.specs.Code.{number}
use Rattle.step_code.specs.declared.base.Base.{Base}
use Rattle.step_code.specs.declared.step.Step.{Step}
use Rattle.step_code.specs.Code.{code_of_base, code_of_step, first_format, IsWritable, IsWritableBase}
use Rattle.step_code.specs.Rules.{Meaning}
use Rattle.step_code.specs.Sound.{IsSound}
use Rattle.step_code.specs.Spent.{last_given}
use Rattle.store_image.specs.Opens.{AreAlong, AreReplayable, IsReplayable}
use Rattle.store_image.specs.Stored.{AreRecords, IsRecord}

-- damage is told where it is; no disk is asked
abbrev pub IsBodyFault : (ℕ → Type 0) → JournalFault → Type 0
IsBodyFault bad (fault.Damaged at) = bad at
IsBodyFault bad fault.Disk = ⊥
IsBodyFault bad fault.OutOfMemory = Unit {0}

-- bodies are the numbers of generations, and this is the last
pub record AreGenerations (bodies : List (List ℕ)) (generation : ℕ) : Type 0 where
  pub before : List ℕ
  pub is : bodies ≡ map number (before ++ generation ∷ [])
  pub given : AllByRecursion (λ n. n ≤ last_given) (before ++ generation ∷ [])

-- a body is a state that a store may hold
pub record IsBase (m : Meaning) (body : List ℕ) (base : Base) : Type 0 where
  pub code : body ≡ code_of_base first_format base
  pub writable : IsWritableBase first_format base
  pub sound : IsSound m base

-- bytes begin with a step that passes a test in this state, and its code has this length
pub record BeginsWith (is : Base → Step → Type 0) (s : Base) (bytes : List ℕ) (step : Step) (len : ℕ) : Type 0 where
  pub rest : List ℕ
  pub writable : IsWritable step
  pub passes : is s step
  pub code : bytes ≡ code_of_step step ++ rest
  pub size : len ≡ length (code_of_step step)

-- bytes begin with the code of this step, which has this length
pub record BeginsWithCode (bytes : List ℕ) (step : Step) (len : ℕ) : Type 0 where
  pub rest : List ℕ
  pub writable : IsWritable step
  pub code : bytes ≡ code_of_step step ++ rest
  pub size : len ≡ length (code_of_step step)

-- with one that can be replayed
abbrev pub BeginsWithStep : Meaning → Base → List ℕ → Step → ℕ → Type 0
BeginsWithStep m s bytes step len = BeginsWith (IsReplayable m) s bytes step len

-- a body holds these steps, which pass a test from this state on
pub record HoldsAlong (m : Meaning) (is : Base → Step → Type 0) (s : Base) (body : List ℕ) (steps : List Step) : Type 0 where
  pub record_is : IsRecord body steps
  pub pass : AreAlong m is s steps

-- so do bodies, each some of them
pub record HoldAlong (m : Meaning) (is : Base → Step → Type 0) (s : Base) (bodies : List (List ℕ)) (steps : List Step) : Type 0 where
  pub content : AreRecords bodies steps
  pub pass : AreAlong m is s steps

-- a body holds these steps, which can be replayed in this state
abbrev pub HoldsReplayable : Meaning → Base → List ℕ → List Step → Type 0
HoldsReplayable m s body steps = HoldsAlong m (IsReplayable m) s body steps

-- so do bodies
abbrev pub HoldReplayable : Meaning → Base → List (List ℕ) → List Step → Type 0
HoldReplayable m s bodies steps = HoldAlong m (IsReplayable m) s bodies steps

-- bodies are a state that a store may hold, and steps behind it that can be replayed
pub record AreHistory (m : Meaning) (bodies : List (List ℕ)) (base : Base) (steps : List Step) : Type 0 where
  pub records : List (List ℕ)
  pub splits : bodies ≡ code_of_base first_format base ∷ records
  pub writable : IsWritableBase first_format base
  pub sound : IsSound m base
  pub holds : HoldReplayable m base records steps

-- steps that can be replayed in a state that a store may hold
pub record IsHistory (m : Meaning) (base : Base) (steps : List Step) : Type 0 where
  pub sound : IsSound m base
  pub writable : IsWritableBase first_format base
  pub replays : AreReplayable m base steps
