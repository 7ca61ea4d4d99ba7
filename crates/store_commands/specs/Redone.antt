-- What `redo` makes of a store.
use Rattle.std.specs.Prelude.{◌≡◌, ◌⊎◌, ◌<◌, ℕ, false, List, [], ◌∷◌, ◌++◌, length, min, take, Option, Some, None, if◌then◌else◌}
use Rattle.std.specs.List.{list_any}
use Rattle.base_types.specs.Number.{last_u64}
use Rattle.core_state.specs.Sealing.{sealed_whole}
use Rattle.edge_traits.specs.Disk.{DiskView, Image}
use Rattle.edge_traits.specs.Output.{TookFront}
use Rattle.edge_traits.specs.Sink.{SinkView, Took}
use Rattle.step_code.specs.declared.base.Base.{Base}
use Rattle.step_code.specs.declared.step.Step.{Step}
use Rattle.step_code.specs.declared.step.StepKind.TheVariants as kind
use Rattle.step_code.specs.After.{after}
use Rattle.step_code.specs.History.{replay}
use Rattle.step_code.specs.Rules.{Meaning}
use Rattle.step_code.specs.State.{is_dump}
use Rattle.state_texts.specs.Texts.{summary}
use Rattle.store_image.specs.Damage.{IsDamagedStore}
use Rattle.store_image.specs.Files.{root_file}
use Rattle.store_image.specs.Opens.{Opens}
use Rattle.store_image.specs.Stands.{Origin}
use Rattle.store_image.specs.Stored.{codes_of}
use Rattle.journal_book.specs.Book.{BookView}
use Rattle.journal_book.specs.Opening.{IsRootLength}
use Rattle.journal_book.specs.Renewing.{renewal_cause}
use Rattle.journal_book.specs.Staged.{step_cause, stamp}
use Rattle.journal_book.specs.declared.stage_refusal.StageRefusal.{StageRefusal}
use Rattle.journal_book.specs.declared.stage_refusal.StageRefusal.TheVariants as refusal
use Rattle.book_runs.specs.Commit.{as_refusal, first_of, is_half_full}
use Rattle.book_runs.specs.GoesOn.{GoesOn}
use Rattle.book_runs.specs.Calls.{IsCall}
use Rattle.store_commands.specs.Ends.{most_step_bytes, IsOpenIn}
use Rattle.store_commands.specs.declared.end.StoreEnd.{StoreEnd}
use Rattle.store_commands.specs.declared.end.StoreEnd.TheVariants as end

-- the step that redoes a dump in this state, when the clock shows this moment
abbrev pub redo_step : Base → ℕ → ℕ → Step
redo_step s dump now = record { moment = stamp s now; what = kind.Redo dump }

-- no dump of this state has this number
abbrev pub LacksDump : Base → ℕ → Type 0
LacksDump s dump = list_any (is_dump dump) s.dumps ≡ false

-- what refuses a step behind these of a generation, whose codes have so many bytes at most: where they have more than half of that, the
-- generation that the step begins, in which all lines of outputs are sealed, and then what refuses the step there
abbrev pub cause_in : Meaning → ℕ → ℕ → ℕ → Base → List Step → Step → Option StageRefusal
cause_in m limit generation root s steps step =
    if is_half_full limit (min (length (codes_of steps)) last_u64)
    then first_of (as_refusal (renewal_cause generation root s)) (step_cause m (sealed_whole s) [] limit step)
    else step_cause m s steps limit step

-- a store opens in a state in which this refuses the step, or nothing does
pub record IsAsked (m : Meaning) (files : Image) (dump now : ℕ) (s : Base) (cause : Option StageRefusal) : Type 0 where
  pub generation : ℕ
  pub root : ℕ
  pub base : Base
  pub steps : List Step
  pub opens : Opens m files generation base steps
  pub root_is : IsRootLength files generation root
  pub state : s ≡ replay m base steps
  pub cause_is : cause_in m most_step_bytes generation root s steps (redo_step s dump now) ≡ cause

-- the step was made and the summary of the state behind it was printed, or a front of that where the sink failed; or the store
-- has no such dump, or no room for the step; or there is no store, or it is damaged; the other ends say nothing of the store,
-- and at them nothing is printed
abbrev pub IsRedone : Meaning → Image → ℕ → ℕ → StoreEnd → SinkView → SinkView → Type 0
IsRedone m files dump now end.Done old new = (s : Base) × IsAsked m files dump now s None × Took old new (summary (after m s (redo_step s dump now)))
IsRedone m files dump now end.Sink old new = (s : Base) × IsAsked m files dump now s None × TookFront old new (summary (after m s (redo_step s dump now)))
IsRedone m files dump now (end.NoDump n) old new = (n ≡ dump) × (s : Base) × IsOpenIn m files s × LacksDump s dump × Took old new []
IsRedone m files dump now (end.Spent next) old new = (s : Base) × IsAsked m files dump now s (Some (refusal.Spent next)) × Took old new []
IsRedone m files dump now (end.Full bytes) old new = (s : Base) × IsAsked m files dump now s (Some (refusal.Full bytes)) × Took old new []
IsRedone m files dump now (end.Store have) old new = (have ≡ 0) × (files root_file ≡ []) × Took old new []
IsRedone m files dump now (end.Damaged file at) old new = (0 < length (files root_file)) × IsDamagedStore m files file at × Took old new []
IsRedone m files dump now end.Memory old new = Took old new []
IsRedone m files dump now end.Disk old new = Took old new []
IsRedone m files dump now end.Refused old new = ⊥

-- ---- at any moment

-- the call made the one step that redoes the dump in the state behind what was read, and so many of its steps are durable
pub record RedoesStep {D : Type 0} (disk : D → DiskView) (m : Meaning) (origin : Origin) (steps more : List Step) (old new : DiskView) (dump now durable : ℕ) : Type 0 where
  pub step : Step
  pub call : IsCall disk m origin steps more old new (step ∷ []) durable
  pub step_is : step ≡ redo_step (replay m origin.first (steps ++ take call.count more)) dump now

-- at these ends a call made its step, and it is durable; at those it made none; where the disk failed or memory ran out, either
abbrev pub IsRedoCall : StoreEnd → Type 0 → (ℕ → Type 0) → Type 0
IsRedoCall end.Done stands makes = makes 1
IsRedoCall end.Sink stands makes = makes 1
IsRedoCall end.Memory stands makes = stands ⊎ makes 1
IsRedoCall end.Disk stands makes = stands ⊎ ((durable : ℕ) × makes durable)
IsRedoCall (end.NoDump n) stands makes = stands
IsRedoCall (end.Spent next) stands makes = stands
IsRedoCall (end.Full bytes) stands makes = stands
IsRedoCall (end.Store have) stands makes = stands
IsRedoCall (end.Damaged file at) stands makes = stands
IsRedoCall end.Refused stands makes = stands

-- ---- what private contracts cite

-- how the step went in a book in this state, by what refuses it, and what was printed then
abbrev pub IsRedoEnd : Meaning → Base → Option StageRefusal → ℕ → ℕ → StoreEnd → SinkView → SinkView → Type 0
IsRedoEnd m s cause dump now end.Done old new = (cause ≡ None) × Took old new (summary (after m s (redo_step s dump now)))
IsRedoEnd m s cause dump now end.Sink old new = (cause ≡ None) × TookFront old new (summary (after m s (redo_step s dump now)))
IsRedoEnd m s cause dump now (end.NoDump n) old new = (n ≡ dump) × LacksDump s dump × Took old new []
IsRedoEnd m s cause dump now (end.Spent next) old new = (cause ≡ Some (refusal.Spent next)) × Took old new []
IsRedoEnd m s cause dump now (end.Full bytes) old new = (cause ≡ Some (refusal.Full bytes)) × Took old new []
IsRedoEnd m s cause dump now end.Memory old new = Took old new []
IsRedoEnd m s cause dump now end.Disk old new = Took old new []
IsRedoEnd m s cause dump now (end.Damaged file at) old new = Took old new []
IsRedoEnd m s cause dump now (end.Store have) old new = ⊥
IsRedoEnd m s cause dump now end.Refused old new = ⊥

-- the steps that were made at this end
abbrev pub AreMadeAt : StoreEnd → Step → List Step → Type 0
AreMadeAt end.Done step made = made ≡ step ∷ []
AreMadeAt end.Sink step made = made ≡ step ∷ []
AreMadeAt end.Memory step made = (made ≡ []) ⊎ (made ≡ step ∷ [])
AreMadeAt end.Disk step made = (made ≡ []) ⊎ (made ≡ step ∷ [])
AreMadeAt (end.Damaged file at) step made = (made ≡ []) ⊎ (made ≡ step ∷ [])
AreMadeAt (end.NoDump n) step made = made ≡ []
AreMadeAt (end.Spent next) step made = made ≡ []
AreMadeAt (end.Full bytes) step made = made ≡ []
AreMadeAt (end.Store have) step made = made ≡ []
AreMadeAt end.Refused step made = made ≡ []

-- a run of a book's calls that makes this step, or none
pub record Redid {D R : Type 0} (disk : D → DiskView) (m : Meaning) (old new : BookView D R) (step : Step) (end : StoreEnd) : Type 0 where
  pub made : List Step
  pub run : GoesOn disk m old new made
  pub made_is : AreMadeAt end step made
