-- How a book goes on: what a run of its calls makes of it.
use Rattle.std.specs.Prelude.{◌≡◌, ◌≢◌, ◌≤◌, ◌+◌, ℕ, List, ◌++◌, length, Some}
use Rattle.edge_traits.specs.Disk.{DiskView, Image, Leaves}
use Rattle.step_code.specs.declared.step.Step.{Step}
use Rattle.step_code.specs.History.{replay, Legal}
use Rattle.step_code.specs.Rules.{Meaning}
use Rattle.step_code.specs.Spent.{NothingIsSpent}
use Rattle.store_image.specs.Files.{root_file, generation_file}
use Rattle.store_image.specs.Stands.{IsSealOf, Origin, StandsFor}
use Rattle.journal_book.specs.Alone.{IsNoOut, LeavesAlone}
use Rattle.journal_book.specs.Book.{BookView, durable_steps, waiting_steps, IsKept}

-- the book with these steps behind the others in its generation, and the state that they lead to; its disk, how many steps are
-- durable, and whether the disk has failed are told apart
abbrev pub longer : {D R : Type 0} → Meaning → BookView D R → List Step → BookView D R → BookView D R
longer m old made new =
    record { disk = new.disk; rules = old.rules; format = old.format; generation = old.generation; root = old.root; base = old.base; steps = old.steps ++ made; kept = new.kept; state = replay m old.state made; limit = old.limit; broken = new.broken }

-- nothing of the book changes but its disk, how many steps are durable, and whether the disk has failed
abbrev pub IsSameBook : {D R : Type 0} → BookView D R → BookView D R → Type 0
IsSameBook old new = new ≡ record old { disk = new.disk; kept = new.kept; broken = new.broken }

-- neither the root, nor an output's file, nor that of this generation or of a later one
abbrev pub IsEarlier : ℕ → ℕ → Type 0
IsEarlier generation file = (file ≢ root_file) × IsNoOut file × ((later : ℕ) → generation ≤ later → file ≢ generation_file later)

-- the book made these steps, each of which might be taken where it stands, and spends no number; so many of its steps stand in
-- earlier generations now. Whatever a crash left of it stood for a history: whatever a crash leaves of it now, or left at any
-- moment in between, stands for that history's durable steps and a front of those that waited and of these
pub record GoesOn {D R : Type 0} (disk : D → DiskView) (m : Meaning) (old new : BookView D R) (made : List Step) : Type 0 where
  pub same : (new.rules ≡ old.rules) × (new.limit ≡ old.limit)
  pub archived : List Step
  pub splits : old.steps ++ made ≡ archived ++ new.steps
  pub state : IsSealOf (replay m old.state made) new.state
  pub legal : Legal m old.state made
  pub small : NothingIsSpent m old.state made
  pub durable : (origin : Origin) (past : List Step) → IsKept disk m origin past old → old.kept ≤ length archived + new.kept
  pub kept : (origin : Origin) (past : List Step) → IsKept disk m origin past old → IsKept disk m origin (past ++ archived) new
  pub any_moment : (origin : Origin) (past : List Step) → IsKept disk m origin past old
      → Leaves (disk old.disk) (disk new.disk) (StandsFor m origin (past ++ durable_steps old) (waiting_steps old ++ made))
  pub onward : old.generation ≤ new.generation
  -- where the disk tells, whoever made the store
  pub others : (files : Image) → (disk old.disk).told ≡ Some files → LeavesAlone (disk old.disk) (disk new.disk) (IsEarlier old.generation)
