-- The book, as contracts see it.
use Rattle.std.specs.Prelude.{◌≡◌, ◌≤◌, ◌+◌, ℕ, Bool, false, List, [], ◌++◌, length, take, drop, Some}
use Rattle.edge_traits.specs.Disk.{DiskView, Image, IsImage}
use Rattle.disk_journal.specs.GateFile.{frame_length, header_length}
use Rattle.step_code.specs.declared.base.Base.{Base}
use Rattle.step_code.specs.declared.step.Step.{Step}
use Rattle.step_code.specs.Rules.{Meaning}
use Rattle.step_code.specs.History.{replay}
use Rattle.store_image.specs.Files.{written_format}
use Rattle.store_image.specs.Stands.{IsSealOf, Origin, StandsFor}

-- the disk and the rules that it owns; the format of its generation, its generation, the length of the root's file, the state with
-- which the generation begins, and the steps behind that state, of which so many are durable; the state behind all of them; the limit of their codes together;
-- and whether the disk has failed it
pub record BookView (D R : Type 0) : Type 0 where
  pub disk : D
  pub rules : R
  pub format : ℕ
  pub generation : ℕ
  pub root : ℕ
  pub base : Base
  pub steps : List Step
  pub kept : ℕ
  pub state : Base
  pub limit : ℕ
  pub broken : Bool

-- how many bytes of the root name one generation
abbrev pub root_entry : ℕ
root_entry = frame_length + 8

-- the length of a root that names the first generation alone
abbrev pub first_root : ℕ
first_root = header_length + 1 + root_entry

-- the book of a store that begins with this state
abbrev pub created : {D R : Type 0} → R → Base → ℕ → D → BookView D R
created rules base limit disk = record { disk = disk; rules = rules; format = written_format; generation = 0; root = first_root; base = base; steps = []; kept = 0; state = base; limit = limit; broken = false }

-- the steps that are durable, and those that wait for a flush
abbrev pub durable_steps : {D R : Type 0} → BookView D R → List Step
durable_steps book = take book.kept book.steps

abbrev pub waiting_steps : {D R : Type 0} → BookView D R → List Step
waiting_steps book = drop book.kept book.steps

-- the book goes on from these steps of the store of this origin: its generation begins with the state behind
-- them, with more lines of outputs sealed; and whatever a crash leaves now stands for them, the durable steps behind them, and
-- a front of those that wait
pub record IsKept {D R : Type 0} (disk : D → DiskView) (m : Meaning) (origin : Origin) (past : List Step) (book : BookView D R) : Type 0 where
  pub files : Image
  pub tells : (disk book.disk).told ≡ Some files
  pub counted : book.base.steps ≡ origin.first.steps + length past
  pub seals : IsSealOf (replay m origin.first past) book.base
  pub within : book.kept ≤ length book.steps
  pub each : (image : Image) → IsImage (disk book.disk).may_leave image → StandsFor m origin (past ++ durable_steps book) (waiting_steps book) image
