-- Calls on a store, from the moment at which it is opened to the moment at which its disk is handed back.
use Rattle.std.specs.Prelude.{◌≡◌, ◌≢◌, ◌≤◌, ◌+◌, ◌-◌, ℕ, Bool, List, [], ◌++◌, length, take, drop, Some}
use Rattle.edge_traits.specs.Disk.{DiskView, Image, Leaves}
use Rattle.step_code.specs.declared.base.Base.{Base}
use Rattle.step_code.specs.declared.rules.Facts.{Facts}
use Rattle.step_code.specs.declared.step.Step.{Step}
use Rattle.step_code.specs.History.{first, replay, Legal}
use Rattle.step_code.specs.Places.{IsAccounted}
use Rattle.step_code.specs.Rules.{Meaning}
use Rattle.step_code.specs.Spent.{NothingIsSpent}
use Rattle.store_image.specs.Files.{root_file}
use Rattle.store_image.specs.History.{HasHistory}
use Rattle.store_image.specs.Opens.{Opens}
use Rattle.store_image.specs.Stands.{origin_of, IsSealOf, Origin, Stands, StandsFor, WhereWhole}
use Rattle.store_image.specs.Stored.{NamesLast}
use Rattle.journal_book.specs.Book.{BookView}
use Rattle.journal_book.specs.Opening.{IsReopened, StandsNow}
use Rattle.book_runs.specs.GoesOn.{GoesOn, IsEarlier}

-- a new store of this bundle begins with this state
pub record IsFirstOf (m : Meaning) (bundle : List ℕ) (s : Base) : Type 0 where
  pub bots : List Facts
  pub loads : m.facts bundle ≡ Some bots
  pub state : s ≡ first bots bundle

-- the files stand for a history that is legal, and in which nothing is lost and nothing is invented
pub record StandsAccounted (m : Meaning) (origin : Origin) (image : Image) : Type 0 where
  pub history : List Step
  pub stands : Stands m origin image history
  pub legal : Legal m origin.first history
  pub accounted : IsAccounted m origin.first history

-- a call on a disk that stood for these steps of the store of this origin, and a front of those behind them: so
-- many of those were there, and the call made these steps, of which so many are durable
pub record IsCall {D : Type 0} (disk : D → DiskView) (m : Meaning) (origin : Origin) (steps more : List Step) (old new : DiskView) (made : List Step) (durable : ℕ) : Type 0 where
  pub count : ℕ
  pub within : count ≤ length more
  -- the disk as the store was opened on it: until then files stand for the history of before
  pub mid : D
  pub before : Leaves old (disk mid) (StandsFor m origin steps more)
  -- there what was read of that history is durable, and from then on files stand for it and a front of the steps that were made
  pub read : StandsNow m origin (steps ++ take count more) [] (disk mid)
  pub behind : Leaves (disk mid) new (StandsFor m origin (steps ++ take count more) made)
  -- behind the call
  pub now : StandsNow m origin ((steps ++ take count more) ++ take durable made) (drop durable made) new
  -- the steps might be taken where they stand, and spend no number
  pub legal : Legal m origin.first (steps ++ take count more) → Legal m origin.first ((steps ++ take count more) ++ made)
  pub small : NothingIsSpent m origin.first (steps ++ take count more) → NothingIsSpent m origin.first ((steps ++ take count more) ++ made)
  -- where the store began with a bundle, and its history was legal, each message is accounted for at any moment of the call
  pub accounted : (bundle : List ℕ) → IsFirstOf m bundle origin.first → Legal m origin.first (steps ++ more) → Leaves old new (StandsAccounted m origin)

-- a call that makes no step: at any moment of it and behind it the disk stands for the same history
pub record StandsOn (m : Meaning) (origin : Origin) (steps more : List Step) (old new : DiskView) : Type 0 where
  pub any_moment : Leaves old new (StandsFor m origin steps more)
  pub now : StandsNow m origin steps more new

-- neither the root, nor, where that names a generation last, an output's file, nor that of this generation or of a later one
abbrev pub IsEarlierIn : Image → ℕ → Type 0
IsEarlierIn files file = (file ≢ root_file) × ((generation : ℕ) → NamesLast (files root_file) generation → IsEarlier generation file)

-- the book of a store that was opened on a disk, all of its steps durable
pub record IsOpened {D R : Type 0} (disk : D → DiskView) (m : Meaning) (origin : Origin) (steps more : List Step) (old : D) (book : BookView D R) : Type 0 where
  pub all : book.kept ≡ length book.steps
  pub state : book.state ≡ replay m book.base book.steps
  pub reopened : IsReopened disk m origin steps more book
  pub any_moment : Leaves (disk old) (disk book.disk) (StandsFor m origin steps more)

-- ---- laws

-- a store that is opened, and whose book goes on by steps
abbrev pub CallsGoOn : {D : Type 0} → (R : Type 0) → (D → DiskView) → Meaning → Type 0
CallsGoOn {D} R disk m =
    (origin : Origin) (steps more made : List Step) (old : D) (opened later : BookView D R) → IsOpened disk m origin steps more old opened → (run : GoesOn disk m opened later made)
    → IsCall disk m origin steps more (disk old) (disk later.disk) made ((length run.archived + later.kept) - opened.kept)

-- so with all that it made
abbrev pub DurableCalls : {D : Type 0} → (R : Type 0) → (D → DiskView) → Meaning → Type 0
DurableCalls {D} R disk m =
    (origin : Origin) (steps more made : List Step) (old : D) (opened later : BookView D R) → IsOpened disk m origin steps more old opened → GoesOn disk m opened later made
    → later.kept ≡ length later.steps → IsCall disk m origin steps more (disk old) (disk later.disk) made (length made)

-- a store opens with the state and the steps of the generation in force alone, and the state behind these is that behind the whole
-- history, with more lines of its outputs sealed: the history that its files stand for, which all its generations hold where these are
-- looked at
abbrev pub WhatOpensIsReplayed : Type 0
WhatOpensIsReplayed =
    (m : Meaning) (begun : Base) (whole : Bool) (files : Image) (history : List Step) (generation : ℕ) (base : Base) (steps : List Step) → Stands m (origin_of begun whole) files history → Opens m files generation base steps
    → IsSealOf (replay m begun history) (replay m base steps) × WhereWhole whole (HasHistory files history)
