-- What a call that makes steps makes of a store, and what `drain` does.
use Rattle.std.specs.Prelude.{◌≡◌, ◌≢◌, ◌⊎◌, ◌<◌, ℕ, List, [], ◌++◌, length, min, take, Some, Result, Ok, Err}
use Rattle.base_types.specs.Number.{last_u64}
use Rattle.edge_traits.specs.Disk.{DiskView, Image}
use Rattle.edge_traits.specs.Output.{TookFront}
use Rattle.edge_traits.specs.Shelf.{ShelfView}
use Rattle.edge_traits.specs.Sink.{SinkView, Took}
use Rattle.step_code.specs.declared.base.Base.{Base}
use Rattle.step_code.specs.declared.output.Output.{Output}
use Rattle.step_code.specs.declared.step.Step.{Step}
use Rattle.step_code.specs.History.{replay}
use Rattle.step_code.specs.Rules.{Meaning}
use Rattle.state_texts.specs.Texts.{summary}
use Rattle.store_image.specs.Damage.{IsDamagedStore}
use Rattle.store_image.specs.Files.{root_file}
use Rattle.store_image.specs.Opens.{Opens}
use Rattle.store_image.specs.Stands.{IsSealOf, Origin}
use Rattle.store_image.specs.Stored.{codes_of}
use Rattle.journal_book.specs.Opening.{IsRootLength, StandsNow}
use Rattle.journal_book.specs.Outputs.{AreCompleted, AreWritten}
use Rattle.book_runs.specs.Calls.{IsCall, StandsOn}
use Rattle.store_commands.specs.declared.end.StoreEnd.{StoreEnd}
use Rattle.store_commands.specs.declared.end.StoreEnd.TheVariants as end
use Rattle.turn_order.specs.Turn.{collectors}
use Rattle.drain_turns.specs.Drained.{Drains, Place}
use Rattle.drain_turns.specs.Turn.{Outside}
use Rattle.drain_turns.specs.declared.end.TurnsEnd.{TurnsEnd}
use Rattle.drain_turns.specs.declared.end.TurnsEnd.TheVariants as last
use Rattle.drain_loop.specs.Calls.{opening_of}
use Rattle.drain_loop.specs.Feeds.{FailedBeyond}
use Rattle.drain_command.specs.declared.draining.Asked.{Asked}

-- where a call begins on a store that opens with this generation and this length of the root's file, and in it with this state and with
-- these steps behind it
abbrev pub start : Meaning → ℕ → ℕ → Base → List Step → Asked → Place
start m generation root base read asked =
    record {
      opening = opening_of m (replay m base read) asked.opening.bundle asked.opening.rounds;
      left = asked.left;
      bytes = min (length (codes_of read)) last_u64;
      generation = generation;
      root = root;
      state = replay m base read;
    }

-- a call on a disk that stood for these steps of the store of this origin, and a front of those behind them, read
-- this state of it, up to lines that are sealed, and made these steps, of which so many are durable
pub record IsCallIn {D : Type 0} (disk : D → DiskView) (m : Meaning) (origin : Origin) (steps more : List Step) (old new : DiskView) (state : Base) (made : List Step) (durable : ℕ) : Type 0 where
  pub call : IsCall disk m origin steps more old new made durable
  pub reads : IsSealOf (replay m origin.first (steps ++ take call.count more)) state

-- the store opens; the steps that were made, as they are told to be made from there, and why there are no more; the state behind them,
-- with more lines of outputs sealed where generations were begun on the way; and what the disk stands for, at any moment of the call
-- and behind it
pub record Called {D : Type 0} (disk : D → DiskView) (Makes : Outside → Place → List Step → TurnsEnd → Type 0) (o : Outside) (files : Image) (asked : Asked) (old new : DiskView) (why : TurnsEnd) : Type 0 where
  pub generation : ℕ
  pub root : ℕ
  pub base : Base
  pub read : List Step
  pub opens : Opens o.meaning files generation base read
  pub root_is : IsRootLength files generation root
  pub made : List Step
  pub makes : Makes o (start o.meaning generation root base read asked) made why
  pub state : Base
  pub state_is : IsSealOf (replay o.meaning (replay o.meaning base read) made) state
  pub durable : ℕ
  pub call : (origin : Origin) (steps more : List Step) → StandsNow o.meaning origin steps more old → IsCallIn disk o.meaning origin steps more old new (replay o.meaning base read) made durable

-- all steps that were made are durable
abbrev pub IsDurable : {D : Type 0} {disk : D → DiskView} {Makes : Outside → Place → List Step → TurnsEnd → Type 0} {o : Outside} {files : Image} {asked : Asked} {old new : DiskView} {why : TurnsEnd}
    → Called disk Makes o files asked old new why → Type 0
IsDurable d = d.durable ≡ length d.made

-- the file of each output is its sealed front and each line behind it; and it is all lines of each history that the disk stands
-- for, of a store that began with nothing sealed
pub record HasOutputs (m : Meaning) (new : DiskView) (outs : List Output) : Type 0 where
  pub completed : (after : Image) → new.told ≡ Some after → (before : Image) × AreCompleted new.may_leave outs before after
  pub written : (origin : Origin) (history : List Step) → StandsNow m origin history [] new → AreWritten m origin.first history new

-- no step was made: at any moment of the call and behind it the disk stands for the same history
abbrev pub IsStill : Meaning → DiskView → DiskView → Type 0
IsStill m old new = (origin : Origin) (steps more : List Step) → StandsNow m origin steps more old → StandsOn m origin steps more old new

-- an end that is told: neither the disk nor memory nor damage of an output's file ended the turns
abbrev pub IsToldEnd : TurnsEnd → Type 0
IsToldEnd why = (why ≢ last.Disk) × (why ≢ last.Memory) × ((file at : ℕ) → why ≢ last.Damaged file at)

-- where the turns ended since a feed failed, it failed more often than a collector that reads it tries again, by the plan of the
-- state where they ended
abbrev pub IsFailedBeyond : Outside → ShelfView → Base → TurnsEnd → Type 0
IsFailedBeyond o now s (last.Failed name) = FailedBeyond (collectors o.meaning s) o.shelf now name
IsFailedBeyond o now s other = Unit {0}

-- the ends of a store that such a call may come to
abbrev pub MayEndDrain : StoreEnd → Type 0
MayEndDrain end.Memory = Unit {0}
MayEndDrain end.Disk = Unit {0}
MayEndDrain end.Sink = Unit {0}
MayEndDrain (end.Store have) = Unit {0}
MayEndDrain (end.Damaged file at) = Unit {0}
MayEndDrain end.Done = ⊥
MayEndDrain end.Refused = ⊥
MayEndDrain (end.NoDump n) = ⊥
MayEndDrain (end.Spent next) = ⊥
MayEndDrain (end.Full bytes) = ⊥

-- the shelf is `now` behind the call. The turns ended by a cause of theirs: all steps are durable, the outputs are whole, and the
-- summary is printed, or a front of it where the sink failed. Where memory ran out or the disk failed nothing is printed; behind
-- want of memory the steps are durable. Or there is no store, or it is damaged. It has no other end
abbrev pub IsCallBy : {D : Type 0} → (D → DiskView) → (Outside → Place → List Step → TurnsEnd → Type 0) → Outside → ShelfView → Image → Asked → DiskView → DiskView → Result TurnsEnd StoreEnd → SinkView → SinkView → Type 0
IsCallBy disk Makes o now files asked old new (Ok why) before after =
    IsToldEnd why × (d : Called disk Makes o files asked old new why) × IsDurable d × HasOutputs o.meaning new d.state.outs × Took before after (summary d.state)
    × IsFailedBeyond o now d.state why
IsCallBy disk Makes o now files asked old new (Err end.Sink) before after =
    (why : TurnsEnd) × IsToldEnd why × (d : Called disk Makes o files asked old new why) × IsDurable d × HasOutputs o.meaning new d.state.outs × TookFront before after (summary d.state)
    × IsFailedBeyond o now d.state why
IsCallBy disk Makes o now files asked old new (Err end.Memory) before after =
    Took before after [] × (IsStill o.meaning old new ⊎ ((why : TurnsEnd) × (d : Called disk Makes o files asked old new why) × IsDurable d))
IsCallBy disk Makes o now files asked old new (Err end.Disk) before after =
    Took before after [] × (IsStill o.meaning old new ⊎ ((why : TurnsEnd) × Called disk Makes o files asked old new why))
IsCallBy disk Makes o now files asked old new (Err (end.Store have)) before after =
    (have ≡ 0) × (files root_file ≡ []) × Took before after [] × IsStill o.meaning old new
IsCallBy disk Makes o now files asked old new (Err (end.Damaged file at)) before after =
    Took before after [] × (0 < length (files root_file)) × IsDamagedStore o.meaning files file at × IsStill o.meaning old new
IsCallBy disk Makes o now files asked old new (Err end.Done) before after = ⊥
IsCallBy disk Makes o now files asked old new (Err end.Refused) before after = ⊥
IsCallBy disk Makes o now files asked old new (Err (end.NoDump n)) before after = ⊥
IsCallBy disk Makes o now files asked old new (Err (end.Spent next)) before after = ⊥
IsCallBy disk Makes o now files asked old new (Err (end.Full bytes)) before after = ⊥

-- ---- a drain: the steps are made one by one as they are due, on one thread

abbrev pub Drained : {D : Type 0} → (D → DiskView) → Outside → Image → Asked → DiskView → DiskView → TurnsEnd → Type 0
Drained disk = Called disk Drains

abbrev pub IsDrainCall : {D : Type 0} → (D → DiskView) → Outside → ShelfView → Image → Asked → DiskView → DiskView → Result TurnsEnd StoreEnd → SinkView → SinkView → Type 0
IsDrainCall disk = IsCallBy disk Drains
