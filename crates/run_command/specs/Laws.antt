-- What holds of a run that nothing hinders.
use Rattle.std.specs.Prelude.{◌≡◌, ◌++◌, ℕ, Bool, List, [], None, Some, Result}
use Rattle.edge_traits.specs.Disk.{DiskView, Image}
use Rattle.edge_traits.specs.Shelf.{ShelfView}
use Rattle.edge_traits.specs.Sink.{SinkView}
use Rattle.step_code.specs.declared.base.Base.{Base}
use Rattle.step_code.specs.declared.rules.Facts.{Facts}
use Rattle.step_code.specs.declared.step.Step.{Step}
use Rattle.step_code.specs.History.{first, replay, Legal}
use Rattle.step_code.specs.Rules.{AreSound, Meaning}
use Rattle.step_code.specs.Spent.{NothingIsSpent}
use Rattle.step_code.specs.State.{bots_in_force}
use Rattle.store_image.specs.Stands.{origin_of}
use Rattle.store_image.specs.Stored.{IsStored}
use Rattle.journal_book.specs.Opening.{StandsNow}
use Rattle.store_commands.specs.declared.end.StoreEnd.{StoreEnd}
use Rattle.drain_turns.specs.Drained.{behind_all, Drains}
use Rattle.drain_turns.specs.Laws.{HasFeeds, HasRoom}
use Rattle.drain_turns.specs.Turn.{Outside}
use Rattle.drain_turns.specs.declared.end.TurnsEnd.{TurnsEnd}
use Rattle.drain_command.specs.Drained.{start, Called, IsCallBy}
use Rattle.drain_command.specs.Laws.{opened_state, EndsIdly}
use Rattle.drain_command.specs.declared.draining.Asked.{Asked}
use Rattle.live_reload.specs.declared.end.OrdersEnd.{OrdersEnd}
use Rattle.run_command.specs.Runs.{steps_in, AreWorkerSteps, EndsAfter, HasWorked, HaveFailed, RunsSo}

-- along steps of workers feeds stay readable
abbrev pub WorkersKeepFeedsReadable : Type 0
WorkersKeepFeedsReadable = (o : Outside) (s : Base) (feeds : List (List ℕ × List ℕ)) (made : List Step) → o.shelf.told ≡ Some feeds → AreSound (bots_in_force o.meaning s) → HasFeeds feeds o.meaning s → AreWorkerSteps o s made
    → HasFeeds feeds o.meaning (replay o.meaning s made)

-- nothing hinders a run: it may make any number of steps, the shelf and the disk tell what they have, and the store began with a bundle and
-- stands for a legal history in which no number is spent; the shelf has the feeds of the collectors as they stand behind the opening of what
-- is stored; and where the run comes to, within its opening or behind it, there is room for what is due
pub record RunsFreely {D : Type 0} (disk : D → DiskView) (steps_made : ℕ) (by : OrdersEnd) (o : Outside) (feeds : List (List ℕ × List ℕ)) (files : Image) (asked : Asked) (old new : DiskView) : Type 0 where
  pub unbound : asked.left ≡ None
  pub shelf : o.shelf.told ≡ Some feeds
  pub disk_tells : old.told ≡ Some files
  pub bots : List Facts
  pub bundle : List ℕ
  pub loads : o.meaning.facts bundle ≡ Some bots
  pub steps : List Step
  pub more : List Step
  pub whole : Bool
  pub stands : StandsNow o.meaning (origin_of (first bots bundle) whole) steps more old
  pub legal : Legal o.meaning (first bots bundle) (steps ++ more)
  pub small : NothingIsSpent o.meaning (first bots bundle) (steps ++ more)
  pub readable : (generation : ℕ) (base : Base) (read : List Step) → IsStored files generation base read → HasFeeds feeds o.meaning (opened_state o.meaning base read asked)
  pub room_early : (why : TurnsEnd) (d : Called disk (RunsSo steps_made by []) o files asked old new why) → Drains o (start o.meaning d.generation d.root d.base d.read asked) d.made why → HasRoom o (behind_all o (start o.meaning d.generation d.root d.base d.read asked) d.made)
  pub room : (why : TurnsEnd) (d : Called disk (RunsSo steps_made by []) o files asked old new why) (worked : HasWorked by [] o (start o.meaning d.generation d.root d.base d.read asked) d.made why)
      → (ends : EndsAfter o worked.here.left worked.here.state (steps_in worked.parts) why) → HasRoom (record o { shelf = ends.shelf }) ends.here

-- such a run to which control gives no order does all that there is to do, unless control or the output fails
abbrev pub FreeRunsEndIdle : {D : Type 0} → (D → DiskView) → Meaning → Type 0
FreeRunsEndIdle {D} disk m =
    (steps : ℕ) (by : OrdersEnd) (o : Outside) (feeds : List (List ℕ × List ℕ)) (files : Image) (asked : Asked) (old new : D) (now : ShelfView) (e : Result TurnsEnd StoreEnd) (before after : SinkView) → o.meaning ≡ m → (HaveFailed by → ⊥)
    → RunsFreely disk steps by o feeds files asked (disk old) (disk new) → IsCallBy disk (RunsSo steps by []) o now files asked (disk old) (disk new) e before after → EndsIdly e
