-- What holds of a drain that nothing hinders.
use Rattle.std.specs.Prelude.{◌≡◌, ◌++◌, ℕ, Bool, List, None, Some, Result, Ok, Err}
use Rattle.edge_traits.specs.Disk.{DiskView, Image}
use Rattle.edge_traits.specs.Shelf.{ShelfView}
use Rattle.edge_traits.specs.Sink.{SinkView}
use Rattle.step_code.specs.declared.base.Base.{Base}
use Rattle.step_code.specs.declared.rules.Facts.{Facts}
use Rattle.step_code.specs.declared.step.Step.{Step}
use Rattle.step_code.specs.History.{first, replay, Legal}
use Rattle.step_code.specs.Rules.{AreSound, Meaning}
use Rattle.step_code.specs.Spent.{NothingIsSpent}
use Rattle.step_code.specs.State.{bots_in_force}
use Rattle.store_image.specs.Stands.{origin_of}
use Rattle.store_image.specs.Stored.{IsStored}
use Rattle.journal_book.specs.Opening.{StandsNow}
use Rattle.store_commands.specs.declared.end.StoreEnd.{StoreEnd}
use Rattle.store_commands.specs.declared.end.StoreEnd.TheVariants as end
use Rattle.drain_turns.specs.Drained.{behind_all}
use Rattle.drain_turns.specs.Laws.{opened, HasFeeds, HasRoom}
use Rattle.drain_turns.specs.Turn.{Outside}
use Rattle.drain_turns.specs.declared.end.TurnsEnd.{TurnsEnd}
use Rattle.drain_turns.specs.declared.end.TurnsEnd.TheVariants as last
use Rattle.drain_loop.specs.Calls.{opening_of}
use Rattle.drain_command.specs.Drained.{start, Drained, IsDrainCall}
use Rattle.drain_command.specs.declared.draining.Asked.{Asked}

-- turns ended because nothing was left to do, or a feed failed
abbrev pub EndIdly : TurnsEnd → Type 0
EndIdly last.Idle = Unit {0}
EndIdly (last.Failed name) = Unit {0}
EndIdly last.Left = ⊥
EndIdly (last.Absent name) = ⊥
EndIdly (last.Short have need) = ⊥
EndIdly (last.LongLine bot line) = ⊥
EndIdly (last.LongFeed bot) = ⊥
EndIdly (last.Halted bot) = ⊥
EndIdly (last.Spent next) = ⊥
EndIdly (last.Full bytes) = ⊥
EndIdly (last.Damaged file at) = ⊥
EndIdly last.Disk = ⊥
EndIdly last.Memory = ⊥

-- a drain did all that there was to do, or the outside or memory failed: of the outside the counts of faults tell
abbrev pub EndsIdly : Result TurnsEnd StoreEnd → Type 0
EndsIdly (Ok why) = EndIdly why
EndsIdly (Err end.Memory) = Unit {0}
EndsIdly (Err end.Disk) = Unit {0}
EndsIdly (Err end.Sink) = Unit {0}
EndsIdly (Err other) = ⊥

-- the state to which a drain's opening leads, as it is known ahead: another bundle may be in force, and rounds begun
abbrev pub opened_state : Meaning → Base → List Step → Asked → Base
opened_state m base read asked = opened m (replay m base read) (opening_of m (replay m base read) asked.opening.bundle asked.opening.rounds)

-- nothing hinders a drain: it may make any number of steps, the shelf and the disk tell what they have, the store began with a
-- bundle and stands for a legal history in which no number is spent; the shelf has the feeds of the collectors as they stand
-- behind the opening of what is stored; and where the drain comes to there is room for what is due
pub record IsUnhindered {D : Type 0} (disk : D → DiskView) (o : Outside) (feeds : List (List ℕ × List ℕ)) (files : Image) (asked : Asked) (old new : DiskView) : Type 0 where
  pub unbound : asked.left ≡ None
  pub shelf : o.shelf.told ≡ Some feeds
  pub disk_tells : old.told ≡ Some files
  pub bots : List Facts
  pub bundle : List ℕ
  pub loads : o.meaning.facts bundle ≡ Some bots
  pub steps : List Step
  pub more : List Step
  pub whole : Bool
  pub stands : StandsNow o.meaning (origin_of (first bots bundle) whole) steps more old
  pub legal : Legal o.meaning (first bots bundle) (steps ++ more)
  pub small : NothingIsSpent o.meaning (first bots bundle) (steps ++ more)
  pub sound : (generation : ℕ) (base : Base) (read : List Step) → IsStored files generation base read → AreSound (bots_in_force o.meaning (opened_state o.meaning base read asked))
  pub readable : (generation : ℕ) (base : Base) (read : List Step) → IsStored files generation base read → HasFeeds feeds o.meaning (opened_state o.meaning base read asked)
  pub room : (why : TurnsEnd) (d : Drained disk o files asked old new why) → HasRoom o (behind_all o (start o.meaning d.generation d.root d.base d.read asked) d.made)

-- such a drain does all that there is to do
abbrev pub FreeDrainsEndIdle : {D : Type 0} → (D → DiskView) → Meaning → Type 0
FreeDrainsEndIdle {D} disk m =
    (o : Outside) (feeds : List (List ℕ × List ℕ)) (files : Image) (asked : Asked) (old new : D) (now : ShelfView) (e : Result TurnsEnd StoreEnd) (before after : SinkView) → o.meaning ≡ m → IsUnhindered disk o feeds files asked (disk old) (disk new)
    → IsDrainCall disk o now files asked (disk old) (disk new) e before after → EndsIdly e
