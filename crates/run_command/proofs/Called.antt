-- What a run leaves of a store, behind its turns.
use Rattle.std.proofs.Common.{◌≡◌, ◌≢◌, ◌⊎◌, ◌+◌, ◌-◌, ℕ, List, [], length, Bool, true, false, Some, None, Result, Ok, Err, IfErr, IsErrOf, inl, inr, refl, ap, subst, ◌∙◌, arith}
use Rattle.edge_traits.specs.Disk.{DiskView, Image}
use Rattle.edge_traits.specs.Output.{TookFront}
use Rattle.edge_traits.specs.Shelf.{ShelfView}
use Rattle.edge_traits.specs.Sink.{SinkView}
use Rattle.edge_traits.proofs.Outputs.{Took-nothing}
use Rattle.step_code.specs.declared.base.Base.{Base}
use Rattle.step_code.specs.declared.step.Step.{Step}
use Rattle.store_image.specs.Stands.{Origin}
use Rattle.journal_book.specs.Book.{BookView}
use Rattle.journal_book.specs.Opening.{StandsNow}
use Rattle.journal_book.specs.Outputs.{AreCompleted, AreWritten}
use Rattle.book_runs.specs.GoesOn.{GoesOn}
use Rattle.book_runs.proofs.Called.{AllAccounted}
use Rattle.store_commands.specs.Completed.{IsFinished}
use Rattle.store_commands.specs.Ends.{AreWrittenAt}
use Rattle.store_commands.specs.declared.end.StoreEnd.{StoreEnd}
use Rattle.store_commands.specs.declared.end.StoreEnd.TheVariants as store
use Rattle.drain_turns.specs.Drained.{Place}
use Rattle.drain_turns.specs.Turn.{Outside}
use Rattle.drain_turns.specs.declared.end.TurnsEnd.{TurnsEnd}
use Rattle.drain_turns.specs.declared.end.TurnsEnd.TheVariants as last
use Rattle.drain_command.specs.Drained.{IsCallBy, IsFailedBeyond, MayEndDrain}
use Rattle.drain_command.specs.Turned.{ended, IsTurned}
use Rattle.drain_command.specs.declared.draining.Asked.{Asked}
use Rattle.drain_command.proofs.Made.{drain_called, ends_finished, told_turns, Reopened}
use Rattle.live_reload.specs.declared.end.OrdersEnd.{OrdersEnd}
use Rattle.live_reload.specs.declared.end.OrdersEnd.TheVariants as end
use Rattle.live_reload.specs.declared.order.Order.{Order}
use Rattle.run_command.specs.Runs.{Runs, RunsSo}
use Rattle.run_command.specs.Said.{run_ended, IsUnanswered}
use Rattle.run_command.proofs.Worked.{steps_replayed}

module _ {D R : Type 0} {disk : D → DiskView} (o : Outside) (asked : Asked) (old mid : BookView D R) (by : OrdersEnd) (given : List Order) (why : TurnsEnd) (turned : IsTurned disk (Runs by given) o asked old mid why) where
  -- the steps are counted
  pub steps_made : mid.state.steps ≡ old.state.steps + length turned.made
  steps_made = ap (λ (s : Base). s.steps) turned.run.state.same ∙ steps_replayed o.meaning old.state turned.made

  pub turned_so : (steps : ℕ) → steps ≡ mid.state.steps - old.state.steps → IsTurned disk (RunsSo steps by given) o asked old mid why
  turned_so steps is = record { made = turned.made; makes = (omega (arith, is, steps_made), turned.makes); run = turned.run }

took_none : (a : SinkView) (text : List ℕ) → TookFront a a text
took_none a text = record { front = []; rest = text; whole_is = refl; took = Took-nothing a }

module _ {D R : Type 0} {disk : D → DiskView} (steps : ℕ) (by : OrdersEnd) (given : List Order) (o : Outside) (accounts : AllAccounted o.meaning) (files : Image) (asked : Asked) (old : D) (opened mid later : BookView D R)
    (is : Reopened disk o.meaning files old opened) (why : TurnsEnd) (turned : IsTurned disk (RunsSo steps by given) o asked opened mid why) (behind : GoesOn disk o.meaning mid later []) where
  abbrev Called_ : Result TurnsEnd StoreEnd → ShelfView → SinkView → SinkView → Type 0
  Called_ e now a b =
      IsCallBy disk (RunsSo steps by given) o now files asked (disk old) (disk later.disk) e a b
      ⊎ ((by ≡ end.Sink) × (e ≡ Err store.Sink) × IsUnanswered disk (RunsSo steps by given) o files asked (disk old) (disk later.disk) a b)

  pub run_called : (now : ShelfView) → IsFailedBeyond o now mid.state why → why ≢ last.Disk → ((file at : ℕ) → why ≢ last.Damaged file at) → (is_said : Bool) → (why ≡ last.Memory → is_said ≡ false) → (by ≡ end.Sink → is_said ≡ false) → (e : StoreEnd) (a b : SinkView) → IsFinished is_said mid.state e a b
      → (e ≢ store.Disk → later.kept ≡ length later.steps)
      → ((before after : Image) → (disk mid.disk).told ≡ Some before → (disk later.disk).told ≡ Some after → AreWrittenAt e (AreCompleted (disk later.disk).may_leave mid.state.outs before after))
      → ((origin : Origin) (history : List Step) → StandsNow o.meaning origin history [] (disk later.disk) → AreWrittenAt e (AreWritten o.meaning origin.first history (disk later.disk)))
      → ((files : Image) (file at : ℕ) → (disk mid.disk).told ≡ Some files → e ≢ store.Damaged file at)
      → ((disk mid.disk).told ≡ None → (disk later.disk).told ≡ None) → Called_ (run_ended by e is_said why) now a b
  run_called now failed whole_disk sound is_said memory sink e a b finished all completed written undamaged untold = go by refl e finished all completed written undamaged
    where
      Plain : (e : StoreEnd) → IsFinished is_said mid.state e a b
          → (e ≢ store.Disk → later.kept ≡ length later.steps)
          → ((before after : Image) → (disk mid.disk).told ≡ Some before → (disk later.disk).told ≡ Some after → AreWrittenAt e (AreCompleted (disk later.disk).may_leave mid.state.outs before after))
          → ((origin : Origin) (history : List Step) → StandsNow o.meaning origin history [] (disk later.disk) → AreWrittenAt e (AreWritten o.meaning origin.first history (disk later.disk)))
          → ((files : Image) (file at : ℕ) → (disk mid.disk).told ≡ Some files → e ≢ store.Damaged file at) → Called_ (ended e is_said why) now a b
      Plain e finished all completed written undamaged =
          inl (drain_called (RunsSo steps by given) o accounts files asked old opened mid later is why turned behind now failed whole_disk sound is_said memory e a b finished all completed written undamaged untold)

      go : (x : OrdersEnd) → by ≡ x → (e : StoreEnd) → IsFinished is_said mid.state e a b
          → (e ≢ store.Disk → later.kept ≡ length later.steps)
          → ((before after : Image) → (disk mid.disk).told ≡ Some before → (disk later.disk).told ≡ Some after → AreWrittenAt e (AreCompleted (disk later.disk).may_leave mid.state.outs before after))
          → ((origin : Origin) (history : List Step) → StandsNow o.meaning origin history [] (disk later.disk) → AreWrittenAt e (AreWritten o.meaning origin.first history (disk later.disk)))
          → ((files : Image) (file at : ℕ) → (disk mid.disk).told ≡ Some files → e ≢ store.Damaged file at) → Called_ (run_ended x e is_said why) now a b
      go end.Sink same store.Done finished all completed written undamaged =
          let Other : Outside → Place → List Step → TurnsEnd → Type 0 = λ o p made other. RunsSo steps by given o p made why in
          let got =
          drain_called Other o accounts files asked old opened mid later is last.Left (record { made = turned.made; makes = turned.makes; run = turned.run }) behind now tt (λ same. cc same) (λ file at same. cc same) true (λ same. absurd (cc same)) store.Sink a a
          (refl, took_none a _) (λ other. all (λ same. cc same)) completed written (λ files file at told same. cc same) untold in
          let d = got.2 in
          inr (
            same,
            refl,
            record {
              why = why;
              called = record { generation = d.generation; root = d.root; base = d.base; read = d.read; opens = d.opens; root_is = d.root_is; made = d.made; makes = d.makes; state = d.state; state_is = d.state_is; durable = d.durable; call = d.call };
              durable = got.3;
              outputs = got.4;
              printed = subst (λ said. IsFinished said mid.state store.Done a b) (sink same) finished;
            },
          )
      go end.Sink same store.Memory finished all completed written undamaged = Plain store.Memory finished all completed written undamaged
      go end.Sink same store.Disk finished all completed written undamaged = Plain store.Disk finished all completed written undamaged
      go end.Sink same store.Sink finished all completed written undamaged = Plain store.Sink finished all completed written undamaged
      go end.Sink same (store.Store have) finished all completed written undamaged = Plain (store.Store have) finished all completed written undamaged
      go end.Sink same (store.Damaged file at) finished all completed written undamaged = Plain (store.Damaged file at) finished all completed written undamaged
      go end.Sink same store.Refused finished all completed written undamaged = Plain store.Refused finished all completed written undamaged
      go end.Sink same (store.NoDump n) finished all completed written undamaged = Plain (store.NoDump n) finished all completed written undamaged
      go end.Sink same (store.Spent next) finished all completed written undamaged = Plain (store.Spent next) finished all completed written undamaged
      go end.Sink same (store.Full bytes) finished all completed written undamaged = Plain (store.Full bytes) finished all completed written undamaged
      go end.Open same e finished all completed written undamaged = Plain e finished all completed written undamaged
      go end.AtEnd same e finished all completed written undamaged = Plain e finished all completed written undamaged
      go end.Control same e finished all completed written undamaged = Plain e finished all completed written undamaged

-- ---- by how the run ends

pub told_run : (by : OrdersEnd) (e : StoreEnd) (is_said : Bool) (why told : TurnsEnd) → run_ended by e is_said why ≡ Ok told → (told ≡ why) × (is_said ≡ true)
told_run end.Open e is_said why told is = told_turns e is_said why told is
told_run end.AtEnd e is_said why told is = told_turns e is_said why told is
told_run end.Control e is_said why told is = told_turns e is_said why told is
told_run end.Sink store.Done is_said why told is = absurd (cc is)
told_run end.Sink store.Memory is_said why told is = absurd (cc is)
told_run end.Sink store.Disk is_said why told is = absurd (cc is)
told_run end.Sink store.Sink is_said why told is = absurd (cc is)
told_run end.Sink (store.Store have) is_said why told is = absurd (cc is)
told_run end.Sink (store.Damaged file at) is_said why told is = absurd (cc is)
told_run end.Sink store.Refused is_said why told is = absurd (cc is)
told_run end.Sink (store.NoDump n) is_said why told is = absurd (cc is)
told_run end.Sink (store.Spent next) is_said why told is = absurd (cc is)
told_run end.Sink (store.Full bytes) is_said why told is = absurd (cc is)

pub run_finished : (by : OrdersEnd) (e : StoreEnd) (is_said : Bool) (why : TurnsEnd) (s : Base) (old new : SinkView) → IsFinished is_said s e old new → IfErr (run_ended by e is_said why) MayEndDrain
run_finished end.Open e is_said why s old new finished = ends_finished e is_said why s old new finished
run_finished end.AtEnd e is_said why s old new finished = ends_finished e is_said why s old new finished
run_finished end.Control e is_said why s old new finished = ends_finished e is_said why s old new finished
run_finished end.Sink store.Done is_said why s old new finished = tt
run_finished end.Sink store.Memory is_said why s old new finished = tt
run_finished end.Sink store.Disk is_said why s old new finished = tt
run_finished end.Sink store.Sink is_said why s old new finished = tt
run_finished end.Sink (store.Damaged file at) is_said why s old new finished = tt
run_finished end.Sink (store.Store have) is_said why s old new finished = absurd finished
run_finished end.Sink store.Refused is_said why s old new finished = absurd finished
run_finished end.Sink (store.NoDump n) is_said why s old new finished = absurd finished
run_finished end.Sink (store.Spent next) is_said why s old new finished = absurd finished
run_finished end.Sink (store.Full bytes) is_said why s old new finished = absurd finished

-- the store's end was that of the disk, or of the output, unless the output failed at an answer

disk_alone : (e : StoreEnd) (is_said : Bool) (why : TurnsEnd) → IsErrOf (ended e is_said why) store.Disk → e ≡ store.Disk
disk_alone store.Done true why is = absurd (cc is)
disk_alone store.Done false why is = absurd (cc is)
disk_alone store.Memory is_said why is = absurd (cc is)
disk_alone store.Disk is_said why is = refl
disk_alone store.Sink is_said why is = absurd (cc is)
disk_alone (store.Store have) is_said why is = absurd (cc is)
disk_alone (store.Damaged file at) is_said why is = absurd (cc is)
disk_alone store.Refused is_said why is = absurd (cc is)
disk_alone (store.NoDump n) is_said why is = absurd (cc is)
disk_alone (store.Spent next) is_said why is = absurd (cc is)
disk_alone (store.Full bytes) is_said why is = absurd (cc is)

pub disk_ended : (by : OrdersEnd) (e : StoreEnd) (is_said : Bool) (why : TurnsEnd) → IsErrOf (run_ended by e is_said why) store.Disk → e ≡ store.Disk
disk_ended end.Open e is_said why is = disk_alone e is_said why is
disk_ended end.AtEnd e is_said why is = disk_alone e is_said why is
disk_ended end.Control e is_said why is = disk_alone e is_said why is
disk_ended end.Sink store.Done is_said why is = absurd (cc is)
disk_ended end.Sink store.Memory is_said why is = absurd (cc is)
disk_ended end.Sink store.Disk is_said why is = refl
disk_ended end.Sink store.Sink is_said why is = absurd (cc is)
disk_ended end.Sink (store.Store have) is_said why is = absurd (cc is)
disk_ended end.Sink (store.Damaged file at) is_said why is = absurd (cc is)
disk_ended end.Sink store.Refused is_said why is = absurd (cc is)
disk_ended end.Sink (store.NoDump n) is_said why is = absurd (cc is)
disk_ended end.Sink (store.Spent next) is_said why is = absurd (cc is)
disk_ended end.Sink (store.Full bytes) is_said why is = absurd (cc is)

sink_alone : (e : StoreEnd) (is_said : Bool) (why : TurnsEnd) → IsErrOf (ended e is_said why) store.Sink → e ≡ store.Sink
sink_alone store.Done true why is = absurd (cc is)
sink_alone store.Done false why is = absurd (cc is)
sink_alone store.Memory is_said why is = absurd (cc is)
sink_alone store.Disk is_said why is = absurd (cc is)
sink_alone store.Sink is_said why is = refl
sink_alone (store.Store have) is_said why is = absurd (cc is)
sink_alone (store.Damaged file at) is_said why is = absurd (cc is)
sink_alone store.Refused is_said why is = absurd (cc is)
sink_alone (store.NoDump n) is_said why is = absurd (cc is)
sink_alone (store.Spent next) is_said why is = absurd (cc is)
sink_alone (store.Full bytes) is_said why is = absurd (cc is)

pub sink_ended : (by : OrdersEnd) (e : StoreEnd) (is_said : Bool) (why : TurnsEnd) → IsErrOf (run_ended by e is_said why) store.Sink → (e ≡ store.Sink) ⊎ (by ≡ end.Sink)
sink_ended end.Open e is_said why is = inl (sink_alone e is_said why is)
sink_ended end.AtEnd e is_said why is = inl (sink_alone e is_said why is)
sink_ended end.Control e is_said why is = inl (sink_alone e is_said why is)
sink_ended end.Sink e is_said why is = inr refl

pub by_cause : {A B C : Type 0} → A ⊎ B → (A → C) → (B → C) → C
by_cause (inl a) one other = one a
by_cause (inr b) one other = other b
