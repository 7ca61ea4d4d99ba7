-- The steps that a call makes, and what they leave of a store's history.
use Rattle.std.proofs.Common.{◌≡◌, ◌≢◌, ◌+◌, ◌-◌, ◌++◌, [], ℕ, List, length, min, take, Bool, true, false, Option, Some, None, Ok, Err, IfErr, inl, inr, refl, sym, ap, subst, arith, length-append}
use Rattle.std.proofs.lemmas.List.{append-nil}
use Rattle.base_types.specs.Number.{last_u64}
use Rattle.edge_traits.specs.Disk.{DiskView, Image, Leaves}
use Rattle.edge_traits.specs.Shelf.{ShelfView}
use Rattle.edge_traits.specs.Sink.{SinkView}
use Rattle.edge_traits.proofs.Outputs.{Took-nothing}
use Rattle.step_code.specs.declared.base.Base.{Base}
use Rattle.step_code.specs.declared.step.Step.{Step}
use Rattle.step_code.specs.History.{replay}
use Rattle.step_code.specs.Rules.{Meaning}
use Rattle.store_image.specs.Opens.{Opens}
use Rattle.store_image.specs.Stands.{IsSealOf, Origin, StandsFor}
use Rattle.store_image.specs.Stored.{codes_of}
use Rattle.journal_book.specs.Book.{BookView}
use Rattle.journal_book.specs.Opening.{opened as opened_with, IsReopenFault, IsReopened, IsRootLength, StandsNow, TellsLong}
use Rattle.journal_book.specs.Outputs.{AreCompleted, AreWritten}
use Rattle.journal_book.specs.declared.book_fault.BookFault.{BookFault}
use Rattle.journal_book.specs.declared.book_fault.BookFault.TheVariants as fault
use Rattle.book_runs.specs.GoesOn.{GoesOn}
use Rattle.book_runs.proofs.Going.{goes_further}
use Rattle.book_runs.specs.Calls.{IsOpened as IsOpenedCall}
use Rattle.book_runs.proofs.Called.{called, count_called, opened_so, sealed_state, AllAccounted}
use Rattle.store_commands.specs.Completed.{IsFinished}
use Rattle.store_commands.specs.Ends.{end_of, AreWrittenAt}
use Rattle.store_commands.specs.declared.end.StoreEnd.{StoreEnd}
use Rattle.store_commands.specs.declared.end.StoreEnd.TheVariants as end
use Rattle.turn_order.specs.Turn.{collectors}
use Rattle.drain_turns.specs.Drained.{Drains, Place}
use Rattle.drain_turns.specs.Turn.{Outside}
use Rattle.drain_turns.specs.declared.end.TurnsEnd.{TurnsEnd}
use Rattle.drain_turns.specs.declared.end.TurnsEnd.TheVariants as last
use Rattle.drain_loop.specs.Calls.{opening_of, place_with, IsDrained, IsOpened, IsUndamaged}
use Rattle.drain_loop.specs.Feeds.{FailedBeyond}
use Rattle.drain_command.specs.Drained.{start, Called, IsCallBy, IsCallIn, IsFailedBeyond, IsStill, MayEndDrain}
use Rattle.drain_command.specs.Turned.{ended, IsTurned}
use Rattle.drain_command.specs.declared.draining.Asked.{Asked}

module _ {D R : Type 0} {disk : D → DiskView} where
  -- the opening, and then the turns
  pub turned_on : (o : Outside) (asked : Asked) (old mid new : BookView D R) (left : Option ℕ) (why : TurnsEnd)
      → IsOpened disk o (place_with (opening_of o.meaning old.state asked.opening.bundle asked.opening.rounds) old asked.left) [] old mid (Ok left)
      → IsDrained disk o left mid new why → IsTurned disk Drains o asked old new why
  turned_on o asked old mid new left why opened drained = record {
    made = opened.made ++ drained.made;
    makes = opened.opens drained.made why drained.drains;
    run = goes_further old mid new opened.made drained.made opened.goes_on drained.goes_on;
  }

  -- the opening alone
  pub turned_off : (o : Outside) (asked : Asked) (old new : BookView D R) (why : TurnsEnd)
      → IsOpened disk o (place_with (opening_of o.meaning old.state asked.opening.bundle asked.opening.rounds) old asked.left) [] old new (Err why)
      → IsTurned disk Drains o asked old new why
  turned_off o asked old new why opened = record { made = opened.made; makes = opened.opens; run = opened.goes_on }

  -- neither damage ends
  pub undamaged_on : (m : Meaning) (files : Image) (old mid : BookView D R) (made : List Step) (why : TurnsEnd) → (disk old.disk).told ≡ Some files → GoesOn disk m old mid made
      → ((now : Image) → (disk mid.disk).told ≡ Some now → IsUndamaged why) → IsUndamaged why
  undamaged_on m files old mid made why told run each = let there = (run.others files told).told files told in each there.0 there.1

  -- a run that makes no more steps behind another
  pub still_runs : (m : Meaning) (old mid new : BookView D R) (made : List Step) → GoesOn disk m old mid made → GoesOn disk m mid new [] → GoesOn disk m old new made
  still_runs m old mid new made front rest = subst (λ (ss : List Step). GoesOn disk m old new ss) (append-nil made) (goes_further old mid new made [] front rest)

-- what reopening a store tells, by which a call on it is known
pub record Reopened {D R : Type 0} (disk : D → DiskView) (m : Meaning) (files : Image) (old : D) (book : BookView D R) : Type 0 where
  pub all : book.kept ≡ length book.steps
  pub state : book.state ≡ replay m book.base book.steps
  pub opens : Opens m files book.generation book.base book.steps
  pub root : IsRootLength files book.generation book.root
  pub tells : (now : Image) × ((disk book.disk).told ≡ Some now)
  pub call : (origin : Origin) (steps more : List Step) → StandsNow m origin steps more (disk old) → IsOpenedCall disk m origin steps more old book

pub reopened_so : {D R : Type 0} {disk : D → DiskView} {m : Meaning} (files : Image) (old : D) (rules : R) (limit : ℕ) (book : BookView D R) → book ≡ opened_with m rules book.format book.generation book.root book.base book.steps limit book.disk
    → Opens m files book.generation book.base book.steps → IsRootLength files book.generation book.root → TellsLong (disk book.disk).told book.state.outs
    → ((origin : Origin) (steps more : List Step) → StandsNow m origin steps more (disk old) → IsReopened disk m origin steps more book)
    → ((origin : Origin) (steps more : List Step) → StandsNow m origin steps more (disk old) → Leaves (disk old) (disk book.disk) (StandsFor m origin steps more)) → Reopened disk m files old book
reopened_so {D = D} {R = R} files old rules limit book is opens root long kept any_moment = record {
  all = ap (λ (b : BookView D R). b.kept) is;
  state = ap (λ (b : BookView D R). b.state) is;
  opens = opens;
  root = root;
  tells = (long.0, long.1);
  call = λ origin steps more was. opened_so origin steps more old rules limit book is (kept origin steps more was) (any_moment origin steps more was);
}

module _ {D R : Type 0} {disk : D → DiskView} (Makes : Outside → Place → List Step → TurnsEnd → Type 0) (o : Outside) (accounts : AllAccounted o.meaning) (files : Image) (asked : Asked) (old : D) (opened mid later : BookView D R)
    (is : Reopened disk o.meaning files old opened) (why : TurnsEnd) (turned : IsTurned disk Makes o asked opened mid why) (behind : GoesOn disk o.meaning mid later []) where
  abbrev run : GoesOn disk o.meaning opened later turned.made
  run = still_runs o.meaning opened mid later turned.made turned.run behind

  -- so many of the steps that were made are durable
  abbrev made_durable : ℕ
  made_durable = (length run.archived + later.kept) - opened.kept

  place_is : place_with (opening_of o.meaning opened.state asked.opening.bundle asked.opening.rounds) opened asked.left ≡ start o.meaning opened.generation opened.root opened.base opened.steps asked
  place_is = ap (λ (s : Base). record { opening = opening_of o.meaning s asked.opening.bundle asked.opening.rounds; left = asked.left; bytes = min (length (codes_of opened.steps)) last_u64; generation = opened.generation; root = opened.root; state = s }) is.state

  state_now : IsSealOf (replay o.meaning (replay o.meaning opened.base opened.steps) turned.made) mid.state
  state_now = subst (λ (s : Base). IsSealOf (replay o.meaning s turned.made) mid.state) is.state turned.run.state

  call_in : (durable : ℕ) (origin : Origin) (steps more : List Step) → (was : IsOpenedCall disk o.meaning origin steps more old opened)
      → made_durable ≡ durable → IsCallIn disk o.meaning origin steps more (disk old) (disk later.disk) (replay o.meaning opened.base opened.steps) turned.made durable
  call_in durable origin steps more was number =
      subst (λ (n : ℕ). IsCallIn disk o.meaning origin steps more (disk old) (disk later.disk) (replay o.meaning opened.base opened.steps) turned.made n) number
      (record { call = called origin steps more turned.made old opened later was run accounts; reads = seals_read })
    where
      seals_read : IsSealOf (replay o.meaning origin.first (steps ++ take (called origin steps more turned.made old opened later was run accounts).count more)) (replay o.meaning opened.base opened.steps)
      seals_read =
          subst (λ (n : ℕ). IsSealOf (replay o.meaning origin.first (steps ++ take n more)) (replay o.meaning opened.base opened.steps)) (sym (count_called origin steps more turned.made old opened later was run accounts))
          (subst (λ (s : Base). IsSealOf (replay o.meaning origin.first (steps ++ take was.reopened.count more)) s) is.state (sealed_state origin steps more turned.made old opened later was run))

  -- what the call made
  pub drained : (durable : ℕ) → made_durable ≡ durable → Called disk Makes o files asked (disk old) (disk later.disk) why
  drained durable number = record {
    generation = opened.generation;
    root = opened.root;
    base = opened.base;
    read = opened.steps;
    opens = is.opens;
    root_is = is.root;
    made = turned.made;
    makes = subst (λ (p : Place). Makes o p turned.made why) place_is turned.makes;
    state = mid.state;
    state_is = state_now;
    durable = durable;
    call = λ origin steps more was. call_in durable origin steps more (is.call origin steps more was) number;
  }

  -- all of it is durable where all steps of the book are
  pub all_number : later.kept ≡ length later.steps → made_durable ≡ length turned.made
  all_number all = number all is.all (ap length run.splits)
    where
      number : later.kept ≡ length later.steps → opened.kept ≡ length opened.steps → length (opened.steps ++ turned.made) ≡ length (run.archived ++ later.steps) → made_durable ≡ length turned.made
      number now was splits = omega (arith, now, was, splits, length-append opened.steps turned.made, length-append run.archived later.steps)

  -- each output is whole where the outputs were completed
  pub whole : (told : Option Image) (after : Image) (completes : Image → Type 0) → (told ≡ None → (disk later.disk).told ≡ None) → (disk later.disk).told ≡ Some after → ((before : Image) → told ≡ Some before → completes before) → (before : Image) × completes before
  whole None after completes untold tells each = absurd (cc (untold refl, tells))
  whole (Some before) after completes untold tells each = (before, each before refl)

  -- the disk failed within the turns
  pub drain_broken : (now : ShelfView) (sink : SinkView) → IsCallBy disk Makes o now files asked (disk old) (disk later.disk) (Err end.Disk) sink sink
  drain_broken now sink = (Took-nothing sink, inr (why, drained made_durable refl))

  -- by how the book was finished behind them
  pub drain_called : (now : ShelfView) → IsFailedBeyond o now mid.state why → why ≢ last.Disk → ((file at : ℕ) → why ≢ last.Damaged file at) → (is_said : Bool) → (why ≡ last.Memory → is_said ≡ false) → (e : StoreEnd) (a b : SinkView) → IsFinished is_said mid.state e a b
      → (e ≢ end.Disk → later.kept ≡ length later.steps)
      → ((before after : Image) → (disk mid.disk).told ≡ Some before → (disk later.disk).told ≡ Some after → AreWrittenAt e (AreCompleted (disk later.disk).may_leave mid.state.outs before after))
      → ((origin : Origin) (history : List Step) → StandsNow o.meaning origin history [] (disk later.disk) → AreWrittenAt e (AreWritten o.meaning origin.first history (disk later.disk)))
      → ((files : Image) (file at : ℕ) → (disk mid.disk).told ≡ Some files → e ≢ end.Damaged file at)
      → ((disk mid.disk).told ≡ None → (disk later.disk).told ≡ None) → IsCallBy disk Makes o now files asked (disk old) (disk later.disk) (ended e is_said why) a b
  unfolding drained
  drain_called now failed whole_disk sound true memory end.Done a b finished all completed written undamaged untold =
      ((whole_disk, (λ same. cc (memory same)), sound), drained (length turned.made) (all_number (all (λ same. cc (same)))), refl, record { completed = λ after tells. whole (disk mid.disk).told after _ untold tells (λ before was. completed before after was tells); written = written }, finished, failed)
  drain_called now failed whole_disk sound false memory end.Done a b finished all completed written undamaged untold = (finished, inr (why, drained (length turned.made) (all_number (all (λ same. cc (same)))), refl))
  drain_called now failed whole_disk sound is_said memory end.Sink a b finished all completed written undamaged untold =
      (why, (whole_disk, (λ same. cc (finished.0, memory same)), sound), drained (length turned.made) (all_number (all (λ same. cc (same)))), refl, record { completed = λ after tells. whole (disk mid.disk).told after _ untold tells (λ before was. completed before after was tells); written = written }, finished.1, failed)
  drain_called now failed whole_disk sound is_said memory end.Memory a b finished all completed written undamaged untold = (finished, inr (why, drained (length turned.made) (all_number (all (λ same. cc (same)))), refl))
  drain_called now failed whole_disk sound is_said memory end.Disk a b finished all completed written undamaged untold = (finished, inr (why, drained made_durable refl))
  drain_called now failed whole_disk sound is_said memory (end.Damaged file at) a b finished all completed written undamaged untold =
      let mid_told = (turned.run.others is.tells.0 is.tells.1).told is.tells.0 is.tells.1 in absurd (undamaged mid_told.0 file at mid_told.1 refl)
  drain_called now failed whole_disk sound is_said memory (end.Store have) a b finished all completed written undamaged untold = absurd finished
  drain_called now failed whole_disk sound is_said memory end.Refused a b finished all completed written undamaged untold = absurd finished
  drain_called now failed whole_disk sound is_said memory (end.NoDump n) a b finished all completed written undamaged untold = absurd finished
  drain_called now failed whole_disk sound is_said memory (end.Spent next) a b finished all completed written undamaged untold = absurd finished
  drain_called now failed whole_disk sound is_said memory (end.Full bytes) a b finished all completed written undamaged untold = absurd finished

-- a feed that failed ended the turns beyond these retries
pub failed_beyond : (o : Outside) (now : ShelfView) (s : Base) (end_is : TurnsEnd) → ((name : List ℕ) → end_is ≡ last.Failed name → FailedBeyond (collectors o.meaning s) o.shelf now name) → IsFailedBeyond o now s end_is
failed_beyond o now s last.Idle each = tt
failed_beyond o now s last.Left each = tt
failed_beyond o now s (last.Absent name) each = tt
failed_beyond o now s (last.Failed name) each = each name refl
failed_beyond o now s (last.Short have need) each = tt
failed_beyond o now s (last.LongLine bot line) each = tt
failed_beyond o now s (last.LongFeed bot) each = tt
failed_beyond o now s (last.Halted bot) each = tt
failed_beyond o now s (last.Spent next) each = tt
failed_beyond o now s (last.Full bytes) each = tt
failed_beyond o now s (last.Damaged file at) each = tt
failed_beyond o now s last.Disk each = tt
failed_beyond o now s last.Memory each = tt

-- ---- by how the command ends

-- where turns are told, their summary was asked for
pub told_turns : (e : StoreEnd) (is_said : Bool) (why told : TurnsEnd) → ended e is_said why ≡ Ok told → (told ≡ why) × (is_said ≡ true)
told_turns end.Done true why told is = (cc, refl)
told_turns end.Done false why told is = absurd (cc)
told_turns end.Memory is_said why told is = absurd (cc)
told_turns end.Disk is_said why told is = absurd (cc)
told_turns end.Sink is_said why told is = absurd (cc)
told_turns (end.Store have) is_said why told is = absurd (cc)
told_turns (end.Damaged file at) is_said why told is = absurd (cc)
told_turns end.Refused is_said why told is = absurd (cc)
told_turns (end.NoDump n) is_said why told is = absurd (cc)
told_turns (end.Spent next) is_said why told is = absurd (cc)
told_turns (end.Full bytes) is_said why told is = absurd (cc)

pub ends_finished : (e : StoreEnd) (is_said : Bool) (why : TurnsEnd) (s : Base) (old new : SinkView) → IsFinished is_said s e old new → IfErr (ended e is_said why) MayEndDrain
ends_finished end.Done true why s old new finished = tt
ends_finished end.Done false why s old new finished = tt
ends_finished end.Memory is_said why s old new finished = tt
ends_finished end.Disk is_said why s old new finished = tt
ends_finished end.Sink is_said why s old new finished = tt
ends_finished (end.Damaged file at) is_said why s old new finished = tt
ends_finished (end.Store have) is_said why s old new finished = absurd finished
ends_finished end.Refused is_said why s old new finished = absurd finished
ends_finished (end.NoDump n) is_said why s old new finished = absurd finished
ends_finished (end.Spent next) is_said why s old new finished = absurd finished
ends_finished (end.Full bytes) is_said why s old new finished = absurd finished

pub ends_closed : (m : Meaning) (told : Option Image) (f : BookFault) → IsReopenFault m told f → MayEndDrain (end_of f)
ends_closed m told fault.Disk bad = tt
ends_closed m told (fault.Damaged file at) bad = tt
ends_closed m told (fault.Store have) bad = tt
ends_closed m told fault.Refused bad = absurd bad
ends_closed m told fault.OutOfMemory bad = tt

-- a store that couldn't be opened
pub drain_closed : {D : Type 0} (disk : D → DiskView) (Makes : Outside → Place → List Step → TurnsEnd → Type 0) (o : Outside) (now : ShelfView) (files : Image) (asked : Asked) (old new : DiskView) (told : Option Image) (f : BookFault) (sink : SinkView)
    → told ≡ Some files → IsReopenFault o.meaning told f → IsStill o.meaning old new → IsCallBy disk Makes o now files asked old new (Err (end_of f)) sink sink
drain_closed disk Makes o now files asked old new told fault.Disk sink tells bad still = (Took-nothing sink, inl still)
drain_closed disk Makes o now files asked old new told (fault.Damaged file at) sink tells bad still = (Took-nothing sink, (bad files tells).0, (bad files tells).1, still)
drain_closed disk Makes o now files asked old new told (fault.Store have) sink tells bad still = (bad.0, bad.1 files tells, Took-nothing sink, still)
drain_closed disk Makes o now files asked old new told fault.Refused sink tells bad still = absurd bad
drain_closed disk Makes o now files asked old new told fault.OutOfMemory sink tells bad still = (Took-nothing sink, inl still)
