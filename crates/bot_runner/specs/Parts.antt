-- What a worker knows of its round between two holds.
use Rattle.std.specs.Prelude.{◌≡◌, ◌≤◌, ◌+◌, ℕ, suc, List, [], ◌∷◌, length, Option, Some, None, IfSome, IsSomeAnd, Result, MatchResult}
use Rattle.std.specs.List.{AllByRecursion}
use Rattle.edge_traits.specs.Source.{SourceView}
use Rattle.step_code.specs.declared.base.Base.{Base}
use Rattle.step_code.specs.declared.step.Step.{Step}
use Rattle.step_code.specs.History.{replay}
use Rattle.step_code.specs.Rules.{Meaning, Task}
use Rattle.journal_book.specs.Book.{BookView}
use Rattle.book_lock.specs.Lock.{AllAt}
use Rattle.book_lock.specs.Seats.{Known}
use Rattle.locked_book.specs.Entries.{entries_of}
use Rattle.locked_book.specs.Locked.{LockedView}
use Rattle.locked_book.specs.declared.entry.EndMark.{EndMark}
use Rattle.locked_book.specs.declared.entry.EndMark.TheVariants as mark
use Rattle.locked_book.specs.declared.entry.Entry.{Entry}
use Rattle.locked_book.specs.declared.entry.Entry.TheVariants as entry
use Rattle.worker_turns.specs.Holds.{HasNoStep, IsDone, IsFaultEnd, IsInstanceStep, IsReadyFor}
use Rattle.worker_turns.specs.declared.instance.Instance.{Instance}
use Rattle.worker_turns.specs.declared.job.Done.{Done}
use Rattle.worker_turns.specs.declared.job.Ready.{Ready}
use Rattle.worker_turns.specs.declared.turned.HoldEnd.{HoldEnd}
use Rattle.worker_turns.specs.declared.turned.HoldEnd.TheVariants as end
use Rattle.worker_turns.specs.declared.turned.Turned.{Turned}
use Rattle.worker_turns.specs.declared.turned.Turned.TheVariants as turned
use Rattle.journal_book.specs.declared.stage_refusal.StageRefusal.TheVariants as refusal
use Rattle.bot_runner.specs.Round.{all_steps, AreRising, InstanceEnds, IsEndOf, IsMadeAs, IsSameWorker, IsStepBy, IsWhy, WaiterEnds, WorkerEnds}
use Rattle.bot_runner.specs.declared.instance_part.Work.{Work}
use Rattle.bot_runner.specs.declared.worker.Why.{Why}
use Rattle.bot_runner.specs.declared.worker.Worker.{Worker}
use Rattle.bot_runner.specs.declared.worker.WorkerEnd.{WorkerEnd}
use Rattle.bot_runner.specs.declared.worker.Why.TheVariants as why

-- the numbers of the steps among entries
abbrev pub numbers_in : {B : Type 0} → List (ℕ × Entry B) → List ℕ
numbers_in [] = []
numbers_in ((at, entry.Opened book) ∷ rest) = numbers_in rest
numbers_in ((at, entry.Made before step) ∷ rest) = suc before.steps ∷ numbers_in rest
numbers_in ((at, entry.Marked mark) ∷ rest) = numbers_in rest

-- none of these numbers passes so many steps of a round
abbrev pub AreFew : Option ℕ → ℕ → List ℕ → Type 0
AreFew left before numbers = IfSome left (λ most. AllByRecursion (λ n. n ≤ before + most) numbers)

-- of a round that began with this book a seat has seen what this value has, and the entries that it added stand there
pub record HasSeen {D R : Type 0} (m : Meaning) (o : BookView D R) (k : Known (Entry (BookView D R))) (v : LockedView D R) : Type 0 where
  pub list : k.seen ≡ entries_of m v
  pub opening : v.opening ≡ o
  pub within : AllAt k.seen k.mine

-- a seat that was given away before a first hold of it, in a round that began with this value
pub record IsNew {D R : Type 0} (m : Meaning) (begun : LockedView D R) (k : Known (Entry (BookView D R))) : Type 0 where
  pub seen : k.seen ≡ entries_of m begun
  pub mine : k.mine ≡ []

-- of such a round a seat has seen what a value has, and the worker made the steps of these numbers, which are its
-- own
pub record IsPart {D R : Type 0} (m : Meaning) (Is : Base → Step → Type 0) (left : Option ℕ) (o : BookView D R) (k : Known (Entry (BookView D R))) (steps : List ℕ) (v : LockedView D R) : Type 0 where
  pub seen : HasSeen m o k v
  pub own : AllByRecursion (IsMadeAs m Is o.state v.made) steps
  pub numbers : numbers_in k.mine ≡ steps
  pub rising : AreRising steps
  pub few : AreFew left o.state.steps steps

-- ---- how a part ends

-- the hold that left this value ended a part for this cause
abbrev pub IsOver : {D R : Type 0} → Option ℕ → LockedView D R → HoldEnd → Type 0
IsOver left v (end.Found found) = v.mark ≡ Some found
IsOver left v other = IsFaultEnd left (length v.made) v.mark other

abbrev pub why_of : HoldEnd → Why
why_of (end.Found mark.Stop) = why.Stop
why_of (end.Found mark.Half) = why.Half
why_of (end.Found mark.Broken) = why.Refused refusal.Broken
why_of end.Half = why.Half
why_of end.Left = why.Left
why_of end.Disk = why.Disk
why_of (end.Refused cause) = why.Refused cause
why_of end.OutOfMemory = why.Memory

-- a part made the steps of these numbers, and ended for this cause
pub record HasEnded {D R : Type 0} (m : Meaning) (Is : Base → Step → Type 0) (left : Option ℕ) (Ends : Base → Why → Type 0) (o : BookView D R) (k : Known (Entry (BookView D R))) (steps : List ℕ) (cause : Why) : Type 0 where
  pub v : LockedView D R
  pub part : IsPart m Is left o k steps v
  pub why : IsWhy m left Ends o.state v.made v.mark cause

-- ---- an instance

-- an instance between two holds
pub record IsAtWork {D R W : Type 0} (m : Meaning) (task_of : W → Task) (clock left : Option ℕ) (o : BookView D R) (bot : List ℕ) (i : ℕ) (k : Known (Entry (BookView D R))) (worker : Instance W) (gave : Option Done) : Type 0 where
  pub v : LockedView D R
  pub part : IsPart m (IsInstanceStep clock bot i) left o k worker.steps.items v
  pub bot_is : worker.bot ≡ bot
  pub number : worker.number ≡ i
  pub ready : IfSome worker.ready (IsReadyFor m task_of v bot)
  pub done : IfSome gave (IsDone m v bot)

-- what a hold that left this value came to
abbrev pub IsComeTo : {D R W : Type 0} → Meaning → Option ℕ → BookView D R → List ℕ → ℕ → LockedView D R → Option (Ready W) → Turned → Type 0
IsComeTo m left o bot i v ready (turned.Holds job) = IsSomeAnd ready (λ r. r.bundle ≡ job.bundle)
IsComeTo m left o bot i v ready (turned.Retried delay) = Unit {0}
IsComeTo m left o bot i v ready (turned.Nothing at idle) = (at ≡ (replay m o.state v.made).steps) × HasNoStep m (replay m o.state v.made) bot i
IsComeTo m left o bot i v ready (turned.Ended cause) = IsOver left v cause

-- an instance after a hold
pub record HasHeld {D R W : Type 0} (m : Meaning) (task_of : W → Task) (clock left : Option ℕ) (o : BookView D R) (bot : List ℕ) (i : ℕ) (k : Known (Entry (BookView D R))) (worker : Instance W) (to : Turned) : Type 0 where
  pub at : IsAtWork m task_of clock left o bot i k worker None
  pub came : IsComeTo m left o bot i at.v worker.ready to

-- an instance went on, or its part ended for this cause
pub record HasActed {D R W : Type 0} (m : Meaning) (task_of : W → Task) (clock left : Option ℕ) (o : BookView D R) (bot : List ℕ) (i : ℕ) (k : Known (Entry (BookView D R))) (work : Work W) (cause : Option Why) : Type 0 where
  pub at : IsAtWork m task_of clock left o bot i k work.worker work.done
  pub why : IfSome cause (IsWhy m left (InstanceEnds m bot i) o.state at.v.made at.v.mark)

-- an instance after a look at the round
pub record HasLooked {D R W : Type 0} (m : Meaning) (task_of : W → Task) (clock left : Option ℕ) (o : BookView D R) (bot : List ℕ) (i : ℕ) (k : Known (Entry (BookView D R))) (worker : Instance W) (found : Option EndMark) : Type 0 where
  pub at : IsAtWork m task_of clock left o bot i k worker None
  pub mark : IfSome found (λ mark. at.v.mark ≡ Some mark)

-- ---- who waits for the workers

-- between two holds
pub record IsWaiting {D R : Type 0} (m : Meaning) (o : BookView D R) (k : Known (Entry (BookView D R))) : Type 0 where
  pub v : LockedView D R
  pub part : IsPart m (λ s step. ⊥) None o k [] v

-- after a hold
pub record HasWaited {D R : Type 0} (m : Meaning) (o : BookView D R) (k : Known (Entry (BookView D R))) (to : Result ℕ HoldEnd) : Type 0 where
  pub at : IsWaiting m o k
  pub came : MatchResult to (λ steps. steps ≡ (replay m o.state at.v.made).steps) (IsOver None at.v)

-- ---- all workers

-- each of the first ones goes with one of the second, in order
abbrev pub AreEach : {A B : Type 0} → (A → B → Type 0) → List A → List B → Type 0
AreEach Is [] [] = Unit {0}
AreEach Is [] (y ∷ ys) = ⊥
AreEach Is (x ∷ xs) [] = ⊥
AreEach Is (x ∷ xs) (y ∷ ys) = Is x y × AreEach Is xs ys

-- a worker has ended so
pub record HasWorked {D R S : Type 0} (view : S → SourceView) (m : Meaning) (clock left : Option ℕ) (o : BookView D R) (worker : Worker S) (k : Known (Entry (BookView D R))) (end : WorkerEnd S) : Type 0 where
  pub v : LockedView D R
  pub part : IsPart m (IsStepBy view m clock worker) left o k end.steps.items v
  pub same : IsSomeAnd end.worker (IsSameWorker view worker end.why)
  pub why : IsWhy m left (WorkerEnds view m worker) o.state v.made v.mark end.why

-- the seat of who waited, and those of these workers, were joined
pub record HasJoined {D R S : Type 0} (view : S → SourceView) (m : Meaning) (clock left : Option ℕ) (o : BookView D R) (last : Why) (k : Known (Entry (BookView D R))) (workers : List (Worker S)) (ends : List (WorkerEnd S)) : Type 0 where
  pub v : LockedView D R
  pub seen : HasSeen m o k v
  pub numbers : numbers_in k.mine ≡ all_steps ends
  pub few : AreFew left o.state.steps (all_steps ends)
  pub each : AreEach (IsEndOf view m clock left o.state v.made v.mark) workers ends
  pub why : IsWhy m None WaiterEnds o.state v.made v.mark last
