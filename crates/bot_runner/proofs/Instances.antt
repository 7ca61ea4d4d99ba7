-- An instance, one hold after the other.
use Rattle.std.proofs.Common.{◌≡◌, ◌⊎◌, ◌≤◌, ℕ, Bool, List, [], length, Option, Some, None, IfSome, IsSomeAnd, Result, Ok, Err, IfOk, refl, sym, ap, subst, ◌∙◌}
use Rattle.std.proofs.lemmas.List.{append-nil}
use Rattle.std.specs.Prelude.{◌≢◌}
use mathlib.Core.List.{IsPrefix}
use Rattle.edge_traits.specs.Disk.{DiskView}
use Rattle.step_code.specs.declared.base.Base.{Base}
use Rattle.step_code.specs.declared.step.Step.{Step}
use Rattle.step_code.specs.History.{replay}
use Rattle.step_code.specs.Rules.{Meaning, Task}
use Rattle.store_image.proofs.Standing.{replay-append}
use Rattle.journal_book.specs.Book.{BookView}
use Rattle.book_lock.specs.Lock.{AllAt}
use Rattle.book_lock.specs.Seats.{Known, grown}
use Rattle.locked_book.specs.Entries.{entries_of}
use Rattle.locked_book.specs.Locked.{IsRound, LockedView}
use Rattle.locked_book.specs.declared.entry.EndMark.{EndMark}
use Rattle.locked_book.specs.declared.entry.EndMark.TheVariants as mark
use Rattle.locked_book.specs.declared.entry.Entry.{Entry}
use Rattle.worker_turns.specs.Holds.{Adds, HasNoStep, IsDone, IsEnd, IsInstanceStep, IsReadyFor, IsTurned}
use Rattle.worker_turns.specs.declared.instance.Instance.{Instance}
use Rattle.worker_turns.specs.declared.job.Done.{Done}
use Rattle.worker_turns.specs.declared.job.Job.{Job}
use Rattle.worker_turns.specs.declared.job.Ready.{Ready}
use Rattle.worker_turns.specs.declared.turned.HoldEnd.{HoldEnd}
use Rattle.worker_turns.specs.declared.turned.HoldEnd.TheVariants as end
use Rattle.worker_turns.specs.declared.turned.Turned.{Turned}
use Rattle.worker_turns.specs.declared.turned.Turned.TheVariants as turned
use Rattle.worker_turns.proofs.Seen.{computed, done_seen, ready_kept, ready_seen}
use Rattle.journal_book.specs.declared.stage_refusal.StageRefusal.TheVariants as refusal
use Rattle.bot_runner.specs.Parts.{why_of, HasActed, HasEnded, HasHeld, HasLooked, IsAtWork, IsComeTo, IsNew, IsOver, IsPart}
use Rattle.bot_runner.specs.Round.{InstanceEnds, IsWhy}
use Rattle.bot_runner.specs.declared.instance_part.Work.{Work}
use Rattle.bot_runner.specs.declared.worker.Why.{Why}
use Rattle.bot_runner.specs.declared.worker.Why.TheVariants as why
use Rattle.bot_runner.proofs.Entries.{same_opening}
use Rattle.bot_runner.proofs.Parts.{begins, finds, grows, holds_on, looks_on, Grows}

pub some_on : {A : Type 0} {P Q : A → Type 0} (x : Option A) → ((a : A) → P a → Q a) → IfSome x P → IfSome x Q
some_on None f p = tt
some_on (Some a) f p = f a p

some_and : {A : Type 0} {P Q : A → Type 0} (x : Option A) → ((a : A) → P a → Q a) → IsSomeAnd x P → IsSomeAnd x Q
some_and None f p = p
some_and (Some a) f p = f a p

-- the state after the steps of a value
pub state_of : {D R : Type 0} {disk : D → DiskView} {m : Meaning} (v : LockedView D R) → IsRound disk m v.opening v.made v.book v.mark → v.book.state ≡ replay m v.opening.state v.made
state_of v round = ap (λ (b : BookView _ _). b.state) round.within

-- why a part ends with a hold
pub over : {D R : Type 0} (left : Option ℕ) (old new : LockedView D R) (cause : HoldEnd) → (old.mark ≢ None → new ≡ old) → IsEnd left old new cause → IsOver left new cause
over left old new (end.Found found) still is = ap (λ (v : LockedView _ _). v.mark) (still (λ none. let e = sym none ∙ is in absurd (cc))) ∙ is
over left old new end.Half still is = is.1
over left old new end.Left still is = is.1
over left old new end.Disk still is = is.1
over left old new (end.Refused cause) still is = is.1
over left old new end.OutOfMemory still is = is.1

pub why_is : {D R : Type 0} (m : Meaning) (left : Option ℕ) (Ends : Base → Why → Type 0) (s : Base) (v : LockedView D R) (cause : HoldEnd) → IsOver left v cause → IsWhy m left Ends s v.made v.mark (why_of cause)
why_is m left Ends s v (end.Found mark.Stop) is = is
why_is m left Ends s v (end.Found mark.Half) is = is
why_is m left Ends s v (end.Found mark.Broken) is = is
why_is m left Ends s v end.Half is = is
why_is m left Ends s v end.Left is = is.0
why_is m left Ends s v end.Disk is = is
why_is m left Ends s v (end.Refused refusal.Broken) is = absurd is.0
why_is m left Ends s v (end.Refused (refusal.Step step)) is = is.0
why_is m left Ends s v (end.Refused (refusal.Spent next)) is = is.0
why_is m left Ends s v (end.Refused (refusal.Full bytes)) is = is.0
why_is m left Ends s v (end.Refused refusal.OutOfMemory) is = absurd is.0
why_is m left Ends s v end.OutOfMemory is = tt

module _ {D R : Type 0} {m : Meaning} {left : Option ℕ} where
  pub state_on : {Is : Base → Step → Type 0} (old new : LockedView D R) (noted notes : List ℕ) → old.book.state ≡ replay m old.opening.state old.made → Grows m Is left old new noted notes → new.book.state ≡ replay m new.opening.state new.made
  state_on old new noted notes state grows =
      grows.state ∙ ap (λ (s : Base). replay m s grows.added) state ∙ sym (replay-append m old.opening.state old.made grows.added)
      ∙ ap (λ (l : List Step). replay m old.opening.state l) (sym grows.made) ∙ ap (λ (b : BookView D R). replay m b.state new.made) (sym grows.opening)

  pub grows_prefix : {Is : Base → Step → Type 0} (old new : LockedView D R) (noted notes : List ℕ) (found : List (Entry (BookView D R))) → found ≡ entries_of m old → Grows m Is left old new noted notes → IsPrefix found (entries_of m new)
  grows_prefix old new noted notes found is g = subst (λ l. IsPrefix l (entries_of m new)) (sym is) (_, sym g.entries)

module _ {D R W : Type 0} (m : Meaning) (task_of : W → Task) (clock left : Option ℕ) (o : BookView D R) (bot : List ℕ) (i : ℕ) (k : Known (Entry (BookView D R))) (worker : Instance W) (gave : Option Done) (at : IsAtWork m task_of clock left o bot i k worker gave)
    (old : LockedView D R) (found : List (Entry (BookView D R))) (is : found ≡ entries_of m old) (front : IsPrefix k.seen found) where
  on : IsPrefix (entries_of m at.v) (entries_of m old)
  on = finds m (IsInstanceStep clock bot i) left o k at.v old found at.part.seen is front

  pub finds_ready : IfSome worker.ready (IsReadyFor m task_of old bot)
  finds_ready = some_on worker.ready (λ (r : Ready W) is. ready_seen m task_of at.v old bot r on is) at.ready

  pub finds_done : IfSome gave (IsDone m old bot)
  finds_done = some_on gave (λ (d : Done) is. done_seen m at.v old bot d on is) at.done

  -- a hold
  pub held_on : (new : LockedView D R) (worker' : Instance W) (came : Turned) → AllAt found k.mine → old.book.state ≡ replay m old.opening.state old.made
      → (old.mark ≢ None → (new ≡ old) × (worker' ≡ worker)) → (old.mark ≡ None → Adds m (IsInstanceStep clock bot i) old new worker.steps.items worker'.steps.items)
      → IfSome left (λ most. (new.made ≡ old.made) ⊎ (length new.made ≤ most)) → (worker'.bot ≡ bot) × (worker'.number ≡ i) → IfSome worker'.ready (IsReadyFor m task_of new bot)
      → IsTurned m task_of left old new worker'.bot worker'.number worker'.ready came → HasHeld m task_of clock left o bot i (grown k found (entries_of m new)) worker' came
  held_on new worker' came mine state still adds few same ready to =
      let g = grows {left = left} old new worker.steps.items worker'.steps.items (λ some. let s = still some in (s.0, ap (λ (w : Instance W). w.steps.items) s.1)) adds few in
      let now : new.book.state ≡ replay m o.state new.made = state_on old new _ _ state g ∙ ap (λ (b : BookView D R). replay m b.state new.made) (g.opening ∙ same_opening m at.v old on ∙ at.part.seen.opening) in
      record {
        at = record {
          v = new;
          part = holds_on m (IsInstanceStep clock bot i) left o k worker.steps.items worker'.steps.items at.v old new found at.part is front mine state g;
          bot_is = same.0;
          number = same.1;
          ready = ready;
          done = tt;
        };
        came = came_to came now to;
      }
    where
      came_to : (t : Turned) → new.book.state ≡ replay m o.state new.made → IsTurned m task_of left old new worker'.bot worker'.number worker'.ready t → IsComeTo m left o bot i new worker'.ready t
      came_to (turned.Holds job) now to = some_and worker'.ready (λ (r : Ready W) is. is.0) to.1.is_ready
      came_to (turned.Retried delay) now to = tt
      came_to (turned.Nothing at idle) now to =
          (to.1 ∙ ap (λ (s : Base). s.steps) now, subst (λ (s : Base). HasNoStep m s bot i) now (subst (λ (b : List ℕ). HasNoStep m new.book.state b i) same.0 (subst (λ (n : ℕ). HasNoStep m new.book.state worker'.bot n) same.1 to.3)))
      came_to (turned.Ended cause) now to = over left old new cause (λ some. (still some).0) to

  -- a look
  pub looked_on : (now : Option EndMark) → AllAt found k.mine → old.book.state ≡ replay m old.opening.state old.made → now ≡ old.mark → gave ≡ None → HasLooked m task_of clock left o bot i (grown k found (entries_of m old)) worker now
  looked_on now mine state is_mark none =
      record {
        at = record {
          v = old;
          part = looks_on m (IsInstanceStep clock bot i) left o k worker.steps.items at.v old found at.part is front mine state;
          bot_is = at.bot_is;
          number = at.number;
          ready = finds_ready;
          done = tt;
        };
        mark = mark_is now is_mark;
      }
    where
      mark_is : (x : Option EndMark) → x ≡ old.mark → IfSome x (λ mark. old.mark ≡ Some mark)
      mark_is None e = tt
      mark_is (Some x) e = sym e

ok_on : {A E : Type 0} {P Q : A → Type 0} (r : Result A E) → ((a : A) → P a → Q a) → IfOk r P → IfOk r Q
ok_on (Ok a) f p = f a p
ok_on (Err e) f p = tt

module _ {D R W E : Type 0} (m : Meaning) (task_of : W → Task) (v : LockedView D R) (bot : List ℕ) (job : Job) (r : Result Done E) where
  -- what was computed of a message
  worked_on : (a b : Option (Ready W)) → IfSome a (IsReadyFor m task_of v bot) → IsSomeAnd a (λ x. x.bundle ≡ job.bundle)
      → IsSomeAnd a (λ old. IsSomeAnd b (λ new. (new.bundle ≡ old.bundle) × (task_of new.work ≡ task_of old.work) × IfOk r (λ done. (done.job ≡ job) × (done.given ≡ m.give (task_of old.work) job.message.body job.since.0))))
      → IfSome b (IsReadyFor m task_of v bot) × IfOk r (IsDone m v bot)
  worked_on None b ready number clause = absurd number
  worked_on (Some old) None ready number clause = absurd clause
  worked_on (Some old) (Some new) ready number clause =
      (ready_kept m task_of v bot old new clause.0 clause.1 ready, ok_on r (λ (d : Done) is. computed m task_of v bot old job d ready number is.0 is.1) clause.2)

module _ {D R W : Type 0} (m : Meaning) (task_of : W → Task) (clock left : Option ℕ) (o : BookView D R) (bot : List ℕ) (i : ℕ) (k : Known (Entry (BookView D R))) where
  -- without what was computed
  pub idle : (worker : Instance W) (gave : Option Done) → IsAtWork m task_of clock left o bot i k worker gave → IsAtWork m task_of clock left o bot i k worker None
  idle worker gave at = record { v = at.v; part = at.part; bot_is = at.bot_is; number = at.number; ready = at.ready; done = tt }

  module _ {E : Type 0} (worker : Instance W) (ready : Option (Ready W)) (job : Job) (r : Result Done E) (h : HasHeld m task_of clock left o bot i k worker (turned.Holds job))
      (clause : IsSomeAnd worker.ready (λ old. IsSomeAnd ready (λ new. (new.bundle ≡ old.bundle) × (task_of new.work ≡ task_of old.work) × IfOk r (λ done. (done.job ≡ job) × (done.given ≡ m.give (task_of old.work) job.message.body job.since.0))))) where
    both : IfSome ready (IsReadyFor m task_of h.at.v bot) × IfOk r (IsDone m h.at.v bot)
    both = worked_on m task_of h.at.v bot job r worker.ready ready h.at.ready h.came clause

    pub gave_ok : (d : Done) → r ≡ Ok d → IsDone m h.at.v bot d
    gave_ok d ok = subst (λ (x : Result Done E). IfOk x (IsDone m h.at.v bot)) ok both.1

  -- a part rests
  pub rests : (worker : Instance W) (at_steps : ℕ) (idle : Bool) (h : HasHeld m task_of clock left o bot i k worker (turned.Nothing at_steps idle)) → IsWhy m left (InstanceEnds m bot i) o.state h.at.v.made h.at.v.mark (why.Quiet at_steps)
  rests worker at_steps idle h = record { front = h.at.v.made; rest = []; splits = sym (append-nil h.at.v.made); is = (h.came.0, h.came.1) }

  -- an instance goes on, or its part ends
  pub acted : (work : Work W) (at : IsAtWork m task_of clock left o bot i k work.worker None) → work.done ≡ None → (cause : Option Why) → IfSome cause (IsWhy m left (InstanceEnds m bot i) o.state at.v.made at.v.mark) → HasActed m task_of clock left o bot i k work cause
  acted work at none cause why = record {
    at = record { v = at.v; part = at.part; bot_is = at.bot_is; number = at.number; ready = at.ready; done = subst (λ (d : Option Done). IfSome d (IsDone m at.v bot)) (sym none) tt };
    why = why;
  }

  pub acted_worked : {E : Type 0} (work : Work W) (worker : Instance W) (job : Job) (r : Result Done E) (h : HasHeld m task_of clock left o bot i k worker (turned.Holds job)) → work.worker ≡ record worker { ready = work.worker.ready }
      → IsSomeAnd worker.ready (λ old. IsSomeAnd work.worker.ready (λ new. (new.bundle ≡ old.bundle) × (task_of new.work ≡ task_of old.work) × IfOk r (λ done. (done.job ≡ job) × (done.given ≡ m.give (task_of old.work) job.message.body job.since.0))))
      → IfSome work.done (IsDone m h.at.v bot) → (cause : Option Why) → IfSome cause (IsWhy m left (InstanceEnds m bot i) o.state h.at.v.made h.at.v.mark) → HasActed m task_of clock left o bot i k work cause
  acted_worked work worker job r h same clause done cause why = record {
    at = record {
      v = h.at.v;
      part = subst (λ (w : Instance W). IsPart m (IsInstanceStep clock bot i) left o k w.steps.items h.at.v) (sym same) h.at.part;
      bot_is = ap (λ (w : Instance W). w.bot) same ∙ h.at.bot_is;
      number = ap (λ (w : Instance W). w.number) same ∙ h.at.number;
      ready = (both worker work.worker.ready job r h clause).0;
      done = done;
    };
    why = why;
  }

-- an instance by the names that it has
module _ {D R W : Type 0} (m : Meaning) (task_of : W → Task) (clock left : Option ℕ) (o : BookView D R) (bot : List ℕ) (i : ℕ) (k : Known (Entry (BookView D R))) where
  pub by_its_names : (worker : Instance W) (gave : Option Done) → IsAtWork m task_of clock left o bot i k worker gave → IsAtWork m task_of clock left o worker.bot worker.number k worker gave
  by_its_names worker gave at =
      subst (λ (b : List ℕ). IsAtWork m task_of clock left o b worker.number k worker gave) (sym at.bot_is) (subst (λ (n : ℕ). IsAtWork m task_of clock left o bot n k worker gave) (sym at.number) at)

  pub by_these_names : (worker : Instance W) (work : Work W) (cause : Option Why) → worker.bot ≡ bot → worker.number ≡ i → HasActed m task_of clock left o worker.bot worker.number k work cause → HasActed m task_of clock left o bot i k work cause
  by_these_names worker work cause bot_is number acts =
      subst (λ (n : ℕ). HasActed m task_of clock left o bot n k work cause) number (subst (λ (b : List ℕ). HasActed m task_of clock left o b worker.number k work cause) bot_is acts)

  pub has_ended : (work : Work W) (steps : List ℕ) (cause : Why) → steps ≡ work.worker.steps.items → HasActed m task_of clock left o bot i k work (Some cause) → HasEnded m (IsInstanceStep clock bot i) left (InstanceEnds m bot i) o k steps cause
  has_ended work steps cause same acts = record { v = acts.at.v; part = subst (λ (ns : List ℕ). IsPart m (IsInstanceStep clock bot i) left o k ns acts.at.v) (sym same) acts.at.part; why = acts.why }

pub begins_work : {D R W : Type 0} (m : Meaning) (task_of : W → Task) (clock left : Option ℕ) (begun : LockedView D R) (k : Known (Entry (BookView D R))) (worker : Instance W) → worker.ready ≡ None → worker.steps.items ≡ [] → IsNew m begun k
    → IsAtWork m task_of clock left begun.opening worker.bot worker.number k worker None
begins_work m task_of clock left begun k worker unready none new = record {
  v = begun;
  part = subst (λ (ns : List ℕ). IsPart m (IsInstanceStep clock worker.bot worker.number) left begun.opening k ns begun) (sym none) (begins m (IsInstanceStep clock worker.bot worker.number) left begun k new);
  bot_is = refl;
  number = refl;
  ready = subst (λ (r : Option (Ready _)). IfSome r (IsReadyFor m task_of begun worker.bot)) (sym unready) tt;
  done = tt;
}
