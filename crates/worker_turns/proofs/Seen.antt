-- What a worker knew after one hold holds in what it finds at the next.
use Rattle.std.proofs.Common.{◌≡◌, ℕ, List, [], ◌∷◌, ◌++◌, Option, Some, None, refl, sym, ap, subst, ◌∙◌, append_assoc}
use mathlib.Core.List.{IsPrefix}
use Rattle.step_code.specs.declared.base.Base.{Base}
use Rattle.step_code.specs.declared.step.Step.{Step}
use Rattle.step_code.specs.After.{after}
use Rattle.step_code.specs.History.{replay}
use Rattle.step_code.specs.Rules.{Meaning, Task}
use Rattle.journal_book.specs.Book.{BookView}
use Rattle.locked_book.specs.Entries.{entries_of, made_entries, mark_entries}
use Rattle.locked_book.specs.Locked.{LockedView}
use Rattle.locked_book.specs.declared.entry.EndMark.{EndMark}
use Rattle.locked_book.specs.declared.entry.Entry.{Entry}
use Rattle.worker_turns.specs.Collecting.{IsSight}
use Rattle.worker_turns.specs.Holds.{IsDone, IsReadyFor, WasInForce}
use Rattle.worker_turns.specs.declared.job.Done.{Done}
use Rattle.worker_turns.specs.declared.job.Job.{Job}
use Rattle.worker_turns.specs.declared.job.Ready.{Ready}
use Rattle.worker_turns.specs.declared.place.Sight.{Sight}

-- a list that begins with these steps has these steps, and others after them
pub steps_on : {B : Type 0} (m : Meaning) (s : Base) (made later : List Step) (mark : Option EndMark) (more : List (Entry B)) → made_entries m s made ++ more ≡ made_entries m s later ++ mark_entries mark → (rest : List Step) × (later ≡ made ++ rest)
steps_on m s [] later mark more is = (later, refl)
steps_on m s (step ∷ made) [] None more is = absurd (cc)
steps_on m s (step ∷ made) [] (Some end) more is = absurd (cc)
steps_on m s (step ∷ made) (other ∷ later) mark more is =
    let same : other ≡ step = cc in
    let tail : made_entries m (after m s step) made ++ more ≡ made_entries m (after m s other) later ++ mark_entries mark = cc in
    let rest = steps_on m (after m s step) made later mark more (subst (λ (w : Step). made_entries m (after m s step) made ++ more ≡ made_entries m (after m s w) later ++ mark_entries mark) same tail) in
    (rest.0, ap (λ (w : Step). w ∷ later) same ∙ ap (λ ss. step ∷ ss) rest.1)

module _ {D R : Type 0} (m : Meaning) where
  same_opening : (v later : LockedView D R) → IsPrefix (entries_of m v) (entries_of m later) → later.opening ≡ v.opening
  same_opening v later prefix = let is = prefix.1 in cc

  made_later : (v later : LockedView D R) → IsPrefix (entries_of m v) (entries_of m later) → (rest : List Step) × (later.made ≡ v.made ++ rest)
  made_later v later prefix =
      let same = same_opening v later prefix in
      let tail : (made_entries m v.opening.state v.made ++ mark_entries v.mark) ++ prefix.0 ≡ made_entries m later.opening.state later.made ++ mark_entries later.mark = let is = prefix.1 in cc in
      steps_on m v.opening.state v.made later.made later.mark (mark_entries v.mark ++ prefix.0)
      (sym (append_assoc (made_entries m v.opening.state v.made) (mark_entries v.mark) prefix.0) ∙ tail ∙ ap (λ (b : BookView D R). made_entries m b.state later.made ++ mark_entries later.mark) same)

  was_seen : (v later : LockedView D R) (n : ℕ) (b : List ℕ) → IsPrefix (entries_of m v) (entries_of m later) → WasInForce m v n b → WasInForce m later n b
  was_seen v later n b prefix was =
      let same = same_opening v later prefix in let on = made_later v later prefix in
      record {
        front = was.front;
        rest = was.rest ++ on.0;
        splits = on.1 ∙ ap (λ (ss : List Step). ss ++ on.0) was.splits ∙ append_assoc was.front was.rest on.0;
        number = ap (λ (o : BookView D R). (replay m o.state was.front).bundle_no) same ∙ was.number;
        bundle = ap (λ (o : BookView D R). (replay m o.state was.front).bundle) same ∙ was.bundle;
      }

  pub ready_seen : {W : Type 0} (task_of : W → Task) (v later : LockedView D R) (bot : List ℕ) (ready : Ready W) → IsPrefix (entries_of m v) (entries_of m later) → IsReadyFor m task_of v bot ready → IsReadyFor m task_of later bot ready
  ready_seen task_of v later bot ready prefix is = record { bot_is = is.bot_is; was = was_seen v later _ _ prefix is.was }

  pub done_seen : (v later : LockedView D R) (bot : List ℕ) (done : Done) → IsPrefix (entries_of m v) (entries_of m later) → IsDone m v bot done → IsDone m later bot done
  done_seen v later bot done prefix is = record { bundle = is.bundle; was = was_seen v later _ _ prefix is.was; gave = is.gave }

  -- a bot that gave something of a message is ready as before
  pub ready_kept : {W : Type 0} (task_of : W → Task) (v : LockedView D R) (bot : List ℕ) (old new : Ready W) → new.bundle ≡ old.bundle → task_of new.work ≡ task_of old.work → IsReadyFor m task_of v bot old → IsReadyFor m task_of v bot new
  ready_kept task_of v bot old new number task is = record {
    bot_is = ap (λ (t : Task). t.bot) task ∙ is.bot_is;
    was = subst (λ (n : ℕ). WasInForce m v n (task_of new.work).bundle) (sym number) (subst (λ (t : Task). WasInForce m v old.bundle t.bundle) (sym task) is.was);
  }

  -- what a bot that is ready gave of a message, under the bundle of whose number it is
  pub computed : {W : Type 0} (task_of : W → Task) (v : LockedView D R) (bot : List ℕ) (ready : Ready W) (job : Job) (done : Done) → IsReadyFor m task_of v bot ready → ready.bundle ≡ job.bundle
      → done.job ≡ job → done.given ≡ m.give (task_of ready.work) job.message.body job.since.0 → IsDone m v bot done
  computed task_of v bot ready job done knows number same gave =
      let bundle = (task_of ready.work).bundle in
      record {
        bundle = bundle;
        was = subst (λ (j : Job). WasInForce m v j.bundle bundle) (sym same) (subst (λ (n : ℕ). WasInForce m v n bundle) number knows.was);
        gave = subst (λ (j : Job). done.given ≡ m.give (record { bundle = bundle; bot = bot }) j.message.body j.since.0) (sym same) (gave ∙ ap (λ (b : List ℕ). m.give (record { bundle = bundle; bot = b }) job.message.body job.since.0) knows.bot_is);
      }

  -- what was found at a place of a feed
  pub sight_seen : (v later : LockedView D R) (bot file : List ℕ) (sight : Sight) → IsPrefix (entries_of m v) (entries_of m later) → IsSight m v bot file sight → IsSight m later bot file sight
  sight_seen v later bot file sight prefix is = record {
    place = record { bundle = is.place.bundle; was = was_seen v later _ _ prefix is.place.was; facts = is.place.facts; file_is = is.place.file_is; near = is.place.near; some = is.place.some; chunk = is.place.chunk };
    ahead = is.ahead;
    there = is.there;
  }
