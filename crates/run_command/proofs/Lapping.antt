-- Laps, one behind the other.
use Rattle.std.proofs.Common.{◌≡◌, ◌≤◌, ◌+◌, ◌++◌, ℕ, List, [], ◌∷◌, length, Option, Some, None, IfSome, Result, Ok, Err, inl, inr, refl, sym, ap, subst, ◌∙◌, arith, length-append}
use Rattle.edge_traits.specs.Disk.{DiskView, Image, IsImage}
use Rattle.edge_traits.specs.Shelf.{count_on, ShelfView}
use Rattle.collector_feeds.specs.Standing.{RoseBy}
use Rattle.step_code.specs.declared.base.Base.{Base}
use Rattle.step_code.specs.declared.rules.Facts.{Facts}
use Rattle.step_code.specs.declared.step.Step.{Step}
use Rattle.step_code.specs.After.{after}
use Rattle.step_code.specs.History.{replay}
use Rattle.store_image.specs.Stands.{IsSealOf}
use Rattle.store_image.proofs.Histories.{seal_kept, seals, seals_on}
use Rattle.store_image.proofs.Standing.{replay-append}
use Rattle.journal_book.specs.Book.{BookView}
use Rattle.book_runs.specs.GoesOn.{GoesOn}
use Rattle.book_runs.proofs.Going.{goes_further, goes_nowhere}
use Rattle.drain_turns.specs.Turn.{Outside}
use Rattle.drain_turns.specs.declared.end.TurnsEnd.{TurnsEnd}
use Rattle.worker_turns.proofs.Holding.{own_on}
use Rattle.drain_turns.specs.declared.end.TurnsEnd.TheVariants as end
use Rattle.drain_loop.specs.Calls.{place_of}
use Rattle.drain_loop.specs.Feeds.{FailedBeyond}
use Rattle.drain_command.proofs.Made.{still_runs}
use Rattle.run_command.specs.Laps.{HasLapped, IsWorkedOn}
use Rattle.run_command.specs.Runs.{left_behind, AreWorkerSteps, EndsAfter, IsWorkerStep}
use Rattle.run_command.proofs.Worked.{steps_replayed}

-- ---- a worker's step, whichever lines are sealed

pub own_whole : (o : Outside) (whole sealed : Base) (steps : List Step) → IsSealOf whole sealed → AreWorkerSteps o sealed steps → AreWorkerSteps o whole steps
own_whole o whole sealed [] seal own = tt
own_whole o whole sealed (step ∷ steps) seal own = (one own.0, own_whole o (after o.meaning whole step) (after o.meaning sealed step) steps (seal_kept o.meaning whole sealed step seal) own.1)
  where
    with_outs : IsWorkerStep o (record whole { outs = sealed.outs }) step → IsWorkerStep o whole step
    with_outs (inl (bot, i, is)) = inl (bot, i, record { stamped = is.stamped; is = is.is })
    with_outs (inr (bot, file, is)) = inr (bot, file, record { stamped = is.stamped; is = is.is })

    one : IsWorkerStep o sealed step → IsWorkerStep o whole step
    one is = with_outs (subst (λ (s : Base). IsWorkerStep o s step) seal.same is)

-- ---- how many are left

pub less_still : (left : Option ℕ) (a b : ℕ) → left_behind (left_behind left a) b ≡ left_behind left (a + b)
less_still None a b = refl
less_still (Some n) a b = ap (λ (k : ℕ). Some k) (omega arith)

pub few_still : (left : Option ℕ) (a b : ℕ) → IfSome left (λ most. a ≤ most) → IfSome (left_behind left a) (λ most. b ≤ most) → IfSome left (λ most. a + b ≤ most)
few_still None a b x y = tt
few_still (Some n) a b x y = omega (arith, x, y)

pub few_lists : (left : Option ℕ) (front rest : List Step) → IfSome left (λ most. length front ≤ most) → IfSome (left_behind left (length front)) (λ most. length rest ≤ most) → IfSome left (λ most. length (front ++ rest) ≤ most)
few_lists left front rest x y = subst (λ (n : ℕ). IfSome left (λ most. n ≤ most)) (sym (length-append front rest)) (few_still left (length front) (length rest) x y)

pub left_lists : (left : Option ℕ) (front rest : List Step) → left_behind (left_behind left (length front)) (length rest) ≡ left_behind left (length (front ++ rest))
left_lists left front rest = less_still left (length front) (length rest) ∙ ap (left_behind left) (sym (length-append front rest))

pub all_left : (left : Option ℕ) → left ≡ left_behind left 0
all_left None = refl
all_left (Some n) = ap (λ (k : ℕ). Some k) (omega arith)

-- ---- one behind the other

-- an end behind steps, and others ahead of these
pub ends_further : (o : Outside) (left : Option ℕ) (s t : Base) (front rest : List Step) (why : TurnsEnd) → IfSome left (λ most. length front ≤ most) → IsSealOf (replay o.meaning s front) t → EndsAfter o (left_behind left (length front)) t rest why
    → EndsAfter o left s (front ++ rest) why
ends_further o left s t front rest why few seal ends = record {
  few = few_lists left front rest few ends.few;
  here = ends.here;
  opened = ends.opened;
  left_is = ends.left_is ∙ left_lists left front rest;
  state = subst (λ (b : Base). IsSealOf b ends.here.state) (sym (replay-append o.meaning s front rest)) (seals_on (replay o.meaning (replay o.meaning s front) rest) (replay o.meaning t rest) ends.here.state (seals o.meaning (replay o.meaning s front) t rest seal) ends.state);
  shelf = ends.shelf;
  told = ends.told;
  ends = ends.ends;
}

module _ {D R : Type 0} {disk : D → DiskView} (o : Outside) where
  -- nothing was done
  pub works_nothing : (left : Option ℕ) (book : BookView D R) → ((image : Image) → (disk book.disk).left_since (disk book.disk).moment image → IsImage (disk book.disk).may_leave image) → IsWorkedOn disk o left book book
  works_nothing left book only = record { made = []; goes_on = goes_nowhere book only; own = tt; few = few_none left }
    where
      few_none : (l : Option ℕ) → IfSome l (λ most. 0 ≤ most)
      few_none None = tt
      few_none (Some n) = omega arith

  -- more was done
  pub works_more : (left : Option ℕ) (old mid new : BookView D R) (front : IsWorkedOn disk o left old mid) → IsWorkedOn disk o (left_behind left (length front.made)) mid new → IsWorkedOn disk o left old new
  works_more left old mid new front rest = record {
    made = front.made ++ rest.made;
    goes_on = goes_further old mid new front.made rest.made front.goes_on rest.goes_on;
    own = own_on o.meaning (IsWorkerStep o) old.state front.made rest.made front.own (own_whole o (replay o.meaning old.state front.made) mid.state rest.made front.goes_on.state rest.own);
    few = few_lists left front.made rest.made front.few rest.few;
  }

  -- laps
  pub laps_more : (left : Option ℕ) (old mid new : BookView D R) (r : Result (Option ℕ) TurnsEnd) (front : IsWorkedOn disk o left old mid) → HasLapped disk o (left_behind left (length front.made)) mid new r → HasLapped disk o left old new r
  unfolding works_more
  laps_more left old mid new (Ok now) front rest = record { worked = works_more left old mid new front rest.worked; ends = rest.ends ∙ left_lists left front.made rest.worked.made }
  laps_more left old mid new (Err why) front rest = record {
    worked = works_more left old mid new front rest.worked;
    ends = ends_further o left old.state mid.state front.made rest.worked.made why front.few front.goes_on.state rest.ends;
  }

  -- the steps are counted
  pub steps_worked : (left : Option ℕ) (old new : BookView D R) (done : IsWorkedOn disk o left old new) → new.state.steps ≡ old.state.steps + length done.made
  steps_worked left old new done = ap (λ (s : Base). s.steps) done.goes_on.state.same ∙ steps_replayed o.meaning old.state done.made

  -- a call that makes none, behind others
  pub still_worked : (left : Option ℕ) (old mid new : BookView D R) → IsWorkedOn disk o left old mid → GoesOn disk o.meaning mid new [] → IsWorkedOn disk o left old new
  still_worked left old mid new done still = record { made = done.made; goes_on = still_runs o.meaning old mid new done.made done.goes_on still; own = done.own; few = done.few }

  -- the workers worked, and so many steps may still be made
  pub lapped_on : (left now : Option ℕ) (old new : BookView D R) (done : IsWorkedOn disk o left old new) → now ≡ left_behind left (length done.made) → HasLapped disk o left old new (Ok now)
  lapped_on left now old new done is = record { worked = done; ends = is }

  -- no lap yet
  pub laps_none : (left : Option ℕ) (book : BookView D R) → ((image : Image) → (disk book.disk).left_since (disk book.disk).moment image → IsImage (disk book.disk).may_leave image) → HasLapped disk o left book book (Ok left)
  unfolding works_nothing
  laps_none left book only = record { worked = works_nothing left book only; ends = all_left left }

  -- or the disk failed
  pub lapped_off : (left : Option ℕ) (old new : BookView D R) → IsWorkedOn disk o left old new → HasLapped disk o left old new (Err end.Disk)
  lapped_off left old new done = record {
    worked = done;
    ends = record {
      few = done.few;
      here = place_of new (left_behind left (length done.made));
      opened = refl;
      left_is = refl;
      state = done.goes_on.state;
      shelf = o.shelf;
      told = refl;
      ends = tt;
    };
  }

-- ---- a feed's failures

-- a count that rose since a later moment rose since an earlier one
pub failed_since : (collectors : List Facts) (old mid new : ShelfView) (name : List ℕ) → count_on old name ≤ count_on mid name → FailedBeyond collectors mid new name → FailedBeyond collectors old new name
failed_since collectors old mid new name fewer is = record { facts = is.facts; among = is.among; reads = is.reads; rose = go is.rose }
  where
    go : RoseBy (is.facts.retries + 1) (count_on mid name) (count_on new name) → RoseBy (is.facts.retries + 1) (count_on old name) (count_on new name)
    go (inl more) = inl (omega (arith, more, fewer))
    go (inr most) = inr most
