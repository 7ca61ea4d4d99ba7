-- The end of a drain's turn of which at most one step may be made, as an end of the call.
use Rattle.std.proofs.Common.{◌≡◌, ◌≢◌, ◌≤◌, ◌-◌, ℕ, zero, suc, Bool, true, false, List, [], ◌∷◌, drop, length, Option, Some, None, IfSome, Err, option_map, refl, ap, ◌∙◌, arith, if◌then◌else◌}
use Rattle.core_state.specs.Sealing.{sealed_whole}
use Rattle.edge_traits.specs.Disk.{DiskView}
use Rattle.edge_traits.specs.Shelf.{ShelfView}
use Rattle.step_code.specs.declared.step.Step.{Step}
use Rattle.step_code.specs.After.{after}
use Rattle.step_code.specs.Rules.{AreSound}
use Rattle.step_code.specs.Spent.{spent}
use Rattle.step_code.specs.State.{bots_in_force}
use Rattle.store_image.specs.Stands.{IsSealOf}
use Rattle.store_image.proofs.Histories.{seal_kept, seals_self}
use Rattle.store_image.proofs.Renewed.{seals_whole}
use Rattle.journal_book.specs.Book.{BookView}
use Rattle.journal_book.specs.Renewing.{renewal_cause}
use Rattle.journal_book.specs.Staged.{first_cause}
use Rattle.journal_book.specs.declared.stage_refusal.StageRefusal.{StageRefusal}
use Rattle.book_runs.specs.Commit.{as_refusal, first_of}
use Rattle.book_runs.specs.GoesOn.{GoesOn}
use Rattle.drain_turns.specs.Drained.{begins_next, behind, bytes_behind, in_next, past, refused, Drains, Ends, IsDue, Place, Turns}
use Rattle.drain_turns.specs.Turn.{Outside}
use Rattle.drain_turns.specs.declared.end.TurnsEnd.{TurnsEnd}
use Rattle.drain_turns.specs.declared.end.TurnsEnd.TheVariants as end
use Rattle.drain_turns.specs.declared.turn.Turn.{Turn}
use Rattle.drain_loop.specs.Calls.{place_of, IsDrained}
use Rattle.run_command.specs.Laps.{one_at_most, HasLapped, IsWorkedOn}
use Rattle.run_command.specs.Runs.{left_behind, EndsAfter}
use Rattle.run_command.proofs.Lapping.{all_left}
use Rattle.run_command.proofs.Turned.{turn_is_own}

-- ---- a place from which another number of steps may be made

abbrev with_left : Place → Option ℕ → Place
with_left p left = record p { left = left }

-- the place behind a step
pub record IsBehind (o : Outside) (p : Place) (step : Step) : Type 0 where
  pub opening : (behind o p step).opening ≡ drop 1 p.opening
  pub left : (behind o p step).left ≡ option_map (λ n. n - 1) p.left
  pub state : IsSealOf (after o.meaning p.state step) (behind o p step).state

pub is_behind : (o : Outside) (p : Place) (step : Step) → IsBehind o p step
is_behind o p step = record { opening = opening_is (begins_next o p); left = left_is (begins_next o p); state = state_is (begins_next o p) }
  where
    opening_is : (next : Bool) → drop 1 (if next then in_next p else p).opening ≡ drop 1 p.opening
    opening_is true = refl
    opening_is false = refl

    left_is : (next : Bool) → option_map (λ n. n - 1) (if next then in_next p else p).left ≡ option_map (λ n. n - 1) p.left
    left_is true = refl
    left_is false = refl

    state_is : (next : Bool) → IsSealOf (after o.meaning p.state step) (past o.meaning (if next then in_next p else p) step).state
    state_is true = seal_kept o.meaning p.state (sealed_whole p.state) step (seals_whole p.state)
    state_is false = seals_self (after o.meaning p.state step)

abbrev refused_in : Outside → Step → Bool → Place → Option StageRefusal
refused_in o step next q =
    first_of (if next then as_refusal (renewal_cause q.generation q.root q.state) else None)
    (first_cause None (spent o.meaning (if next then in_next q else q).state step) (bytes_behind (if next then in_next q else q).bytes step) o.limit)

refused_same : (o : Outside) (p : Place) (left : Option ℕ) (step : Step) → refused o (with_left p left) step ≡ refused o p step
refused_same o p left step = go (begins_next o p)
  where
    go : (next : Bool) → refused_in o step next (with_left p left) ≡ refused_in o step next p
    go true = refl
    go false = refl

module _ (o : Outside) (p : Place) (left : Option ℕ) (none : left ≡ Some 0 → p.left ≡ Some 0) where
  turns_with : (turn : Turn) → Turns o p turn → Turns o (with_left p left) turn
  turns_with turn is = record { opened = is.opened; busy = is.busy; left = λ spent. is.left (none spent); is = is.is }

  due_with : (step : Step) → IsDue o p step → IsDue o (with_left p left) step
  due_with step is = record { busy = is.busy; left = λ spent. is.left (none spent); next = is.next; may = is.may; moment = is.moment }

  ends_with : (last : TurnsEnd) → (last ≡ end.Left → left ≡ Some 0) → Ends o p last → Ends o (with_left p left) last
  ends_with end.Idle spent is = is
  ends_with end.Left spent is = (is.0, spent refl)
  ends_with (end.Absent name) spent (bot, at, turns, file) = (bot, at, turns_with _ turns, file)
  ends_with (end.Failed name) spent is = tt
  ends_with (end.Short have need) spent (bot, turns) = (bot, turns_with _ turns)
  ends_with (end.LongLine bot line) spent (at, turns) = (at, turns_with _ turns)
  ends_with (end.LongFeed bot) spent (at, turns) = (at, turns_with _ turns)
  ends_with (end.Halted bot) spent (turns, halted) = (turns_with _ turns, halted)
  ends_with (end.Spent next) spent (step, due, cause) = (step, due_with step due, refused_same o p left step ∙ cause)
  ends_with (end.Full bytes) spent (step, due, cause) = (step, due_with step due, refused_same o p left step ∙ cause)
  ends_with (end.Damaged file at) spent is = tt
  ends_with end.Disk spent is = tt
  ends_with end.Memory spent is = tt

-- ---- one step at most

none_of : (left : Option ℕ) → left ≡ Some 0 → one_at_most left ≡ Some 0
none_of left is = ap one_at_most is

-- where a step may be made, none is left behind it
none_behind : (left : Option ℕ) → one_at_most left ≢ Some 0 → option_map (λ n. n - 1) (one_at_most left) ≡ Some 0
none_behind None some = refl
none_behind (Some zero) some = absurd (some refl)
none_behind (Some (suc n)) some = refl

one_of : (left : Option ℕ) → one_at_most left ≢ Some 0 → IfSome left (λ most. 1 ≤ most)
one_of None some = tt
one_of (Some zero) some = absurd (some refl)
one_of (Some (suc n)) some = omega arith

none_few : (left : Option ℕ) → IfSome left (λ most. 0 ≤ most)
none_few None = tt
none_few (Some n) = omega arith

-- a turn worked, and where it ended, unless only since its one step was made, the call ends
pub record IsTurnWorked {D R : Type 0} (disk : D → DiskView) (o : Outside) (left : Option ℕ) (old new : BookView D R) (last : TurnsEnd) : Type 0 where
  pub worked : IsWorkedOn disk o left old new
  pub ends : (last ≡ end.Left → left_behind left (length worked.made) ≡ Some 0) → EndsAfter o left old.state worked.made last

-- the outside with the shelf as it is then
abbrev now : Outside → ShelfView → Outside
now o seen = record o { shelf = seen }

module _ {D R : Type 0} {disk : D → DiskView} (o : Outside) (seen : ShelfView) (told : seen.told ≡ o.shelf.told) where
  pub one_turned : (left : Option ℕ) (old new : BookView D R) (last : TurnsEnd) → AreSound (bots_in_force o.meaning old.state) → IsDrained disk (now o seen) (one_at_most left) old new last → IsTurnWorked disk o left old new last
  one_turned left old new last sound is = go is.made is.drains is.goes_on
    where
      go : (made : List Step) → Drains (now o seen) (place_of old (one_at_most left)) made last → GoesOn disk o.meaning old new made → IsTurnWorked disk o left old new last
      go [] ends goes_on = record {
        worked = record { made = []; goes_on = goes_on; own = tt; few = none_few left };
        ends = λ spent. record {
          few = none_few left;
          here = place_of old left;
          opened = refl;
          left_is = all_left left;
          state = seals_self old.state;
          shelf = seen;
          told = told;
          ends = ends_with (now o seen) (place_of old (one_at_most left)) left (none_of left) last (λ same. all_left left ∙ spent same) ends;
        };
      }
      go (step ∷ []) (made, ends) goes_on =
          let there = is_behind (now o seen) (place_of old (one_at_most left)) step in
          let none = there.left ∙ none_behind left made.due.left in
          let few = one_of left made.due.left in
          record {
            worked = record { made = step ∷ []; goes_on = goes_on; own = (turn_is_own o seen old.state step told sound made.due.next made.due.moment, tt); few = few };
            ends = λ spent. record {
              few = few;
              here = with_left (behind (now o seen) (place_of old (one_at_most left)) step) (left_behind left 1);
              opened = there.opening;
              left_is = refl;
              state = there.state;
              shelf = seen;
              told = told;
              ends = ends_with (now o seen) (behind (now o seen) (place_of old (one_at_most left)) step) (left_behind left 1) (λ _. none) last spent ends;
            };
          }
      go (step ∷ other ∷ steps) (made, (second, rest)) goes_on =
          let there = is_behind (now o seen) (place_of old (one_at_most left)) step in
          absurd (second.due.left (there.left ∙ none_behind left made.due.left))

-- the call ends with a turn that didn't end only since its one step was made
pub turned_off : {D R : Type 0} {disk : D → DiskView} (o : Outside) (left : Option ℕ) (old new : BookView D R) (last : TurnsEnd) (turned : IsTurnWorked disk o left old new last) → (last ≡ end.Left → left_behind left (length turned.worked.made) ≡ Some 0) → HasLapped disk o left old new (Err last)
turned_off o left old new last turned spent = record { worked = turned.worked; ends = turned.ends spent }
