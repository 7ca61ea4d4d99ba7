-- Laps: a drain's turn, and a round of all workers; and the orders that are carried out between them.
use Rattle.std.specs.Prelude.{◌≡◌, ◌≤◌, ◌++◌, ℕ, zero, suc, List, length, Option, Some, None, IfSome, Result, MatchResult}
use Rattle.edge_traits.specs.Disk.{DiskView}
use Rattle.edge_traits.specs.Shelf.{ShelfView}
use Rattle.edge_traits.specs.Sink.{SinkView}
use Rattle.step_code.specs.declared.step.Step.{Step}
use Rattle.journal_book.specs.Book.{BookView}
use Rattle.book_runs.specs.GoesOn.{GoesOn}
use Rattle.drain_turns.specs.Drained.{Drains}
use Rattle.drain_turns.specs.Turn.{Outside}
use Rattle.drain_turns.specs.declared.end.TurnsEnd.{TurnsEnd}
use Rattle.drain_loop.specs.Calls.{place_with}
use Rattle.live_reload.specs.Followed.{orders_in, HasFollowed}
use Rattle.live_reload.specs.declared.end.OrdersEnd.{OrdersEnd}
use Rattle.live_reload.specs.declared.order.Order.{Order}
use Rattle.live_reload.specs.declared.word.Word.{Word}
use Rattle.run_command.specs.Runs.{carried_in, kinds_of, left_behind, steps_in, AreOrdered, AreParts, AreWorkerSteps, EndsAfter, RunEnds, Runs}
use Rattle.drain_command.specs.Turned.{IsTurned}
use Rattle.drain_command.specs.declared.draining.Asked.{Asked}
use Rattle.run_command.specs.Said.{IsSaid}

-- the workers made these steps, no more than may be
pub record IsWorkedOn {D R : Type 0} (disk : D → DiskView) (o : Outside) (left : Option ℕ) (old new : BookView D R) : Type 0 where
  pub made : List Step
  pub goes_on : GoesOn disk o.meaning old new made
  pub own : AreWorkerSteps o old.state made
  pub few : IfSome left (λ most. length made ≤ most)

-- they did, and so many may still be made; or the call ends behind them
pub record HasLapped {D R : Type 0} (disk : D → DiskView) (o : Outside) (left : Option ℕ) (old new : BookView D R) (result : Result (Option ℕ) TurnsEnd) : Type 0 where
  pub worked : IsWorkedOn disk o left old new
  pub ends : MatchResult result (λ now. now ≡ left_behind left (length worked.made)) (EndsAfter o left old.state worked.made)

-- at most one step, of those that may be made
abbrev pub one_at_most : Option ℕ → Option ℕ
one_at_most None = Some 1
one_at_most (Some zero) = Some 0
one_at_most (Some (suc more)) = Some 1

-- ---- orders

-- an order was carried out, and so many steps may still be made; or the call ends within it
pub record IsObeyed {D R : Type 0} (disk : D → DiskView) (o : Outside) (left : Option ℕ) (old new : BookView D R) (given : Order) (result : Result (Option ℕ) TurnsEnd) : Type 0 where
  pub made : List Step
  pub goes_on : GoesOn disk o.meaning old new made
  pub came : MatchResult result (λ now. AreOrdered o old.state (kinds_of o.meaning old.state given) made × IfSome left (λ most. length made ≤ most) × (now ≡ left_behind left (length made)))
      (λ why. Drains o (place_with (kinds_of o.meaning old.state given) old left) made why)

-- behind these lines of control more lines were taken: workers made steps, and the orders that they give were carried out between them
pub record HasGoneOn {D R : Type 0} (disk : D → DiskView) (o : Outside) (left : Option ℕ) (old new : BookView D R) (control : Option (List ℕ)) (seen : ShelfView) (before after : SinkView) (taken : ℕ) (lines : List (Word × Order)) (now : Option ℕ) : Type 0 where
  pub more : List (Word × Order)
  pub follows : HasFollowed control o.shelf seen before after taken (lines ++ more)
  pub parts : List (Option Order × List Step)
  pub goes_on : GoesOn disk o.meaning old new (steps_in parts)
  pub own : AreParts o old.state parts
  pub few : IfSome left (λ most. length (steps_in parts) ≤ most)
  pub carried : carried_in parts ≡ orders_in more
  pub left_is : now ≡ left_behind left (length (steps_in parts))

-- and then the run ends
pub record HasEnded {D R : Type 0} (disk : D → DiskView) (o : Outside) (left : Option ℕ) (old new : BookView D R) (control : Option (List ℕ)) (seen : ShelfView) (before after : SinkView) (by : OrdersEnd) (lines : List (Word × Order)) (why : TurnsEnd) : Type 0 where
  pub more : List (Word × Order)
  pub said : IsSaid control o.shelf seen before after by (lines ++ more)
  pub parts : List (Option Order × List Step)
  pub rest : List Step
  pub goes_on : GoesOn disk o.meaning old new (steps_in parts ++ rest)
  pub own : AreParts o old.state parts
  pub few : IfSome left (λ most. length (steps_in parts) ≤ most)
  pub ends : RunEnds o left old.state (steps_in parts) by (orders_in more) (carried_in parts) rest why

abbrev pub HasStepped : {D R : Type 0} → (D → DiskView) → Outside → Option ℕ → BookView D R → BookView D R → Option (List ℕ) → ShelfView → SinkView → SinkView → ℕ → OrdersEnd → List (Word × Order) → Result (Option ℕ) TurnsEnd → Type 0
HasStepped disk o left old new control seen before after taken by lines result =
    MatchResult result (HasGoneOn disk o left old new control seen before after taken lines) (HasEnded disk o left old new control seen before after by lines)

-- a run's calls of a book made steps as they are told to be made, those of the opening first, with these lines of control, and they end so
pub record HasTurned {D R : Type 0} (disk : D → DiskView) (o : Outside) (asked : Asked) (old new : BookView D R) (control : Option (List ℕ)) (seen : ShelfView) (before after : SinkView) (by : OrdersEnd) (why : TurnsEnd) : Type 0 where
  pub lines : List (Word × Order)
  pub said : IsSaid control o.shelf seen before after by lines
  pub turned : IsTurned disk (Runs by (orders_in lines)) o asked old new why
