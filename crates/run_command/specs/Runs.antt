-- What `run` makes of a store, and why it ends.
use Rattle.std.specs.Prelude.{◌≡◌, ◌⊎◌, ◌≤◌, ◌-◌, ◌++◌, ℕ, List, [], ◌∷◌, length, map, true, Option, Some, None, IfSome, option_map}
use Rattle.edge_traits.specs.Shelf.{ShelfView, content_of}
use Rattle.step_code.specs.declared.base.Base.{Base}
use Rattle.step_code.specs.declared.step.Step.{Step}
use Rattle.step_code.specs.declared.step.StepKind.{StepKind}
use Rattle.step_code.specs.declared.step.StepKind.TheVariants as kind
use Rattle.step_code.specs.History.{replay}
use Rattle.step_code.specs.Rules.{Meaning}
use Rattle.store_image.specs.Stands.{IsSealOf}
use Rattle.drain_turns.specs.Drained.{Drains, Ends, Place}
use Rattle.drain_turns.specs.Turn.{IsStamped, Outside}
use Rattle.drain_turns.specs.declared.end.TurnsEnd.{TurnsEnd}
use Rattle.drain_turns.specs.declared.end.TurnsEnd.TheVariants as last
use Rattle.drain_loop.specs.Calls.{rounds_of}
use Rattle.worker_turns.specs.Collecting.{IsCollectorStep}
use Rattle.worker_turns.specs.Holds.{AreOwnFrom, IsInstanceStep}
use Rattle.live_reload.specs.declared.end.OrdersEnd.{OrdersEnd}
use Rattle.live_reload.specs.declared.end.OrdersEnd.TheVariants as end
use Rattle.live_reload.specs.declared.order.Order.{Order}
use Rattle.live_reload.specs.declared.order.Order.TheVariants as order

-- how many steps may still be made behind so many, where that is bounded
abbrev pub left_behind : Option ℕ → ℕ → Option ℕ
left_behind left n = option_map (λ most. most - n) left

-- ---- steps of workers

-- a worker's step: an instance of a bot ends its work on the message in its hand, or takes one; or a collector collects what stands at its
-- position in its feed, of which the shelf tells the content, or finds the feed's end there
abbrev pub IsWorkerStep : Outside → Base → Step → Type 0
IsWorkerStep o s step =
    ((bot : List ℕ) × (instance : ℕ) × IsInstanceStep o.clock bot instance s step)
    ⊎ ((bot : List ℕ) × (file : List ℕ) × IsCollectorStep o.meaning o.clock (content_of o.shelf file) bot file s step)

-- each of these steps is one, in the state that those before it lead to
abbrev pub AreWorkerSteps : Outside → Base → List Step → Type 0
AreWorkerSteps o s steps = AreOwnFrom o.meaning (IsWorkerStep o) s steps

-- ---- steps of orders

-- the steps that carry an order out: a reload, or a round of each collector that has read its feed to the end, in byte order
abbrev pub kinds_of : Meaning → Base → Order → List StepKind
kinds_of m s (order.Reload code) = kind.Reload code ∷ []
kinds_of m s order.Round = rounds_of m s true
kinds_of m s other = []

-- these are such steps, each at a moment that the clock shows
pub record AreOrdered (o : Outside) (s : Base) (kinds : List StepKind) (steps : List Step) : Type 0 where
  pub kinds_are : map (λ step. step.what) steps ≡ kinds
  pub stamped : AreOwnFrom o.meaning (λ t step. IsStamped o.clock t step) s steps

-- ---- both, one behind the other

-- steps that carry an order out, or steps of workers, where none is named
abbrev pub IsPart : Outside → Base → Option Order → List Step → Type 0
IsPart o s None steps = AreWorkerSteps o s steps
IsPart o s (Some order) steps = AreOrdered o s (kinds_of o.meaning s order) steps

abbrev pub AreParts : Outside → Base → List (Option Order × List Step) → Type 0
AreParts o s [] = Unit {0}
AreParts o s (part ∷ parts) = IsPart o s part.0 part.1 × AreParts o (replay o.meaning s part.1) parts

abbrev pub steps_in : List (Option Order × List Step) → List Step
steps_in [] = []
steps_in (part ∷ parts) = part.1 ++ steps_in parts

abbrev pub onto_given : Option Order → List Order → List Order
onto_given None orders = orders
onto_given (Some order) orders = order ∷ orders

-- the orders that were carried out
abbrev pub carried_in : List (Option Order × List Step) → List Order
carried_in [] = []
carried_in (part ∷ parts) = onto_given part.0 (carried_in parts)

-- ---- why a run ends

-- behind these steps, no more than may be made, a call ends for a cause of a drain's turns, with the shelf as it is then: at some place
-- of the state that they lead to, in which more lines of outputs may be sealed
pub record EndsAfter (o : Outside) (left : Option ℕ) (s : Base) (made : List Step) (why : TurnsEnd) : Type 0 where
  pub few : IfSome left (λ most. length made ≤ most)
  pub here : Place
  pub opened : here.opening ≡ []
  pub left_is : here.left ≡ left_behind left (length made)
  pub state : IsSealOf (replay o.meaning s made) here.state
  pub shelf : ShelfView
  pub told : shelf.told ≡ o.shelf.told
  pub ends : Ends (record o { shelf = shelf }) here why

-- behind these steps an order is given, of whose steps some are made, as a drain makes those that it opens with, and then there are no more
pub record EndsWithin (o : Outside) (left : Option ℕ) (s : Base) (made : List Step) (given : Order) (rest : List Step) (why : TurnsEnd) : Type 0 where
  pub here : Place
  pub opening : here.opening ≡ kinds_of o.meaning here.state given
  pub left_is : here.left ≡ left_behind left (length made)
  pub state : IsSealOf (replay o.meaning s made) here.state
  pub drains : Drains o here rest why

-- control or the output failed
abbrev pub HaveFailed : OrdersEnd → Type 0
HaveFailed end.Open = ⊥
HaveFailed end.AtEnd = ⊥
HaveFailed end.Control = Unit {0}
HaveFailed end.Sink = Unit {0}

-- why a run ends behind these steps, of the orders that were given these were carried out, and `rest` are steps of one more: for a cause of
-- turns, with nothing left to do only where control was read to its end; since `stop` was given; within an order; or since no more orders
-- are to be had
abbrev pub RunEnds : Outside → Option ℕ → Base → List Step → OrdersEnd → List Order → List Order → List Step → TurnsEnd → Type 0
RunEnds o left s made by given carried rest why =
    ((rest ≡ []) × (given ≡ carried) × (why ≡ last.Idle → by ≡ end.AtEnd) × EndsAfter o left s made why)
    ⊎ ((rest ≡ []) × (given ≡ carried ++ order.Stop ∷ []) × (why ≡ last.Left))
    ⊎ ((next : Order) × (given ≡ carried ++ next ∷ []) × EndsWithin o left s made next rest why)
    ⊎ ((rest ≡ []) × (given ≡ carried) × (why ≡ last.Left) × HaveFailed by)

-- all steps of the opening are made, as a drain makes them: whatever it makes from where they end, it makes from the start, behind them.
-- Then the workers make theirs, in the order of their commits, and between them each order that is given is carried out, until the run ends
pub record HasWorked (by : OrdersEnd) (given : List Order) (o : Outside) (start : Place) (made : List Step) (why : TurnsEnd) : Type 0 where
  pub begun : List Step
  pub parts : List (Option Order × List Step)
  pub rest : List Step
  pub splits : made ≡ begun ++ (steps_in parts ++ rest)
  pub here : Place
  pub opened : here.opening ≡ []
  pub left : here.left ≡ left_behind start.left (length begun)
  pub state : IsSealOf (replay o.meaning start.state begun) here.state
  pub kinds : start.opening ≡ map (λ step. step.what) begun
  pub begins : (more : List Step) (cause : TurnsEnd) → Drains o here more cause → Drains o start (begun ++ more) cause
  pub own : AreParts o here.state parts
  pub few : IfSome here.left (λ most. length (steps_in parts) ≤ most)
  pub ends : RunEnds o here.left here.state (steps_in parts) by given (carried_in parts) rest why

-- a call ends within its opening, as a drain does, before an order is given; or its workers have worked
abbrev pub Runs : OrdersEnd → List Order → Outside → Place → List Step → TurnsEnd → Type 0
Runs by given o start made why = ((given ≡ []) × Drains o start made why) ⊎ HasWorked by given o start made why

-- the same, with so many steps
abbrev pub RunsSo : ℕ → OrdersEnd → List Order → Outside → Place → List Step → TurnsEnd → Type 0
RunsSo steps by given o start made why = (steps ≡ length made) × Runs by given o start made why
