-- What one thread does next, over an outside that may answer differently from call to call.
use Rattle.std.specs.Prelude.{◌≡◌, ◌&&◌, ℕ, Bool, true, false, not, nat_lt, List, [], ◌∷◌, Option, Some, IsSomeAnd, MatchOption, MatchBool, filter}
use Rattle.edge_traits.specs.Shelf.{ShelfView}
use Rattle.step_code.specs.declared.base.Base.{Base}
use Rattle.step_code.specs.declared.rules.Facts.{Facts}
use Rattle.step_code.specs.declared.step.Step.{Step}
use Rattle.step_code.specs.declared.step.StepKind.{StepKind}
use Rattle.step_code.specs.declared.step.StepKind.TheVariants as kind
use Rattle.step_code.specs.Fits.{backlog_limit}
use Rattle.step_code.specs.Rules.{Meaning}
use Rattle.step_code.specs.State.{backlog, bots_in_force, has_finished, position_of}
use Rattle.turn_order.specs.Turn.{collectors, first_actor}
use Rattle.turn_order.specs.declared.actor.Actor.{Actor}
use Rattle.turn_order.specs.declared.actor.Actor.TheVariants.{Full, Take}
use Rattle.journal_book.specs.Staged.{stamp}
use Rattle.collector_feeds.specs.Found.{MayFind}
use Rattle.collector_feeds.specs.declared.found.Found.{Found}
use Rattle.collector_feeds.specs.declared.found.Found.TheVariants as found
use Rattle.drain_turns.specs.declared.turn.Turn.{Turn}
use Rattle.drain_turns.specs.declared.turn.Turn.TheVariants.{Acts, Finds, Nobody}

-- what a call goes by: what rules mean, the shelf as it is when the call begins, the moment that the clock shows, if it tells
-- it, and the limit of all codes of a generation's steps together
pub record Outside : Type 0 where
  pub meaning : Meaning
  pub shelf : ShelfView
  pub clock : Option ℕ
  pub limit : ℕ

-- the collectors that haven't read their feeds to the end, in byte order
abbrev pub going : Meaning → Base → List Facts
going m s = filter (λ f. not (has_finished f.bot s)) (collectors m s)

-- so much waits that nothing is collected
abbrev pub is_backed_up : Meaning → Base → Bool
is_backed_up m s = not (nat_lt (backlog (bots_in_force m s) s) backlog_limit)

abbrev pub is_piece : Found → Bool
is_piece (found.Piece cut) = true
is_piece found.End = false
is_piece found.Absent = false
is_piece (found.Short have) = false
is_piece (found.LongLine at) = false
is_piece found.LongFeed = false

-- a collector may find this at its position
abbrev pub MayFindNow : Outside → Base → Facts → Found → Type 0
MayFindNow o s f what = IsSomeAnd f.feed (λ facts. MayFind o.shelf facts (position_of f.bot s) what)

-- of these collectors, the first that finds something gives the turn; one whose piece only the backlog holds back is passed
-- over
abbrev pub IsCollectorsTurn : Outside → Base → List Facts → Turn → Type 0
IsCollectorsTurn o s [] turn = turn ≡ Nobody
IsCollectorsTurn o s (f ∷ fs) turn =
    (what : Found) × MayFindNow o s f what × MatchBool (is_piece what && is_backed_up o.meaning s) (IsCollectorsTurn o s fs turn) (turn ≡ Finds f.bot (position_of f.bot s) what)

-- the turn is that of the first bot that takes messages and may step; where none may, it is a collector's
abbrev pub IsTurn : Outside → Base → Turn → Type 0
IsTurn o s turn = MatchOption (first_actor o.meaning s) (IsCollectorsTurn o s (going o.meaning s) turn) (λ actor. turn ≡ Acts actor)

-- a step ends an instance's work on the message in its hand, in one way or another
abbrev pub IsWorkOf : List ℕ → ℕ → StepKind → Type 0
IsWorkOf bot instance kind.Start = ⊥
IsWorkOf bot instance (kind.Collect other from upto piece) = ⊥
IsWorkOf bot instance (kind.FeedEnd other position) = ⊥
IsWorkOf bot instance (kind.Take other i message) = ⊥
IsWorkOf bot instance (kind.Done other i message bundle sends dumps key line) = (other ≡ bot) × (i ≡ instance)
IsWorkOf bot instance (kind.Retry other i message bundle fault) = (other ≡ bot) × (i ≡ instance)
IsWorkOf bot instance (kind.Fail other i message bundle fault queues halts) = (other ≡ bot) × (i ≡ instance)
IsWorkOf bot instance (kind.Reload bundle) = ⊥
IsWorkOf bot instance (kind.Redo dump) = ⊥
IsWorkOf bot instance (kind.Round other) = ⊥

-- an instance takes a message
abbrev pub IsTakeOf : List ℕ → ℕ → StepKind → Type 0
IsTakeOf bot instance what = (message : ℕ) × (what ≡ kind.Take bot instance message)

-- a full hand is worked on, or the front of the queue is taken, by the first instance
abbrev pub IsActOf : Actor → StepKind → Type 0
IsActOf (Full bot instance) what = IsWorkOf bot instance what
IsActOf (Take bot) what = IsTakeOf bot 1 what

-- a piece that is found is collected, at the end the feed is finished, and all else gives no step
abbrev pub IsFindOf : List ℕ → ℕ → Found → StepKind → Type 0
IsFindOf bot at (found.Piece cut) what = what ≡ kind.Collect bot at cut.upto cut.piece
IsFindOf bot at found.End what = what ≡ kind.FeedEnd bot at
IsFindOf bot at found.Absent what = ⊥
IsFindOf bot at (found.Short have) what = ⊥
IsFindOf bot at (found.LongLine line) what = ⊥
IsFindOf bot at found.LongFeed what = ⊥

-- the step is the turn's. Which of those it is, what it carries, and how it numbers things, is told by whether it may be taken
abbrev pub IsStepOf : Turn → StepKind → Type 0
IsStepOf (Acts actor) what = IsActOf actor what
IsStepOf (Finds bot at found) what = IsFindOf bot at found what
IsStepOf Nobody what = ⊥

-- a clock that may tell its moment may show this
abbrev pub MayShow : Option ℕ → ℕ → Type 0
MayShow clock now = (told : ℕ) → clock ≡ Some told → now ≡ told

-- the moment of a step is that of the clock
abbrev pub IsStamped : Option ℕ → Base → Step → Type 0
IsStamped clock s step = (now : ℕ) × MayShow clock now × (step.moment ≡ stamp s now)
