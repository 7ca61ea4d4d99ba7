-- What a turn comes to in the code: a move, or why there is none.
use Rattle.std.specs.Prelude.{◌≡◌, ℕ, List, Some, None}
use Rattle.step_code.specs.declared.base.Base.{Base}
use Rattle.step_code.specs.declared.rules.Facts.{Facts}
use Rattle.step_code.specs.declared.step.StepKind.{StepKind}
use Rattle.step_code.specs.After.{file_of}
use Rattle.step_code.specs.Fits.{first_failing, parts}
use Rattle.step_code.specs.Rules.{Meaning}
use Rattle.journal_book.specs.Staged.{IsMove}
use Rattle.collector_feeds.specs.declared.found.Found.{Found}
use Rattle.collector_feeds.specs.declared.found.Found.TheVariants as found
use Rattle.drain_turns.specs.Turn.{IsStepOf}
use Rattle.drain_turns.specs.declared.end.TurnsEnd.{TurnsEnd}
use Rattle.drain_turns.specs.declared.end.TurnsEnd.TheVariants as end
use Rattle.drain_turns.specs.declared.turn.Turn.{Turn}

-- the move is such a step, it fits, and it carries what the rules give, whenever and in whichever format it is made
pub record IsMoveThat (m : Meaning) (s : Base) (Is : StepKind → Type 0) (what : StepKind) : Type 0 where
  pub is : Is what
  pub fits : first_failing (parts m s what) ≡ None
  pub carries : (format now : ℕ) → IsMove m format s now what

-- the move is the turn's
abbrev pub IsMoveOf : Meaning → Base → Turn → StepKind → Type 0
IsMoveOf m s turn what = IsMoveThat m s (IsStepOf turn) what

-- what a collector finds ends the turns: each cause as it is found
abbrev pub IsEndOf : List Facts → List ℕ → ℕ → Found → TurnsEnd → Type 0
IsEndOf bots bot at what end.Idle = ⊥
IsEndOf bots bot at what end.Left = ⊥
IsEndOf bots bot at what (end.Absent name) = (what ≡ found.Absent) × (file_of bots bot ≡ Some name)
IsEndOf bots bot at what (end.Failed name) = ⊥
IsEndOf bots bot at what (end.Short have need) = (what ≡ found.Short have) × (need ≡ at)
IsEndOf bots bot at what (end.LongLine other line) = (what ≡ found.LongLine line) × (other ≡ bot)
IsEndOf bots bot at what (end.LongFeed other) = (what ≡ found.LongFeed) × (other ≡ bot)
IsEndOf bots bot at what (end.Halted other) = ⊥
IsEndOf bots bot at what (end.Spent next) = ⊥
IsEndOf bots bot at what (end.Full bytes) = ⊥
IsEndOf bots bot at what (end.Damaged file place) = ⊥
IsEndOf bots bot at what end.Disk = ⊥
IsEndOf bots bot at what end.Memory = Unit {0}
