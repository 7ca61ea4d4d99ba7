-- One turn of a loop, and the loop so far.
use Rattle.std.specs.Prelude.{◌≡◌, ◌++◌, [], ◌∷◌, ℕ, List, Option, Some, slice_get}
use Rattle.edge_traits.specs.Disk.{DiskView}
use Rattle.step_code.specs.declared.base.Base.{Base}
use Rattle.step_code.specs.declared.step.Step.{Step}
use Rattle.step_code.specs.declared.step.StepKind.{StepKind}
use Rattle.step_code.specs.After.{file_of}
use Rattle.step_code.specs.State.{bots_in_force}
use Rattle.journal_book.specs.Book.{BookView}
use Rattle.book_runs.specs.Commit.{readied}
use Rattle.book_runs.specs.GoesOn.{longer, GoesOn}
use Rattle.book_runs.specs.declared.committing.CommitFault.{CommitFault}
use Rattle.book_runs.specs.declared.committing.CommitFault.TheVariants as fault
use Rattle.journal_book.specs.declared.stage_refusal.StageRefusal.TheVariants as refusal
use Rattle.collector_feeds.specs.declared.found.Found.TheVariants as found
use Rattle.drain_turns.specs.Drained.{Drains, IsMade, Place}
use Rattle.drain_turns.specs.Moves.{IsMoveOf}
use Rattle.drain_turns.specs.Turn.{Outside, IsTurn}
use Rattle.drain_turns.specs.declared.end.TurnsEnd.{TurnsEnd}
use Rattle.drain_turns.specs.declared.end.TurnsEnd.TheVariants as end
use Rattle.drain_turns.specs.declared.turn.Turn.{Turn}
use Rattle.drain_turns.specs.declared.turn.Turn.TheVariants.{Finds, Nobody}
use Rattle.drain_loop.specs.Calls.{place_of}

-- a turn comes to this move
abbrev pub IsNextMove : Outside → Base → StepKind → Type 0
IsNextMove o s what = (turn : Turn) × IsTurn o s turn × IsMoveOf o.meaning s turn what

-- the turn that comes next has no step, for this cause; a feed that fails and want of memory may end the turns anywhere
abbrev pub EndsTurn : Outside → Base → TurnsEnd → Type 0
EndsTurn o s end.Idle = ⊥
EndsTurn o s end.Left = ⊥
EndsTurn o s (end.Absent name) = (bot : List ℕ) × (at : ℕ) × IsTurn o s (Finds bot at found.Absent) × (file_of (bots_in_force o.meaning s) bot ≡ Some name)
EndsTurn o s (end.Failed name) = Unit {0}
EndsTurn o s (end.Short have need) = (bot : List ℕ) × IsTurn o s (Finds bot need (found.Short have))
EndsTurn o s (end.LongLine bot line) = (at : ℕ) × IsTurn o s (Finds bot at (found.LongLine line))
EndsTurn o s (end.LongFeed bot) = (at : ℕ) × IsTurn o s (Finds bot at found.LongFeed)
EndsTurn o s (end.Halted bot) = IsTurn o s Nobody × (slice_get s.halted 0 ≡ Some bot)
EndsTurn o s (end.Spent next) = ⊥
EndsTurn o s (end.Full bytes) = ⊥
EndsTurn o s (end.Damaged file at) = ⊥
EndsTurn o s end.Disk = ⊥
EndsTurn o s end.Memory = Unit {0}

-- it is nobody's turn, and this bot was halted first
abbrev pub IsHalted : List (List ℕ) → TurnsEnd → Type 0
IsHalted halted (end.Halted bot) = slice_get halted 0 ≡ Some bot
IsHalted halted other = ⊥

-- a step that fits, over a book that isn't broken, is refused for a number, for a length, or for want of memory; or the disk fails, or an
-- output is found to be damaged
abbrev pub IsLateFault : CommitFault → Type 0
IsLateFault fault.Disk = Unit {0}
IsLateFault (fault.Damaged file at) = Unit {0}
IsLateFault (fault.Refused (refusal.Spent next)) = Unit {0}
IsLateFault (fault.Refused (refusal.Full bytes)) = Unit {0}
IsLateFault (fault.Refused refusal.OutOfMemory) = Unit {0}
IsLateFault (fault.Refused other) = ⊥

-- how the turns end where a step isn't committed for this
abbrev pub end_of : CommitFault → TurnsEnd
end_of fault.Disk = end.Disk
end_of (fault.Damaged file at) = end.Damaged file at
end_of (fault.Refused (refusal.Spent next)) = end.Spent next
end_of (fault.Refused (refusal.Full bytes)) = end.Full bytes
end_of (fault.Refused other) = end.Memory

-- a turn's step was made, and the book goes on by it
pub record OneStep {D R : Type 0} (disk : D → DiskView) (o : Outside) (left : Option ℕ) (old new : BookView D R) : Type 0 where
  pub step : Step
  pub is_made : IsMade o (place_of old left) step
  pub goes_on : GoesOn disk o.meaning old new (step ∷ [])
  pub book : new ≡ longer o.meaning (readied old) (step ∷ []) new

-- the steps so far: whatever is drained from here on is drained from the start, behind them
pub record Running {D R : Type 0} (disk : D → DiskView) (o : Outside) (start here : Place) (old now : BookView D R) : Type 0 where
  pub made : List Step
  pub goes_on : GoesOn disk o.meaning old now made
  pub leads : (more : List Step) (last : TurnsEnd) → Drains o here more last → Drains o start (made ++ more) last
