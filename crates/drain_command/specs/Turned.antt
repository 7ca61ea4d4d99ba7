-- The turns of a book, and how a call ends behind them.
use Rattle.std.specs.Prelude.{Bool, true, false, List, Result, Ok, Err}
use Rattle.edge_traits.specs.Disk.{DiskView}
use Rattle.step_code.specs.declared.step.Step.{Step}
use Rattle.journal_book.specs.Book.{BookView}
use Rattle.book_runs.specs.GoesOn.{GoesOn}
use Rattle.store_commands.specs.declared.end.StoreEnd.{StoreEnd}
use Rattle.store_commands.specs.declared.end.StoreEnd.TheVariants as end
use Rattle.drain_turns.specs.Drained.{Place}
use Rattle.drain_turns.specs.Turn.{Outside}
use Rattle.drain_turns.specs.declared.end.TurnsEnd.{TurnsEnd}
use Rattle.drain_loop.specs.Calls.{opening_of, place_with}
use Rattle.drain_command.specs.declared.draining.Asked.{Asked}

-- a run of a book's calls makes steps as they are told to be made, those of the opening first, and they end so
pub record IsTurned {D R : Type 0} (disk : D → DiskView) (Makes : Outside → Place → List Step → TurnsEnd → Type 0) (o : Outside) (asked : Asked) (old new : BookView D R) (why : TurnsEnd) : Type 0 where
  pub made : List Step
  pub makes : Makes o (place_with (opening_of o.meaning old.state asked.opening.bundle asked.opening.rounds) old asked.left) made why
  pub run : GoesOn disk o.meaning old new made

-- how a call ends whose book was finished so, with its summary or without, behind turns that ended so
abbrev pub ended : StoreEnd → Bool → TurnsEnd → Result TurnsEnd StoreEnd
ended end.Done true why = Ok why
ended end.Done false why = Err end.Memory
ended other is_said why = Err other
