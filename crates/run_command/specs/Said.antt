-- What a run prints of the lines of control that it took, and what it makes of a store.
use Rattle.std.specs.Prelude.{◌≡◌, ◌⊎◌, ◌++◌, ℕ, List, [], ◌∷◌, length, Option, Some, None, Bool, Result, Err}
use Rattle.std.specs.List.{slice_get}
use Rattle.edge_traits.specs.Disk.{DiskView, Image}
use Rattle.edge_traits.specs.Output.{TookFront}
use Rattle.edge_traits.specs.Shelf.{ShelfView}
use Rattle.edge_traits.specs.Sink.{SinkView, Took}
use Rattle.step_code.specs.declared.step.Step.{Step}
use Rattle.store_commands.specs.declared.end.StoreEnd.{StoreEnd}
use Rattle.store_commands.specs.declared.end.StoreEnd.TheVariants as store
use Rattle.drain_turns.specs.Drained.{Place}
use Rattle.drain_turns.specs.Turn.{Outside}
use Rattle.drain_turns.specs.declared.end.TurnsEnd.{TurnsEnd}
use Rattle.drain_command.specs.Drained.{Called, HasOutputs, IsCallBy, IsDurable}
use Rattle.drain_command.specs.Turned.{ended}
use Rattle.drain_command.specs.declared.draining.Asked.{Asked}
use Rattle.live_reload.specs.Followed.{answers_to, orders_in, AreLines}
use Rattle.live_reload.specs.Lines.{control_lines}
use Rattle.live_reload.specs.declared.end.OrdersEnd.{OrdersEnd}
use Rattle.live_reload.specs.declared.end.OrdersEnd.TheVariants as end
use Rattle.live_reload.specs.declared.order.Order.{Order}
use Rattle.live_reload.specs.declared.word.Word.{Word}
use Rattle.run_command.specs.Runs.{RunsSo}

-- from the first line of control on these were taken, and their answers were printed, and nothing else
pub record AreAnswered (control : Option (List ℕ)) (first now : ShelfView) (before after : SinkView) (lines : List (Word × Order)) : Type 0 where
  pub are : AreLines control first now 0 lines
  pub printed : Took before after (answers_to 0 lines)

-- and one more, at whose answer the output failed: a front of it is printed
pub record AreAnsweredBut (control : Option (List ℕ)) (first now : ShelfView) (before after : SinkView) (lines : List (Word × Order)) : Type 0 where
  pub line : Word × Order
  pub are : AreLines control first now 0 (lines ++ line ∷ [])
  pub printed : TookFront before after (answers_to 0 (lines ++ line ∷ []))

-- behind so many lines control has no other that is whole
abbrev pub IsAllOf : Option (List ℕ) → ℕ → Type 0
IsAllOf control taken = (content : List ℕ) → control ≡ Some content → slice_get (control_lines content) taken ≡ None

-- by what came of the last order that was asked for
abbrev pub IsSaid : Option (List ℕ) → ShelfView → ShelfView → SinkView → SinkView → OrdersEnd → List (Word × Order) → Type 0
IsSaid control first now before after end.Open lines = AreAnswered control first now before after lines
IsSaid control first now before after end.AtEnd lines = AreAnswered control first now before after lines × IsAllOf control (length lines)
IsSaid control first now before after end.Control lines = AreAnswered control first now before after lines
IsSaid control first now before after end.Sink lines = AreAnsweredBut control first now before after lines

-- ---- a whole call

-- the output failed at the answer to a line: all steps are durable, the outputs are whole, and nothing more is printed
pub record IsUnanswered {D : Type 0} (disk : D → DiskView) (Makes : Outside → Place → List Step → TurnsEnd → Type 0) (o : Outside) (files : Image) (asked : Asked) (old new : DiskView) (before after : SinkView) : Type 0 where
  pub why : TurnsEnd
  pub called : Called disk Makes o files asked old new why
  pub durable : IsDurable called
  pub outputs : HasOutputs o.meaning new called.state.outs
  pub printed : Took before after []

-- a run of a disk, a shelf, a control and an output, over lines of control that were taken: their answers are printed, and then it ends as a
-- call does whose steps are made so, so many of them. Or the output failed at an answer
pub record IsRun {D : Type 0} (disk : D → DiskView) (control : Option (List ℕ)) (o : Outside) (now : ShelfView) (asked : Asked) (steps : ℕ) (by : OrdersEnd) (old new : DiskView) (e : Result TurnsEnd StoreEnd) (before after : SinkView) : Type 0 where
  pub lines : List (Word × Order)
  pub mid : SinkView
  pub said : IsSaid control o.shelf now before mid by lines
  pub call : (files : Image) → old.told ≡ Some files
      → IsCallBy disk (RunsSo steps by (orders_in lines)) o now files asked old new e mid after ⊎ ((by ≡ end.Sink) × (e ≡ Err store.Sink) × IsUnanswered disk (RunsSo steps by (orders_in lines)) o files asked old new mid after)

-- ---- what private contracts cite

-- how a run ends whose book was finished so, with its summary or without, behind turns that ended so: where all is done but the output failed
-- at an answer, that is told
abbrev pub run_ended : OrdersEnd → StoreEnd → Bool → TurnsEnd → Result TurnsEnd StoreEnd
run_ended end.Open e is_said why = ended e is_said why
run_ended end.AtEnd e is_said why = ended e is_said why
run_ended end.Control e is_said why = ended e is_said why
run_ended end.Sink store.Done is_said why = Err store.Sink
run_ended end.Sink e is_said why = ended e is_said why
