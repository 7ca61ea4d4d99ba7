-- Orders of a control that is followed, as contracts see them.
use Rattle.std.specs.Prelude.{◌≡◌, ◌≤◌, ℕ, suc, nat_lt, if◌then◌else◌, ◌⊎◌, true, List, drop, Option, Some, None, IsSome}
use Rattle.std.specs.List.{slice_get}
use Rattle.edge_traits.specs.Count.{Rose}
use Rattle.edge_traits.specs.Output.{TookFront}
use Rattle.edge_traits.specs.Shelf.{ShelfView, count_on, lacks}
use Rattle.edge_traits.specs.Sink.{SinkView, Took}
use Rattle.edge_traits.specs.Source.{SourceView}
use Rattle.live_reload.specs.Answers.{answer_in, answer_text, IsAnswerTo, IsMeant}
use Rattle.live_reload.specs.Control.{control_in}
use Rattle.live_reload.specs.Lines.{control_lines, lines_from, longest_control}
use Rattle.live_reload.specs.declared.control.Control.{Control}
use Rattle.live_reload.specs.declared.end.OrdersEnd.{OrdersEnd}
use Rattle.live_reload.specs.declared.end.OrdersEnd.TheVariants as end
use Rattle.live_reload.specs.declared.live.LiveOrders.{LiveOrders}
use Rattle.live_reload.specs.declared.order.Order.{Order}
use Rattle.live_reload.specs.declared.order.Order.TheVariants as order
use Rattle.live_reload.specs.declared.word.Word.{Word}
use Rattle.live_reload.specs.declared.word.Word.TheVariants as word
use Rattle.bot_rules.specs.Intel.{intel}
use Rattle.bundle_fetch.specs.Fetch.{Files}

-- control, the shelf and the output; how many lines were taken; and what came of the last order that was asked for
pub record LiveView : Type 0 where
  pub control : SourceView
  pub shelf : ShelfView
  pub out : SinkView
  pub taken : ℕ
  pub end : OrdersEnd

abbrev pub live_at : SourceView → ShelfView → SinkView → LiveOrders → LiveView
live_at control shelf out live = record { control = control; shelf = shelf; out = out; taken = live.taken; end = live.end }

-- so many lines of control were taken, up to an offset of it
pub record Follows (control : SourceView) (live : LiveOrders) : Type 0 where
  pub near : live.at ≤ longest_control
  pub few : live.taken ≤ live.at
  pub left : (content : List ℕ) → control.told ≡ Some content → lines_from live.at content ≡ drop live.taken (control_lines content)

-- behind so many bytes of control there may be more later, unless as many were read as may be
abbrev pub watched_by : LiveOrders → Option ℕ
watched_by live = if nat_lt live.read longest_control then Some live.read else None

-- the next line of control was taken, the one behind those that were taken: what it asks for, its answer, and the order that it
-- gives. `absent` is answered only where the shelf tells that it lacks a name, `failed` only where the count on a name rose, and a
-- bundle that is put in force loads
pub record Takes (old new : LiveView) (w : Word) (o : Order) : Type 0 where
  pub asked : Control
  pub line : (content : List ℕ) → old.control.told ≡ Some content → (line : List ℕ) × (slice_get (control_lines content) old.taken ≡ Some line) × (asked ≡ control_in line)
  pub answer : IsAnswerTo asked old.shelf w o
  pub means : (files : Files) → old.shelf.told ≡ Some files → IsMeant (answer_in files asked) w o
  pub absent : w ≡ word.Absent → (name : List ℕ) × (lacks old.shelf name ≡ true)
  pub failed : w ≡ word.Failed → (name : List ℕ) × Rose (count_on old.shelf name) (count_on new.shelf name)
  pub loads : (code : List ℕ) → o ≡ order.Reload code → IsSome (intel.facts code)
  pub taken : new.taken ≡ suc old.taken

-- a line was taken, its answer was printed, and its order is given
pub record Answers (old new : LiveView) (o : Order) : Type 0 where
  pub word : Word
  pub takes : Takes old new word o
  pub printed : Took old.out new.out (answer_text (suc old.taken) word)
  pub end : new.end ≡ end.Open

-- a line was taken, and the output failed at its answer
pub record Unprinted (old new : LiveView) : Type 0 where
  pub word : Word
  pub order : Order
  pub takes : Takes old new word order
  pub printed : TookFront old.out new.out (answer_text (suc old.taken) word)
  pub rose : Rose old.out.faults new.out.faults
  pub end : new.end ≡ end.Sink

-- no line is left that is whole
pub record Waits (old new : LiveView) : Type 0 where
  pub none : (content : List ℕ) → old.control.told ≡ Some content → slice_get (control_lines content) old.taken ≡ None
  pub out : new.out ≡ old.out
  pub taken : new.taken ≡ old.taken
  pub end : new.end ≡ end.AtEnd

-- control failed
pub record Unread (old new : LiveView) : Type 0 where
  pub rose : Rose old.control.faults new.control.faults
  pub out : new.out ≡ old.out
  pub taken : new.taken ≡ old.taken
  pub end : new.end ≡ end.Control

-- memory ran out ahead of an answer
pub record Starves (old new : LiveView) : Type 0 where
  pub out : new.out ≡ old.out
  pub taken : new.taken ≡ old.taken
  pub end : new.end ≡ end.Open

-- what comes of asking for an order: `Nothing` also where a line is answered that gives none
abbrev pub Turns : LiveView → LiveView → Order → Type 0
Turns old new o =
    Answers old new o
    ⊎ ((o ≡ order.Nothing) × Waits old new)
    ⊎ ((o ≡ order.Failed) × Unread old new)
    ⊎ ((o ≡ order.Failed) × Unprinted old new)
    ⊎ ((o ≡ order.OutOfMemory) × Starves old new)

-- the same, where control has a next line
abbrev pub TakesTurn : LiveView → LiveView → Order → Type 0
TakesTurn old new o = Answers old new o ⊎ ((o ≡ order.Failed) × Unprinted old new) ⊎ ((o ≡ order.OutOfMemory) × Starves old new)

-- what stays: what control and the shelf tell, and no count falls
pub record Stays (old new : LiveView) : Type 0 where
  pub control : new.control.told ≡ old.control.told
  pub shelf : new.shelf.told ≡ old.shelf.told
  pub control_count : old.control.faults ≤ new.control.faults
  pub out_count : old.out.faults ≤ new.out.faults
  pub shelf_counts : (name : List ℕ) → count_on old.shelf name ≤ count_on new.shelf name
