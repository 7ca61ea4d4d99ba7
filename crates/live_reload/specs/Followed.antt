-- The lines of control that were taken, one after the other.
use Rattle.std.specs.Prelude.{◌≡◌, ℕ, suc, List, [], ◌∷◌, ◌++◌, length, Option, Some, IsSome, true}
use Rattle.std.specs.List.{slice_get}
use Rattle.edge_traits.specs.Count.{Rose}
use Rattle.edge_traits.specs.Shelf.{ShelfView, count_on, lacks}
use Rattle.edge_traits.specs.Sink.{SinkView, Took}
use Rattle.bot_rules.specs.Intel.{intel}
use Rattle.bundle_fetch.specs.Fetch.{Files}
use Rattle.live_reload.specs.Answers.{answer_in, answer_text, IsAnswerTo, IsMeant}
use Rattle.live_reload.specs.Control.{control_in}
use Rattle.live_reload.specs.Lines.{control_lines}
use Rattle.live_reload.specs.declared.control.Control.{Control}
use Rattle.live_reload.specs.declared.order.Order.{Order}
use Rattle.live_reload.specs.declared.order.Order.TheVariants as order
use Rattle.live_reload.specs.declared.word.Word.{Word}
use Rattle.live_reload.specs.declared.word.Word.TheVariants as word

-- the line behind so many others is answered with this word and gives this order, over a shelf that was read from one moment to another.
-- `absent` is answered only where the shelf tells that it lacks a name, `failed` only where the count on a name rose, and a bundle that is
-- put in force loads
pub record IsLine (control : Option (List ℕ)) (first now : ShelfView) (n : ℕ) (w : Word) (o : Order) : Type 0 where
  pub asked : Control
  pub line : (content : List ℕ) → control ≡ Some content → (line : List ℕ) × (slice_get (control_lines content) n ≡ Some line) × (asked ≡ control_in line)
  pub answer : IsAnswerTo asked first w o
  pub means : (files : Files) → first.told ≡ Some files → IsMeant (answer_in files asked) w o
  pub absent : w ≡ word.Absent → (name : List ℕ) × (lacks first name ≡ true)
  pub failed : w ≡ word.Failed → (name : List ℕ) × Rose (count_on first name) (count_on now name)
  pub loads : (code : List ℕ) → o ≡ order.Reload code → IsSome (intel.facts code)

-- these are the lines behind so many others, one after the other
abbrev pub AreLines : Option (List ℕ) → ShelfView → ShelfView → ℕ → List (Word × Order) → Type 0
AreLines control first now n [] = Unit {0}
AreLines control first now n (line ∷ lines) = IsLine control first now n line.0 line.1 × AreLines control first now (suc n) lines

-- their answers
abbrev pub answers_to : ℕ → List (Word × Order) → List ℕ
answers_to n [] = []
answers_to n (line ∷ lines) = answer_text (suc n) line.0 ++ answers_to (suc n) lines

-- the order, unless it is for nothing
abbrev pub onto_orders : Order → List Order → List Order
onto_orders order.Nothing orders = orders
onto_orders o orders = o ∷ orders

-- the orders that they give
abbrev pub orders_in : List (Word × Order) → List Order
orders_in [] = []
orders_in (line ∷ lines) = onto_orders line.1 (orders_in lines)

-- from the first line of control on these were taken, and their answers were printed
pub record HasFollowed (control : Option (List ℕ)) (first now : ShelfView) (before after : SinkView) (taken : ℕ) (lines : List (Word × Order)) : Type 0 where
  pub taken_is : taken ≡ length lines
  pub are : AreLines control first now 0 lines
  pub printed : Took before after (answers_to 0 lines)
