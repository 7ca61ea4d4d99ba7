-- The answers to lines of control, and the orders that they give.
use Rattle.std.specs.Prelude.{◌≡◌, ◌⊎◌, ℕ, List, ◌++◌, codes, decimal, Option, Some, None, Result, Ok, Err}
use Rattle.edge_traits.specs.Shelf.{ShelfView}
use Rattle.live_reload.specs.declared.order.Order.{Order}
use Rattle.live_reload.specs.declared.order.Order.TheVariants as order
use Rattle.status_texts.specs.StatusText.{fault_number}
use Rattle.bundle_fetch.specs.Fetch.{bundle_from, Files}
use Rattle.config_bundle.specs.Bundle.{bundle_code}
use Rattle.config_bundle.specs.declared.bundle.Bundle.{Bundle}
use Rattle.runtime_config.specs.Load.{load}
use Rattle.runtime_config.specs.declared.fault.LoadFault.{LoadFault}
use Rattle.runtime_config.specs.declared.plan.Plan.{Plan}
use Rattle.bundle_bringing.specs.Brought.{Names}
use Rattle.bundle_bringing.specs.declared.bringing.Unbrought.{Unbrought}
use Rattle.bundle_bringing.specs.declared.bringing.Unbrought.TheVariants as unbrought
use Rattle.live_reload.specs.declared.control.Control.{Control}
use Rattle.live_reload.specs.declared.control.Control.TheVariants as control
use Rattle.live_reload.specs.declared.word.Word.{Word}
use Rattle.live_reload.specs.declared.word.Word.TheVariants as word

-- a word as it is printed
abbrev pub word_text : Word → List ℕ
word_text word.Reload = codes "reload"
word_text word.Round = codes "round"
word_text word.Stop = codes "stop"
word_text word.Bad = codes "bad"
word_text word.Absent = codes "absent"
word_text word.Failed = codes "failed"
word_text (word.Config number) = codes "config " ++ decimal number

-- the answer to the line of this number
abbrev pub answer_text : ℕ → Word → List ℕ
answer_text number w = codes "control " ++ decimal number ++ codes " " ++ word_text w ++ codes "\n"

-- the word and the order for a bundle that was brought, or for why it wasn't; there is none where memory ran out
abbrev pub brought_answer : Result (Option (List ℕ)) Unbrought → Option (Word × Order)
brought_answer (Ok (Some code)) = Some (word.Reload, order.Reload code)
brought_answer (Ok None) = None
brought_answer (Err (unbrought.Absent name)) = Some (word.Absent, order.Nothing)
brought_answer (Err (unbrought.Failed name)) = Some (word.Failed, order.Nothing)
brought_answer (Err (unbrought.Config fault)) = Some (word.Config (fault_number fault), order.Nothing)
brought_answer (Err unbrought.OutOfMemory) = None

-- what a line that asks for this is answered with, and what it gives, over a shelf: a bundle is put in force if it is had
abbrev pub IsAnswerTo : Control → ShelfView → Word → Order → Type 0
IsAnswerTo control.Round shelf w o = (w ≡ word.Round) × (o ≡ order.Round)
IsAnswerTo control.Stop shelf w o = (w ≡ word.Stop) × (o ≡ order.Stop)
IsAnswerTo control.Bad shelf w o = (w ≡ word.Bad) × (o ≡ order.Nothing)
IsAnswerTo (control.Reload name) shelf w o = (brought : Result (Option (List ℕ)) Unbrought) × Names shelf (Some name) brought × (brought_answer brought ≡ Some (w, o))

-- ---- over a shelf that tells its files

abbrev pub loaded_answer : Bundle → Result Plan LoadFault → Word × Order
loaded_answer bundle (Ok plan) = (word.Reload, order.Reload (bundle_code bundle))
loaded_answer bundle (Err fault) = (word.Config (fault_number fault), order.Nothing)

abbrev pub fetched_answer : Result Bundle (List ℕ) → Word × Order
fetched_answer (Ok bundle) = loaded_answer bundle (load bundle)
fetched_answer (Err name) = (word.Absent, order.Nothing)

-- the word and the order for what a line asks for: a bundle that is there and loads is put in force
abbrev pub answer_in : Files → Control → Word × Order
answer_in files control.Round = (word.Round, order.Round)
answer_in files control.Stop = (word.Stop, order.Stop)
answer_in files control.Bad = (word.Bad, order.Nothing)
answer_in files (control.Reload name) = fetched_answer (bundle_from files name)

-- it is answered so, or a file of the bundle couldn't be fetched or read
abbrev pub IsMeant : Word × Order → Word → Order → Type 0
IsMeant meant w o = ((w, o) ≡ meant) ⊎ ((w ≡ word.Failed) × (o ≡ order.Nothing))
