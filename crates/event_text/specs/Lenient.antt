-- The lenient reading of bytes as a message.
use Rattle.std.specs.Prelude.{◌≡◌, ℕ, List, ◌++◌, Option, Some, None, Result, Ok, Err}
use Rattle.serde_json.specs.Data.{Data}
use Rattle.event_model.specs.Lenient.{lenient_tree}
use Rattle.event_model.specs.Trees.{tree_in}
use Rattle.event_model.specs.declared.message.Message.{Message}
use Rattle.event_model.specs.declared.fault.ReadFault.{ReadFault}
use Rattle.event_model.specs.declared.fault.ReadFault.TheVariants as fault
use Rattle.event_text.specs.Text.{message_text}

abbrev pub of_tree : Option Data → Result Message ReadFault
of_tree (Some d) = lenient_tree d
of_tree None = Err fault.Json

-- the message that the bytes are, or the first fault
unfoldable pub lenient : List ℕ → Result Message ReadFault
lenient bytes = of_tree (tree_in bytes)

-- the canonical text of the message that was read stands behind what was there
pub record PutsText (reading : Result Message ReadFault) (old new : List ℕ) : Type 0 where
  pub message : Message
  pub read : reading ≡ Ok message
  pub text : new ≡ old ++ message_text message
