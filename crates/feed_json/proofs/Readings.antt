-- The event of a text, by the lenient reading of the text.
use Rattle.std.proofs.Common.{◌≡◌, ℕ, List, Option, Some, None, refl}
use Rattle.serde_json.specs.Data.{Data}
use Rattle.event_model.specs.Fields.{FieldMap}
use Rattle.event_model.specs.Trees.{tree_in}
use Rattle.event_text.specs.Lenient.{lenient, of_tree as message_of}
use Rattle.feed_rows.specs.Reports.{with_raw}
use Rattle.feed_json.specs.Objects.{event_in, event_of, of_reading, of_tree}

tree_read : (others : FieldMap) (text : List ℕ) (tree : Option Data) → of_tree others text tree ≡ of_reading (with_raw others text) (message_of tree)
unfolding event_of
tree_read others text (Some tree) = refl
tree_read others text None = refl

pub event_read : (others : FieldMap) (text : List ℕ) → event_in others text ≡ of_reading (with_raw others text) (lenient text)
unfolding event_in lenient
event_read others text = tree_read others text (tree_in text)
