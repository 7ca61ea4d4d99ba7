-- The taxonomy of an event's type.
use Rattle.std.specs.Prelude.{ℕ, List, Option, Some, None, codes, is_some, option_and_then, if◌then◌else◌}
use Rattle.std.specs.FinMap.{get, insert}
use Rattle.scalar_text.specs.Words.{classes, taxonomy_in}
use Rattle.field_types.specs.declared.value.Value.{Value}
use Rattle.field_types.specs.declared.value.Value.TheVariants.{Text, Whole, Flag, Decimal, List as ItemsOf}
use Rattle.event_model.specs.Fields.{FieldMap}

abbrev pub taxonomy_key : List ℕ
taxonomy_key = codes "classification.taxonomy"

abbrev pub type_key : List ℕ
type_key = codes "classification.type"

-- the taxonomy of the type of incident that a value is
abbrev pub taxonomy_of : Value → Option (List ℕ)
taxonomy_of (Text class) = taxonomy_in classes class
taxonomy_of (Whole n) = None
taxonomy_of (Flag b) = None
taxonomy_of (Decimal n) = None
taxonomy_of (ItemsOf items) = None

-- the field has the word, where there is one
abbrev pub with_word : FieldMap → Option (List ℕ) → FieldMap
with_word fields None = fields
with_word fields (Some word) = insert fields taxonomy_key (Text word)

-- the taxonomy of the event's type is set, where none is set and there is a type
unfoldable pub with_taxonomy : FieldMap → FieldMap
with_taxonomy fields = if is_some (get fields taxonomy_key) then fields else with_word fields (option_and_then taxonomy_of (get fields type_key))
