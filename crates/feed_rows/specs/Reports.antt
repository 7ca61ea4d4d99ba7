-- A report: its content, its other fields, and fields that fill gaps.
use Rattle.std.specs.Prelude.{ℕ, List, [], ◌∷◌, ◌++◌, false, Option, None, codes, is_some, option_and_then, if◌then◌else◌}
use Rattle.std.specs.FinMap.{get, insert, entries, from_entries}
use Rattle.scalar_text.specs.Raw.{raw_of, raw_text}
use Rattle.field_types.specs.declared.value.Value.{Value}
use Rattle.field_types.specs.declared.value.Value.TheVariants.{Text, Whole, Flag, Decimal, List as ItemsOf}
use Rattle.event_model.specs.Edits.{restricted}
use Rattle.event_model.specs.Fields.{FieldMap}

-- the field that has the content of a report
abbrev pub raw_key : List ℕ
raw_key = codes "raw"

-- the bytes that a value writes in base64
abbrev pub raw_bytes : Value → Option (List ℕ)
raw_bytes (Text text) = raw_of text
raw_bytes (Whole n) = None
raw_bytes (Flag b) = None
raw_bytes (Decimal n) = None
raw_bytes (ItemsOf items) = None

-- the content of a report: the bytes that its `raw` writes
unfoldable pub content_in : FieldMap → Option (List ℕ)
content_in report = option_and_then raw_bytes (get report raw_key)

-- its fields but the content
unfoldable pub others : FieldMap → FieldMap
others report = restricted (raw_key ∷ []) false report

-- these fields, and this content
unfoldable pub with_raw : FieldMap → List ℕ → FieldMap
with_raw fields content = insert fields raw_key (Text (raw_text content))

-- these fields, and those of the others that are absent among them
unfoldable pub filled : FieldMap → FieldMap → FieldMap
filled others fields = from_entries (entries fields ++ entries others)

-- the field has the value where it was absent
abbrev pub put_absent : List ℕ × Value → FieldMap → FieldMap
put_absent pair fields = if is_some (get fields pair.0) then fields else insert fields pair.0 pair.1
