-- How the rules of kinds answer.
use Rattle.std.specs.Prelude.{◌≡◌, ℕ, List, Bool, true, false, Option, Some, None, Result, Ok, Err}
use Rattle.std.specs.List.{list_all}
use Rattle.field_types.specs.Cleaning.{is_extra_item}
use Rattle.field_types.specs.declared.kind.FieldType.{FieldType}
use Rattle.field_types.specs.declared.kind.FieldType.TheVariants as kind
use Rattle.field_types.specs.declared.value.Item.{Item}
use Rattle.field_types.specs.declared.fault.FieldFault.{FieldFault}
use Rattle.field_types.specs.declared.fault.FieldFault.TheVariants as fault
use Rattle.field_types.specs.declared.texts.Kept.{Kept}
use Rattle.field_types.specs.declared.texts.Kept.TheVariants.{Same, Other}
use Rattle.field_types.specs.declared.value.Value.{Value}
use Rattle.field_types.specs.declared.value.Value.TheVariants.{Text}

-- the value that is kept of a text
abbrev pub kept_value : List ℕ → Kept → Value
kept_value text Same = Text text
kept_value text (Other v) = v

-- the value of the text, and `BadValue` only where there is none
abbrev pub IsKeptAs : Option Value → List ℕ → Result Kept FieldFault → Type 0
IsKeptAs value text (Ok kept) = value ≡ Some (kept_value text kept)
IsKeptAs value text (Err fault.BadValue) = value ≡ None
IsKeptAs value text (Err fault.OutOfMemory) = Unit {0}

-- a kind that takes numbers and flags by the text that they print
abbrev pub takes_words : FieldType → Bool
takes_words kind.Text = true
takes_words kind.Lower = true
takes_words kind.Upper = true
takes_words kind.Cc = true
takes_words kind.Decimal = false
takes_words kind.Accuracy = false
takes_words kind.Whole = false
takes_words kind.Asn = false
takes_words kind.Port = false
takes_words kind.Flag = false
takes_words kind.Ip = false
takes_words kind.Network = false
takes_words kind.Fqdn = false
takes_words kind.Url = false
takes_words kind.DateTime = false
takes_words kind.Raw = false
takes_words kind.Tlp = false
takes_words kind.Registry = false
takes_words kind.Class = false
takes_words kind.Taxonomy = false
takes_words kind.Extra = false

-- a kind that takes lists, and what it takes of them
abbrev pub takes_items : FieldType → List Item → Bool
takes_items kind.Extra items = list_all is_extra_item items
takes_items _ items = false
