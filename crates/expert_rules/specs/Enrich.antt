-- The fields of the longest network that holds an event's source.
use Rattle.std.specs.Prelude.{ℕ, Bool, true, false, List, ◌++◌, Option, Some, None, codes, option_and_then, slice_get, unwrap_or}
use Rattle.std.specs.FinMap.{empty, get, entries, from_entries}
use Rattle.scalar_net.specs.declared.address.Ip.{Ip}
use Rattle.scalar_net.specs.declared.network.Network.{Network}
use Rattle.field_types.specs.Written.{address_in}
use Rattle.field_types.specs.declared.value.Value.{Value}
use Rattle.field_types.specs.declared.value.Value.TheVariants.{Text, Whole, Flag, Decimal, List as ItemsOf}
use Rattle.event_model.specs.Fields.{FieldMap}
use Rattle.prefix_table.specs.Longest.{longest}

-- the address that a value is
abbrev pub address_of : Value → Option Ip
address_of (Text text) = address_in text
address_of (Whole n) = None
address_of (Flag b) = None
address_of (Decimal n) = None
address_of (ItemsOf items) = None

abbrev pub source_key : List ℕ
source_key = codes "source.ip"

-- the row of the longest network that holds the event's source, if there is one
abbrev pub row_for : List Network → FieldMap → Option ℕ
row_for rows fields = option_and_then (longest rows) (option_and_then address_of (get fields source_key))

-- the fields of both; of a field that both have, the value in the first
unfoldable pub union : FieldMap → FieldMap → FieldMap
union first second = from_entries (entries first ++ entries second)

-- the fields with those of a set: either each of the set, or each that is absent
abbrev pub joined : Bool → FieldMap → FieldMap → FieldMap
joined true set fields = union set fields
joined false set fields = union fields set

-- the fields with the set of that row
abbrev pub with_set : Bool → List FieldMap → FieldMap → Option ℕ → FieldMap
with_set overwrite sets fields None = fields
with_set overwrite sets fields (Some row) = joined overwrite (unwrap_or (slice_get sets row) empty) fields

-- the fields with those of the longest network that holds their source, each in any case or where it is absent
unfoldable pub enriched : List Network → List FieldMap → Bool → FieldMap → FieldMap
enriched rows sets overwrite fields = with_set overwrite sets fields (row_for rows fields)
