-- A hash on which the names of the table of fields differ.
use Rattle.std.specs.Prelude.{ℕ, ◌+◌, ◌-◌, ◌*◌, ◌/◌, ◌%◌, ◌==◌, ◌||◌, List, length, nat_lt, slice_index, Option, Some, None, if◌then◌else◌}
use Rattle.std.specs.Str.{bytes_eq}
use Rattle.field_types.specs.declared.kind.FieldType.{FieldType}

-- of a name of 1 to 40 bytes; 0 of any other
unfoldable pub hash : List ℕ → ℕ
hash name =
    if (length name == 0) || nat_lt 40 (length name) then 0 else
    (length name * 11 + slice_index name (length name / 3) * 4 + slice_index name (length name * 2 / 3) * 14 + slice_index name (length name - 1) * 4) % 256

-- the kind of a row, if its name is that one
abbrev pub if_named : List ℕ → List ℕ × FieldType → Option FieldType
if_named name row = if bytes_eq row.0 name then Some row.1 else None
