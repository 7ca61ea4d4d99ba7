-- Names of the fields of the table, by the numbers of their rows.
use Rattle.std.specs.Prelude.{ℕ, List, [], get_or, map}
use Rattle.field_types.specs.declared.field.TheConstants as table
use Rattle.field_types.specs.declared.kind.FieldType.{FieldType}

-- the rows of the code's table
unfoldable pub rows : List (List ℕ × FieldType)
rows = map (λ row. (row.0.now, row.1)) table.FIELDS

-- the name of a row
abbrev pub row_name : List ℕ × FieldType → List ℕ
row_name row = row.0

-- the name in the row of a number: none where no row has it
abbrev pub bytes_in_row : ℕ → List ℕ
bytes_in_row n = get_or (map row_name rows) n []
