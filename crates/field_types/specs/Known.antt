-- Names that are known to stand in the table of fields, by their rows.
use Rattle.std.specs.Prelude.{◌≡◌, ℕ, List, Option, Some, None}
use Rattle.field_types.specs.Names.{bytes_in_row}
use Rattle.field_types.specs.declared.field.Row.{Row}
use Rattle.field_types.specs.declared.name.Name.{Name}
use Rattle.field_types.specs.declared.name.Name.TheVariants.{Known, Other}

-- the row is that of the name, if one is given
abbrev pub IsRowOf : Option Row → List ℕ → Type 0
IsRowOf None name = Unit {0}
IsRowOf (Some row) name = bytes_in_row row.number ≡ name

abbrev pub name_bytes : Name → List ℕ
name_bytes (Known row) = bytes_in_row row.number
name_bytes (Other text) = text
