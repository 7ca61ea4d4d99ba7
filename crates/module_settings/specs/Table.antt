-- The file of a prefix expert: a header of names of fields, and rows of a network and values.
use Rattle.std.specs.Prelude.{◌≡◌, ℕ, suc, List, [], ◌∷◌, ◌==◌, ◌&&◌, Bool, not, length, codes, count_by, is_some, drop, Option, Some, None, option_and_then, option_map, refl, Result, Ok, Err, if◌then◌else◌}
use Rattle.std.specs.FinMap.{empty, insert}
use Rattle.std.specs.Str.{bytes_eq, is_utf8}
use Rattle.base_types.specs.Lines.{lines_of}
use Rattle.scalar_net.specs.declared.network.Network.{Network}
use Rattle.scalar_net.specs.Network.{network_in}
use Rattle.field_types.specs.Field.{type_of}
use Rattle.scalar_text.specs.Strip.{strip}
use Rattle.field_types.specs.declared.value.Value.TheVariants as value
use Rattle.csv_line.specs.Cells.{bare, has_odd_quotes}
use Rattle.csv_line.specs.Line.{one_record}
use Rattle.event_model.specs.Fields.{FieldMap, value_for}
use Rattle.event_model.specs.Trees.{both}
use Rattle.module_settings.specs.declared.table.Rows.{Rows}
use Rattle.module_settings.specs.Networks.{network_is_cut}

-- the byte between cells
abbrev pub comma : ℕ
comma = 44

-- the cells of a line that is UTF-8, has an even number of double quotes and is one record
unfoldable pub cells_of : List ℕ → Option (List (List ℕ))
cells_of line = if is_utf8 line && not (has_odd_quotes line) then one_record comma line else None

-- ---- a row

-- a cell that is empty but for its blanks sets nothing; any other is a value of the field
unfoldable pub put_cell : List ℕ → List ℕ → FieldMap → Option FieldMap
put_cell name cell fields =
    if is_utf8 cell then (if length (strip cell) == 0 then Some fields else option_map (insert fields name) (value_for name (value.Text cell))) else None

-- the fields with what these cells set, from the left, by the names at their places, of which there are as many or more
abbrev pub put_cells : List (List ℕ) → List (List ℕ) → FieldMap → Option FieldMap
put_cells names [] fields = Some fields
put_cells [] (cell ∷ cells) fields = None
put_cells (name ∷ names) (cell ∷ cells) fields = option_and_then (put_cells names cells) (put_cell name cell fields)

-- the network of these parts, where a text writes one
abbrev pub network_with : (text : List ℕ) (found : Option (Bool × ℕ × ℕ)) → network_in text ≡ found → Option Network
network_with text None is = None
network_with text (Some net) is = Some (record {
  ip = record { six = net.0; bits = net.1; in_range = (network_is_cut text net is).0 };
  len = net.2;
  within = (network_is_cut text net is).1;
  host_bits_zero = (network_is_cut text net is).2;
})

-- the network that a text writes, if it writes one
unfoldable pub network_of : List ℕ → Option Network
network_of text = network_with text (network_in text) refl

-- the network that a cell writes, but for its blanks
abbrev pub network_cell : List ℕ → Option Network
network_cell cell = if is_utf8 cell then network_of (strip cell) else None

abbrev pub row_with : Option Network → Option FieldMap → Option (Network × FieldMap)
row_with (Some network) (Some fields) = Some (network, fields)
row_with (Some network) None = None
row_with None fields = None

-- a network, and what the other cells set
abbrev pub row_of : List (List ℕ) → List (List ℕ) → Option (Network × FieldMap)
row_of names [] = None
row_of names (cell ∷ cells) = row_with (network_cell cell) (put_cells names cells empty)

-- the row that a line is
unfoldable pub row_in : List (List ℕ) → List ℕ → Option (Network × FieldMap)
row_in names line = option_and_then (row_of names) (cells_of line)

-- ---- the whole

abbrev pub is_empty_line : List ℕ → Bool
is_empty_line line = length (bare line) == 0

abbrev pub in_front : Network × FieldMap → Result Rows ℕ → Result Rows ℕ
in_front row (Ok table) = Ok (record { networks = row.0 ∷ table.networks; sets = row.1 ∷ table.sets })
in_front row (Err n) = Err n

abbrev pub row_first : Option (Network × FieldMap) → ℕ → Result Rows ℕ → Result Rows ℕ
row_first (Some row) n table = in_front row table
row_first None n table = Err n

-- the rows that these lines are, of which the first has this number; or the number of the first that is no row. Empty
-- lines are none
abbrev pub rows_of : List (List ℕ) → ℕ → List (List ℕ) → Result Rows ℕ
rows_of names n [] = Ok (record { networks = []; sets = [] })
rows_of names n (line ∷ lines) =
    if is_empty_line line then rows_of names (suc n) lines else row_first (row_in names (bare line)) n (rows_of names (suc n) lines)

-- the name of a field
abbrev pub is_column : List ℕ → Bool
is_column name = is_utf8 name && is_some (type_of name)

-- names of fields
abbrev pub columns_of : List (List ℕ) → Option (List (List ℕ))
columns_of [] = Some []
columns_of (name ∷ names) = both (if is_column name then Some name else None) (columns_of names)

-- names of fields behind the word `network`
abbrev pub header_of : List (List ℕ) → Option (List (List ℕ))
header_of [] = None
header_of (cell ∷ names) = if bytes_eq cell (codes "network") then columns_of names else None

-- the names of the fields in a header
unfoldable pub header_in : List ℕ → Option (List (List ℕ))
header_in line = option_and_then header_of (cells_of line)

abbrev pub behind_header : Option (List (List ℕ)) → List (List ℕ) → Result Rows ℕ
behind_header (Some names) lines = rows_of names 2 lines
behind_header None lines = Err 1

abbrev pub of_lines : List (List ℕ) → Result Rows ℕ
of_lines [] = Err 1
of_lines (line ∷ lines) = behind_header (header_in (bare line)) lines

-- the table that a file is; or the number, from 1, of the first line that is no header or row. An empty file has none
-- at 1
unfoldable pub table_in : List ℕ → Result Rows ℕ
table_in content = of_lines (lines_of content)

-- how many rows there are, bad ones too: the lines behind the first that aren't empty
unfoldable pub row_count : List ℕ → ℕ
row_count content = count_by (λ line. not (is_empty_line line)) (drop 1 (lines_of content))
