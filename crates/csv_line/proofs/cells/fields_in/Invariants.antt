use Rattle.std.proofs.Common.{◌≡◌, ◌-◌, ◌≤◌, length, map, take}
use Rattle.csv.specs.Records.{fields_of}
use Rattle.csv_line.proofs.cells.fields_in.Given as goal

-- the first fields of the record
abbrev pub invariant-fields : goal.invariant-fields
invariant-fields l = record {
  cells : map (λ cell. cell.now) l.cells.items ≡ take l.at (fields_of l.row);
  within : l.at ≤ length (fields_of l.row);
}

abbrev pub decreases-fields : goal.decreases-fields
decreases-fields l = length (fields_of l.row) - l.at
