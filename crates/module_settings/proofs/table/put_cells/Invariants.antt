use Rattle.std.proofs.Common.{◌≡◌, length, map}
use Rattle.module_settings.specs.Table.{put_cells}
use Rattle.module_settings.proofs.table.put_cells.Given as goal

-- what is left sets what all would set
abbrev pub invariant-cells : goal.invariant-cells
invariant-cells l =
    put_cells l.initial.names (map (λ cell. cell.now) l.initial.cells) l.initial.fields ≡ put_cells l.names (map (λ cell. cell.now) l.cells) l.fields

abbrev pub decreases-cells : goal.decreases-cells
decreases-cells l = length l.cells
