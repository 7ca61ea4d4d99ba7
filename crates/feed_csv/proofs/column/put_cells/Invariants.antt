use Rattle.std.proofs.Common.{◌≡◌, ◌+◌, length, map}
use Rattle.feed_csv.specs.Columns.{put_cells}
use Rattle.feed_csv.proofs.column.put_cells.Given as goal

-- what is left sets what all would set
abbrev pub invariant-cells : goal.invariant-cells
invariant-cells l = record {
  same : put_cells 0 l.initial.columns (map (λ cell. cell.now) l.initial.cells) l.initial.event ≡ put_cells l.before l.columns (map (λ cell. cell.now) l.cells) l.event;
  counted : l.before + length l.columns ≡ length l.initial.columns;
}

abbrev pub decreases-cells : goal.decreases-cells
decreases-cells l = length l.columns
