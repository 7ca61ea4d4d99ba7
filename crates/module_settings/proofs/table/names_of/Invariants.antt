use Rattle.std.proofs.Common.{◌≡◌, map, drop}
use Rattle.event_model.proofs.Written.{in_front}
use Rattle.module_settings.specs.Table.{columns_of}
use Rattle.module_settings.proofs.table.names_of.Given as goal

abbrev pub invariant-cells : goal.invariant-cells
invariant-cells l = columns_of (map (λ cell. cell.now) l.cells) ≡ in_front l.names.items (columns_of (map (λ cell. cell.now) (drop l.cell-index l.cells)))
