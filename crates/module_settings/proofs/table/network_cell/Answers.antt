use Rattle.std.proofs.Common.{◌∙◌}
use Rattle.module_settings.proofs.Cells.{cell_is_network, cell_is_none}
use Rattle.module_settings.proofs.table.network_cell.Goals as goal

pub returns-in-Ok : goal.returns-in-Ok
returns-in-Ok c =
    c.network_of.ensures
    ∙ cell_is_network c.args.cell.now c.in-Ok.text.now c.strip.result.now c.as_bytes.result.now c.in-Ok.ensures.cases.1 c.in-Ok.ensures.cases.0 c.strip.ensures c.as_bytes.ensures.value

pub returns-in-Err : goal.returns-in-Err
returns-in-Err c = cell_is_none c.args.cell.now c.in-Err.ensures.cases.0
