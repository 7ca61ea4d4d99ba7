use Rattle.std.proofs.Common.{Some, None}
use Rattle.module_settings.proofs.Cells.{read_parts}
use Rattle.module_settings.proofs.table.network_of.Goals as goal

pub returns-in-Ok : goal.returns-in-Ok
returns-in-Ok c = read_parts c.args.text.now (Some c.in-Ok.network) c.in-Ok.ensures.value

pub returns-in-Err : goal.returns-in-Err
returns-in-Err c = read_parts c.args.text.now None c.in-Err.ensures.value
