use Rattle.base_types.specs.Lines.{lines_of}
use Rattle.module_settings.proofs.Tables.{even}
use Rattle.module_settings.proofs.table.table_in.Goals as goal

pub with_rows-requires : goal.with_rows-requires
with_rows-requires c = even c.deref.result.now 2 (lines_of c.in-Some.lines.now) c.in_ok-rows_of-in-Some-2.field-0 c.in_ok-rows_of-in-Some-2.ensures
