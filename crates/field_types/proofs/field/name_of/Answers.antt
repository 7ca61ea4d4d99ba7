use Rattle.field_types.proofs.Tables.{name_read}
use Rattle.field_types.proofs.field.name_of.Goals as goal

pub returns : goal.returns
returns c = name_read c.fields.result.now c.from.result c.args.row.number _ c.fields.ensures c.from.ensures c.args.row.in_table
