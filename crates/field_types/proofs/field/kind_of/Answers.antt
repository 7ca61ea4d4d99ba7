use Rattle.field_types.proofs.Tables.{kind_read}
use Rattle.field_types.proofs.field.kind_of.Goals as goal

pub returns : goal.returns
returns c = kind_read c.fields.result.now c.from.result c.args.row.number _ c.fields.ensures c.from.ensures c.args.row.in_table
