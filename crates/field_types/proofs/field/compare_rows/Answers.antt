use Rattle.std.proofs.Common.{◌∙◌}
use Rattle.field_types.proofs.Order.{by_numbers}
use Rattle.field_types.proofs.field.compare_rows.Goals as goal

pub returns : goal.returns
returns c = c.cmp.ensures ∙ by_numbers c.args.a.number c.args.b.number c.args.a.in_table c.args.b.in_table
