use Rattle.std.proofs.Common.{◌≡◌, flat_map, subst}
use Rattle.base_types.specs.JsonText.{escaped}
use Rattle.field_types.proofs.Tables.{plain_row}
use Rattle.field_types.proofs.name.FieldName.known.Goals as goal

pub returns-in-Some-clause-plain : goal.returns-in-Some-clause-plain
returns-in-Some-clause-plain c = subst (λ name. flat_map escaped name ≡ name) c.in-Some.ensures.row (plain_row c.in-Some.row.number c.in-Some.row.in_table)
