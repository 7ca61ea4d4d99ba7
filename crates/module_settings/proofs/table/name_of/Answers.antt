use Rattle.std.proofs.Common.{ap, sym, ◌∙◌}
use Rattle.std.specs.Prelude.{Option, is_some, not}
use Rattle.field_types.specs.declared.kind.FieldType.{FieldType}
use Rattle.module_settings.proofs.Cells.{named_column, no_column, other_column}
use Rattle.module_settings.proofs.table.name_of.Goals as goal

pub returns-in_default : goal.returns-in_default
returns-in_default c = no_column c.args.cell.now c.in_default.ensures.cases.0

pub returns-then-is_none : goal.returns-then-is_none
returns-then-is_none c =
    other_column c.args.cell.now c.in_ok-name.name c.in-Ok.ensures.cases.1 (c.in_ok-name.ensures ∙ c.in-Ok.ensures.cases.0)
    (ap (λ (o : Option FieldType). is_some o) (sym c.kind.ensures) ∙ c.is_none.ensures ∙ ap not c.if-is_none.true)

pub returns : goal.returns
returns c =
    named_column c.args.cell.now c.in_ok-name.name c.in-Ok.ensures.cases.1 (c.in_ok-name.ensures ∙ c.in-Ok.ensures.cases.0)
    (ap (λ (o : Option FieldType). is_some o) (sym c.kind.ensures) ∙ c.is_none.ensures ∙ ap not c.if-is_none.false)
