use Rattle.std.proofs.Common.{List, ℕ, Some, sym, ap, ◌∙◌, subst}
use Rattle.std.specs.FinMap.{insert}
use Rattle.event_model.specs.Fields.{IsField}
use Rattle.module_settings.proofs.Cells.{blank_cell, no_text, valued_cell, value_is_kept}
use Rattle.field_types.specs.declared.value.Value.TheVariants as value
use Rattle.module_settings.proofs.table.put_cell.Goals as goal

pub returns-in_default : goal.returns-in_default
returns-in_default c = no_text c.args.name.now c.args.cell.now c.args.fields c.in_default.ensures.cases.0

pub returns-then-is_empty : goal.returns-then-is_empty
returns-then-is_empty c =
    blank_cell c.args.name.now c.args.cell.now c.in-Ok.text.now c.strip.result.now c.args.fields c.in-Ok.ensures.cases.1 c.in-Ok.ensures.cases.0 c.strip.ensures
    (sym c.is_empty.ensures ∙ c.if-is_empty.true)

pub put-requires : goal.put-requires
put-requires c =
    subst (λ (key : List ℕ). IsField key c.in-Some.value) (sym c.in_ok-text_of_name.ensures)
    (value_is_kept c.args.name.now (value.Text c.in-Ok.text.now) c.in-Some.value (sym c.in_ok-value.ensures ∙ c.in-Some.is))

pub returns : goal.returns
returns c =
    ap Some (c.in_ok-put.ensures.ok ∙ ap (λ (key : List ℕ). insert c.args.fields key c.in-Some.value) c.in_ok-text_of_name.ensures)
    ∙ valued_cell c.args.name.now c.args.cell.now c.in-Ok.text.now c.strip.result.now c.args.fields (Some c.in-Some.value) c.in-Ok.ensures.cases.1 c.in-Ok.ensures.cases.0 c.strip.ensures
    (sym c.is_empty.ensures ∙ c.if-is_empty.false) (sym c.in-Some.is ∙ c.in_ok-value.ensures)
