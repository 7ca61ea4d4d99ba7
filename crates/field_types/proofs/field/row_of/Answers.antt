use Rattle.std.proofs.Common.{get_or, slice_get, is_some, option_and_then, sym, ap, ◌∙◌}
use Rattle.field_types.specs.Hash.{if_named}
use Rattle.field_types.specs.Names.{bytes_in_row}
use Rattle.field_types.specs.declared.field.TheConstants as table
use Rattle.field_types.proofs.Tables.{is_in_row, in_no_row}
use Rattle.field_types.proofs.field.row_of.Goals as goal

pub returns-then-is_named-clause-row : goal.returns-then-is_named-clause-row
returns-then-is_named-clause-row c =
    let name = c.args.name.now in
    ap bytes_in_row (sym c.from.ensures)
    ∙ (is_in_row name c.from.result (
    ap (λ all. is_some (option_and_then (if_named name) (slice_get all c.from.result))) (sym c.fields.ensures) ∙ sym c.is_named.ensures.named ∙ c.if-is_named.true
    )).1

pub returns-else-is_named-clause-row : goal.returns-else-is_named-clause-row
returns-else-is_named-clause-row c =
    let name = c.args.name.now in
    in_no_row name c.from.result (c.from.ensures ∙ ap (λ h. get_or table.ROWS h 0) c.hash.ensures.value)
    (ap (λ all. is_some (option_and_then (if_named name) (slice_get all c.from.result))) (sym c.fields.ensures) ∙ sym c.is_named.ensures.named ∙ c.if-is_named.false)
