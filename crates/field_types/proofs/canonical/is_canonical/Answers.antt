use Rattle.std.proofs.Common.{rules, ap, ◌∙◌}
use Rattle.field_types.specs.declared.value.Value.TheVariants as value
use Rattle.field_types.proofs.Unchanged.{stays_if, list_stays}
use Rattle.field_types.proofs.canonical.is_canonical.Goals as goal

pub returns-in_ok-given-in-Whole : goal.returns-in_ok-given-in-Whole
returns-in_ok-given-in-Whole c =
    stays_if c.args.kind c.args.value.now _ c.in_ok-given-in-Whole.field-0 c.is_the_whole.result (c.in-Whole.is ∙ ap value.Whole (search rules))
    (c.in_ok-given-in-Whole.ensures _ c.clean_whole.ensures) c.is_the_whole.ensures

pub returns-in_ok-given-in-Flag : goal.returns-in_ok-given-in-Flag
returns-in_ok-given-in-Flag c =
    stays_if c.args.kind c.args.value.now (value.Flag c.in-Flag.flag) c.in_ok-given-in-Flag.field-0 c.is_the_flag.result c.in-Flag.is
    (c.in_ok-given-in-Flag.ensures _ c.clean_flag.ensures) c.is_the_flag.ensures

pub returns-in_ok-given-in-Decimal : goal.returns-in_ok-given-in-Decimal
returns-in_ok-given-in-Decimal c =
    stays_if c.args.kind c.args.value.now _ c.in_ok-given-in-Decimal.field-0 c.is_the_decimal.result (c.in-Decimal.is ∙ ap value.Decimal (search rules))
    (c.in_ok-given-in-Decimal.ensures _ c.clean_decimal.ensures) c.is_the_decimal.ensures

pub returns-in-List : goal.returns-in-List
returns-in-List c =
    list_stays c.args.kind c.args.value.now c.in-List.items c.as_slice.result.now c.takes_items.result c.in-List.is c.as_slice.ensures c.takes_items.ensures
