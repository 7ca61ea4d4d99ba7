use Rattle.std.proofs.Common.{◌≡◌, rules, w64, sym, subst}
use mir.Val.{to_z, of_z}
use Rattle.json.specs.Json as json
use Rattle.field_types.specs.declared.value.Item.TheVariants as as_item
use Rattle.event_json.specs.Direct.{IsItem}
use Rattle.event_json.specs.Quoted.{quoted_value}
use Rattle.event_json.proofs.Items.{decimal_item, whole_item}
use Rattle.event_json.proofs.list_items.number_item.Goals as goal

pub returns-in-Some : goal.returns-in-Some
returns-in-Some c =
    let same : to_z w64 (of_z w64 c.in-Some.n) ≡ c.in-Some.n = search rules in
    subst (λ n. IsItem (quoted_value (json.number c.args.numeral.now)) (as_item.Whole n)) (sym same) (whole_item c.args.numeral.now c.in-Some.n c.in-Some.ensures)

pub returns-in-Some-decimal_in : goal.returns-in-Some-decimal_in
returns-in-Some-decimal_in c =
    let same : to_z w64 (of_z w64 c.in-Some-decimal_in.n) ≡ c.in-Some-decimal_in.n = search rules in
    subst (λ n. IsItem (quoted_value (json.number c.args.numeral.now)) (as_item.Decimal n)) (sym same) (decimal_item c.args.numeral.now c.in-Some-decimal_in.n c.in-Some-decimal_in.ensures)
