use Rattle.std.proofs.Common.{◌≡◌, rules, w64, subst}
use mir.Val.{to_z, of_z}
use Rattle.field_types.specs.declared.value.Value.TheVariants as as_value
use Rattle.event_json.specs.Direct.{PutsValue}
use Rattle.event_json.proofs.Putting.{if_taken, numeral_put, whole_put}
use Rattle.event_json.proofs.leaf.push_number.Goals as goal

pub returns-in-Some : goal.returns-in-Some
returns-in-Some c =
    let same : to_z w64 (of_z w64 c.in-Some.n) ≡ c.in-Some.n = search rules in
    if_taken c.push_value.result _ _
    (λ puts. whole_put c.args.key.now c.args.numeral.now c.in-Some.n c.args.line.now c.push_value.new.line c.in-Some.ensures
    (subst (λ n. PutsValue c.args.key.now (as_value.Whole n) c.args.line.now c.push_value.new.line) same puts))
    c.push_value.ensures

pub returns-in-Some-decimal_in : goal.returns-in-Some-decimal_in
returns-in-Some-decimal_in c =
    let same : to_z w64 (of_z w64 c.in-Some-decimal_in.n) ≡ c.in-Some-decimal_in.n = search rules in
    if_taken c.push_value-in-Some-decimal_in.result _ _
    (λ puts. numeral_put c.args.key.now c.args.numeral.now c.in-Some-decimal_in.n c.args.line.now c.push_value-in-Some-decimal_in.new.line c.in-Some-decimal_in.ensures
    (subst (λ n. PutsValue c.args.key.now (as_value.Decimal n) c.args.line.now c.push_value-in-Some-decimal_in.new.line) same puts))
    c.push_value-in-Some-decimal_in.ensures
