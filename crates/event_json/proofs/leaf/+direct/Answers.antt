use Rattle.std.proofs.Common.{◌≡◌, length, string_bytes, rules, w64, arith, sym, ap, subst, ◌∙◌}
use mir.Val.{to_z, of_z}
use Rattle.json.specs.Json as json
use Rattle.json.specs.Value.{value_view, items_view, members_view}
use Rattle.json.specs.declared.value.Value.{the_lemmas}
use Rattle.json.proofs.Trees.{view-Array, view-Object}
use Rattle.event_model.specs.Lenient.{member_name}
use Rattle.event_json.specs.Quoted.{quoted_value, quoted_view, quoted_items_view, quoted_members_view}
use Rattle.event_json.specs.Direct.{named_values, AreItems, PutsTree, PutsValue}
use Rattle.field_types.specs.declared.value.Value.TheVariants as as_value
use Rattle.event_json.proofs.Putting.{decimal_put, flag_put, if_taken, list_put, member_more, members_end, null_put}
use Rattle.event_json.proofs.Placing.{named-length}
use Rattle.event_json.proofs.Slices.{first_of, of_some, only_of}
use Rattle.event_json.proofs.leaf.+direct.Goals as goal

pub push_members-members-preserved : goal.push_members-members-preserved
push_members-members-preserved t c =
    let rest = c.members.rest.now in
    let m = c.member-item.result in
    let named =
    of_some _ _ (λ name. string_bytes name ≡ member_name c.as_str.result.now c.as_str-in-len1-up.result.now) c.in-Some.is c.in_ok-name.ensures
    ∙ ap (λ k. member_name k c.as_str-in-len1-up.result.now) c.as_str.ensures
    ∙ ap (member_name c.args.key.now) c.as_str-in-len1-up.ensures in
    let here = c.in_ok-push_tree.ensures c.if-not-branch.false in
    member_more c.args.key.now (named_values c.args.members.now) (named_values rest) _ (m.0, quoted_view m.1.now) _ _ _ (ap named_values (first_of rest m c.in-len1-up.len_at_least c.member-item.is))
    (subst (λ k. PutsTree k (quoted_view m.1.now) c.members.line c.push_tree.new.line) (c.new.ensures ∙ c.deref.ensures ∙ named) here) c.members.invariant

pub push_object-returns-in-Some : goal.push_object-returns-in-Some
push_object-returns-in-Some t c =
    let m = c.member-item.result in
    let new = c.push_value.new.line in
    let same : to_z w64 (of_z w64 c.in-Some.n) ≡ c.in-Some.n = search rules in
    if_taken c.push_value.result _ _
    (λ puts. decimal_put c.args.key.now m c.args.members.now c.in-Some.n c.args.line.now new (only_of c.args.members.now m c.in-len1.len_at_least c.in-len1.len_below c.member-item.is) c.in-Some.ensures
    (subst (λ n. PutsValue c.args.key.now (as_value.Decimal n) c.args.line.now new) same puts))
    c.push_value.ensures

pub push_tree-returns-in-Null : goal.push_tree-returns-in-Null
push_tree-returns-in-Null t c = λ taken.
    let seen : value_view c.args.value.now ≡ json.null = ap value_view c.in-Null.is ∙ search (rules, the_lemmas) in
    subst (λ j. PutsTree c.args.key.now j c.args.line.now c.args.line.now) (sym (ap quoted_value seen)) (null_put c.args.key.now c.args.line.now)

pub push_tree-returns-in-Bool : goal.push_tree-returns-in-Bool
push_tree-returns-in-Bool t c =
    let seen : value_view c.args.value.now ≡ json.boolean c.in-Bool.flag = ap value_view c.in-Bool.is ∙ search (rules, the_lemmas) in
    if_taken c.push_value.result _ _
    (λ puts. subst (λ j. PutsTree c.args.key.now j c.args.line.now c.push_value.new.line) (sym (ap quoted_value seen)) (flag_put c.args.key.now c.in-Bool.flag c.args.line.now c.push_value.new.line puts))
    c.push_value.ensures

pub push_tree-returns-in-Number : goal.push_tree-returns-in-Number
push_tree-returns-in-Number t c =
    let seen : value_view c.args.value.now ≡ json.number c.in-Number.numeral.now = ap value_view c.in-Number.is ∙ search (rules, the_lemmas) in
    if_taken c.push_number.result _ _ (λ puts. subst (λ j. PutsTree c.args.key.now j c.args.line.now c.push_number.new.line) (sym (ap quoted_value seen)) puts) c.push_number.ensures

pub push_tree-returns-in-Some : goal.push_tree-returns-in-Some
push_tree-returns-in-Some t c =
    let seen : value_view c.args.value.now ≡ json.array (items_view c.in-Array.values.items) = ap value_view c.in-Array.is ∙ view-Array c.in-Array.values in
    let items = of_some _ _ (AreItems (quoted_items_view c.deref.result.now)) c.in-Some.is c.in_ok-items-in-Array.ensures in
    let same = ap (λ vs. json.array (quoted_items_view vs)) c.deref.ensures.value in
    let new = c.push_value-in-Some.new.line in
    if_taken c.push_value-in-Some.result _ _
    (λ puts. subst (λ j. PutsTree c.args.key.now j c.args.line.now new) (same ∙ sym (ap quoted_value seen)) (list_put c.args.key.now (quoted_items_view c.deref.result.now) c.in-Some.items c.args.line.now new items puts))
    c.push_value-in-Some.ensures

pub push_tree-returns-in-Object : goal.push_tree-returns-in-Object
push_tree-returns-in-Object t c =
    let seen : value_view c.args.value.now ≡ json.object (members_view c.in-Object.members.items) = ap value_view c.in-Object.is ∙ view-Object c.in-Object.members in
    let same = ap (λ ms. json.object (quoted_members_view ms)) c.deref-in-Object.ensures.value in
    if_taken c.push_object.result _ _ (λ puts. subst (λ j. PutsTree c.args.key.now j c.args.line.now c.push_object.new.line) (same ∙ sym (ap quoted_value seen)) puts) c.push_object.ensures

pub push_members-returns : goal.push_members-returns
push_members-returns t c = λ taken.
    let none : length c.members.rest.now ≡ 0 = omega arith in
    members_end c.args.key.now (named_values c.args.members.now) (named_values c.members.rest.now) c.args.line.now c.members.line (sym (named-length c.members.rest.now) ∙ none) c.members.invariant
