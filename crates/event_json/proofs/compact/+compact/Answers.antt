use Rattle.std.proofs.Common.{◌≡◌, ◌++◌, ◌∙◌, length, ap, subst, sym, arith}
use Rattle.json.specs.Json as json
use Rattle.json.specs.Value.{value_view, members_view}
use Rattle.json.proofs.Trees.{view-Object}
use Rattle.base_types.specs.JsonText.{quoted}
use Rattle.event_json.specs.CompactText.{PutsCompact}
use Rattle.event_json.specs.Direct.{named_values}
use Rattle.event_json.specs.Quoted.{quoted_members_view, quoted_value, quoted_view}
use Rattle.event_json.proofs.CompactTexts.{object_put, pair_more, value_more, values_end}
use Rattle.event_json.proofs.Putting.{if_taken}
use Rattle.event_json.proofs.Slices.{first_of}
use Rattle.event_json.proofs.compact.+compact.Goals as goal

pub push_compact-returns-in-Object : goal.push_compact-returns-in-Object
push_compact-returns-in-Object t c =
    let old = c.args.out.now.items in
    let new = c.push_object.new.out.items in
    let members = quoted_members_view c.deref-in-Object.result.now in
    let seen : value_view c.args.value.now ≡ json.object (members_view c.in-Object.members.items) = ap value_view c.in-Object.is ∙ view-Object c.in-Object.members in
    let same = ap (λ ms. json.object (quoted_members_view ms)) c.deref-in-Object.ensures.value in
    if_taken c.push_object.result _ _ (λ puts. subst (λ j. PutsCompact j old new) (same ∙ sym (ap quoted_value seen)) (object_put members old new puts)) c.push_object.ensures

pub push_pairs-members-preserved : goal.push_pairs-members-preserved
push_pairs-members-preserved t c =
    let rest = c.members.rest.now in
    let m = c.member-item.result in
    let mid = c.push_comma.new.out.items in
    pair_more (named_values c.args.members.now) (named_values rest) _ (m.0, quoted_view m.1.now) c.members.first
    c.args.out.now.items c.members.out.items mid c.push_quoted.new.out.items c.push-in-len1-up.new.self.items c.push_compact.new.out.items
    (ap named_values (first_of rest m c.in-len1-up.len_at_least c.member-item.is)) c.in_ok-push_comma.ensures
    (c.in_ok-push_quoted.ensures ∙ ap (λ name. mid ++ quoted name) (c.as_bytes.ensures.value ∙ c.as_str.ensures))
    c.in_ok-push-2.ensures.items (c.in_ok-push_compact.ensures c.if-not-branch.false) c.members.invariant

pub push_values-values-preserved : goal.push_values-values-preserved
push_values-values-preserved t c =
    let rest = c.values.rest.now in
    let v = c.value-item.result in
    value_more c.args.values.now rest _ v c.values.first c.args.out.now.items c.values.out.items c.push_comma.new.out.items c.push_compact.new.out.items
    (first_of rest v c.in-len1-up.len_at_least c.value-item.is) c.in_ok-push_comma.ensures (c.in_ok-push_compact.ensures c.if-not-branch.false) c.values.invariant

pub push_values-returns : goal.push_values-returns
push_values-returns t c = λ taken.
    let none : length c.values.rest.now ≡ 0 = omega arith in
    values_end c.args.values.now c.values.rest.now c.values.first c.args.out.now.items c.values.out.items c.push-2.new.self.items none c.in_ok-push-2.ensures.items c.values.invariant
