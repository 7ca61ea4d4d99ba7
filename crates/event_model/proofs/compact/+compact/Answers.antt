use Rattle.std.proofs.Common.{◌<◌, length, get_or, ap, subst, ◌∙◌}
use Rattle.serde_json.specs.declared.value.Value.{Value}
use Rattle.std.proofs.Common.{List}
use Rattle.event_model.proofs.Written.{item_written, member_written}
use Rattle.event_model.proofs.compact.+compact.Goals as goal

pub push_array-items-preserved : goal.push_array-items-preserved
push_array-items-preserved t c =
    item_written c.args.items.now.items c.items.item-index c.item-item.result c.items.first _ _ _ _
    (subst (λ (vs : List Value). c.items.item-index < length vs) c.deref-item-items.ensures.value c.items-test.true)
    (c.item-item.is ∙ ap (λ (vs : List Value). get_or vs c.items.item-index c.item-item.result) c.deref-item-items.ensures.value)
    c.items.invariant c.in_ok-push_comma.ensures.text c.in_ok-push_compact.ensures.text

pub push_object-members-preserved : goal.push_object-members-preserved
push_object-members-preserved t c = (
  tt,
  tt,
  member_written c.args.members.now.entries _ _ (c.in-Some.key.now, c.in-Some.member.now) _ c.members.first _ _ _ _ _ _ c.in-Some.ensures.steps c.as_bytes.ensures.value
      c.members.invariant.2 c.in_ok-push_comma.ensures.text c.in_ok-push_string.ensures.text c.in_ok-push_text-2.ensures.text c.in_ok-push_compact.ensures.text,
)
