use Rattle.std.proofs.Common.{◌≡◌, ◌∙◌, ap, subst, sym, IfOk, IfSome}
use Rattle.json.specs.Json as json
use Rattle.json.specs.Value.{value_view, members_view}
use Rattle.json.proofs.Trees.{view-Object}
use Rattle.event_json.specs.Direct.{IsItem}
use Rattle.event_json.specs.Quoted.{quoted_members_view, quoted_value}
use Rattle.event_json.proofs.list_items.item_of.Goals as goal

pub returns-after-as_slice-lt1 : goal.returns-after-as_slice-lt1
returns-after-as_slice-lt1 c =
    let seen : value_view c.args.value.now ≡ json.object (members_view c.in-Object.members.items) = ap value_view c.in-Object.is ∙ view-Object c.in-Object.members in
    let same = ap (λ ms. json.object (quoted_members_view ms)) c.deref-in-Object.ensures.value in
    subst (λ j. IfOk c.object_item.result (λ found. IfSome found (IsItem j))) (same ∙ sym (ap quoted_value seen)) c.object_item.ensures
