use Rattle.std.proofs.Common.{◌≡◌, length, sym, subst, arith}
use Rattle.event_json.specs.Quoted.{quoted_view, quoted_items_view}
use Rattle.event_json.specs.Direct.{IsItem, AreItems}
use Rattle.event_json.proofs.Items.{items_end, item_more}
use Rattle.event_json.proofs.Slices.{first_of, of_some}
use Rattle.event_json.proofs.list_items.items_of.Goals as goal

pub values-preserved : goal.values-preserved
values-preserved c =
    let rest = c.values.rest.now in
    item_more c.args.values.now rest _ c.value-item.result c.values.items.items c.push.new.self.items c.in-Some.item (first_of rest c.value-item.result c.in-len1-up.len_at_least c.value-item.is)
    c.in_ok-push.ensures.items (of_some _ _ (IsItem (quoted_view c.value-item.result)) c.in-Some.is c.in_ok-item.ensures) c.values.invariant

pub returns : goal.returns
returns c =
    let none : length c.values.rest.now ≡ 0 = omega arith in
    subst (AreItems (quoted_items_view c.args.values.now)) (sym c.from.ensures) (items_end c.args.values.now c.values.rest.now c.values.items.items none c.values.invariant)
