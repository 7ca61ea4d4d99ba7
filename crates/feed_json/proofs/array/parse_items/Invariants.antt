use Rattle.std.proofs.Common.{◌≡◌, drop, option_map}
use Rattle.serde_json.specs.View.{items_view}
use Rattle.feed_rows.specs.Rows.{and_rows, parsed}
use Rattle.feed_json.specs.Rows.{item_rows}
use Rattle.feed_json.proofs.array.parse_items.Given as goal

-- what is parsed, and the items that are left, are all items
abbrev pub invariant-items : goal.invariant-items
invariant-items l = option_map (and_rows l.all) (item_rows l.defaults l.others (items_view (drop l.tree-index l.items))) ≡ option_map parsed (item_rows l.defaults l.others (items_view l.items))
