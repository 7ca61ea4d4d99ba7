use Rattle.std.proofs.Common.{◌≡◌, ◌∷◌, ◌++◌, take, flat_map, true}
use Rattle.std.specs.List.{list_all}
use Rattle.field_types.specs.Writing.{item_text, is_utf8_item}
use Rattle.field_types.proofs.writing.push_more_items.Given as goal

abbrev pub invariant-items : goal.invariant-items
invariant-items l =
    (l.out.items ≡ l.fn.out.items ++ flat_map (λ item. 44 ∷ item_text item) (take l.item-index l.items))
    × (list_all is_utf8_item (take l.item-index l.items) ≡ true)
