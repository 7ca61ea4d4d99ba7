use Rattle.std.proofs.Common.{◌≡◌, take, true}
use Rattle.std.specs.List.{list_all}
use Rattle.field_types.specs.Writing.{is_utf8_item}
use Rattle.event_json.proofs.message_line.prove_utf8_items.Given as goal

abbrev pub invariant-items : goal.invariant-items
invariant-items l = list_all is_utf8_item (take l.item-index l.items) ≡ true
