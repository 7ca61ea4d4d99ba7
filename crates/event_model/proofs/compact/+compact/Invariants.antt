use Rattle.std.proofs.Common.{drop}
use Rattle.serde_json.specs.View.{items_view, members_view}
use Rattle.event_model.specs.Trees.{compact_items, compact_members}
use Rattle.event_model.proofs.Written.{AreWritten}
use Rattle.event_model.proofs.compact.+compact.Given as goal

abbrev pub invariant-push_array-items : goal.invariant-push_array-items
invariant-push_array-items l =
    AreWritten 91 l.first (compact_items (items_view l.items.items)) (compact_items (items_view (drop l.item-index l.items.items))) l.fn.out.items l.out.items

abbrev pub invariant-push_object-members : goal.invariant-push_object-members
invariant-push_object-members l =
    (goal.iterator-push_object-members).can_next l.key-iterator ×
    (goal.iterator-push_object-members).is_finite l.key-iterator ×
    AreWritten 123 l.first (compact_members (members_view l.members.entries)) (compact_members (members_view l.key-iterator)) l.fn.out.items l.out.items
