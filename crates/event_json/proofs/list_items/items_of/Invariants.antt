use Rattle.std.proofs.Common.{length}
use Rattle.event_json.proofs.Items.{ItemsOn}
use Rattle.event_json.proofs.list_items.items_of.Given as goal

abbrev pub invariant-values : goal.invariant-values
invariant-values l = ItemsOn l.values l.rest l.items.items

abbrev pub decreases-values : goal.decreases-values
decreases-values l = length l.rest
