use Rattle.std.proofs.Common.{suc, length}
use Rattle.event_text.specs.Decode.{items_at}
use Rattle.event_text.proofs.Values.{AreLeft}
use Rattle.event_text.proofs.value.items_at.Given as goal

abbrev pub invariant-items : goal.invariant-items
invariant-items l = AreLeft (items_at (suc (length l.inside)) l.inside) l.items.items l.rest

abbrev pub decreases-items : goal.decreases-items
decreases-items l = length l.rest
