use Rattle.std.proofs.Common.{◌-◌, ◌+◌, ◌≤◌, length}
use Rattle.std.specs.Vec.{vec_capacity}
use Rattle.queue_broker.specs.Kept.{AreMore}
use Rattle.queue_broker.proofs.lists.grow.Given as goal

abbrev pub invariant-lists : goal.invariant-lists
invariant-lists l = record {
  more : AreMore l.fn.links l.fn.free.items l.links l.free.items;
  longer : length l.fn.links.lists ≤ length l.links.lists;
  room : length l.free.items + l.hands ≤ vec_capacity l.free;
}

abbrev pub decreases-lists : goal.decreases-lists
decreases-lists l = l.count - length l.links.lists
