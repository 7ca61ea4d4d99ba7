use Rattle.std.proofs.Common.{◌-◌, length}
use Rattle.feed_reader.proofs.Fronts.{Front}
use Rattle.feed_reader.proofs.front.read_front.Given as goal

abbrev pub invariant-slices : goal.invariant-slices
invariant-slices g l = Front (g.S.Source.source l.fn.source) (g.S.Source.source l.source) l.front.items l.most

abbrev pub decreases-slices : goal.decreases-slices
decreases-slices g l = l.most - length l.front.items
